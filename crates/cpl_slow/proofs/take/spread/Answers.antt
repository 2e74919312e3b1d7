use Rattle.std.proofs.Common.{◌≡◌, refl, subst, ℕ, ◌*◌, ◌<◌, ◌≤◌, arith, List, length}
use Rattle.std.specs.Prelude.{ℤ, pos}
use Rattle.std.proofs.lemmas.List.FromFn.{fill_by_all}
use Rattle.cpl_fixed.specs.Amounts.{at}
use Rattle.cpl_state.specs.States.{of_cell}
use Rattle.cpl_state.specs.FastStep.{for_each}
use Rattle.cpl_slow.specs.Blocks.{IsPartWay}
use Rattle.cpl_slow.proofs.Writes.{part_way_all}
use Rattle.cpl_slow.proofs.take.spread.Goals as goal

-- a list whose cells all have their numbers
spread_all : (place count n : ℕ) (flights xs : List ℤ) → length xs ≡ count → count ≤ n → ((k : ℕ) → k < n → at xs k ≡ of_cell 5 k place flights) → xs ≡ for_each count (λ n. of_cell 5 n place flights)
spread_all place count n flights xs e all done = fill_by_all (λ n. of_cell 5 n place flights) xs count (pos 0) e (λ k l. done k (omega (arith, l, all)))

pub returns-clause-frazil_water : goal.returns-clause-frazil_water
returns-clause-frazil_water c =
    spread_all 0 (length c.args.frazil_water.now) c.loop-n.n c.args.flights.now c.loop-n.frazil_water (omega (arith, c.loop-n.auto.frazil_water)) (omega (arith, c.loop-n-test.false, c.loop-n.auto.frazil_water)) c.loop-n.invariant.frazil_water

pub returns-clause-frazil_heat : goal.returns-clause-frazil_heat
returns-clause-frazil_heat c =
    spread_all 1 (length c.args.frazil_water.now) c.loop-n.n c.args.flights.now c.loop-n.frazil_heat (omega (arith, c.loop-n.auto.frazil_heat, c.requires.frazil_heat)) (omega (arith, c.loop-n-test.false, c.loop-n.auto.frazil_water)) c.loop-n.invariant.frazil_heat

pub returns-clause-skin_water : goal.returns-clause-skin_water
returns-clause-skin_water c =
    spread_all 2 (length c.args.frazil_water.now) c.loop-n.n c.args.flights.now c.loop-n.skin_water (omega (arith, c.loop-n.auto.skin_water, c.requires.skin_water)) (omega (arith, c.loop-n-test.false, c.loop-n.auto.frazil_water)) c.loop-n.invariant.skin_water

pub returns-clause-skin_heat : goal.returns-clause-skin_heat
returns-clause-skin_heat c =
    spread_all 3 (length c.args.frazil_water.now) c.loop-n.n c.args.flights.now c.loop-n.skin_heat (omega (arith, c.loop-n.auto.skin_heat, c.requires.skin_heat)) (omega (arith, c.loop-n-test.false, c.loop-n.auto.frazil_water)) c.loop-n.invariant.skin_heat

pub returns-clause-skin_salt : goal.returns-clause-skin_salt
returns-clause-skin_salt c =
    spread_all 4 (length c.args.frazil_water.now) c.loop-n.n c.args.flights.now c.loop-n.skin_salt (omega (arith, c.loop-n.auto.skin_salt, c.requires.skin_salt)) (omega (arith, c.loop-n-test.false, c.loop-n.auto.frazil_water)) c.loop-n.invariant.skin_salt

pub returns-clause-flights : goal.returns-clause-flights
returns-clause-flights c =
    let all : c.loop-n.n * 5 ≡ length c.args.flights.now = omega (arith, c.loop-n-test.false, c.loop-n.auto.frazil_water, c.loop-n.auto.n-end, c.requires.flights) in
    part_way_all (length c.args.flights.now) (λ i. pos 0) c.args.flights.now c.loop-n.flights refl (subst (λ (count : ℕ). IsPartWay count (λ i. pos 0) c.args.flights.now c.loop-n.flights) all c.loop-n.invariant.flights)
