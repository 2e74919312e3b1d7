use Rattle.std.proofs.Common.{◌≡◌, ◌∙◌, ap, ℕ, ◌+◌, ◌*◌, ◌^◌, arith, to_z, of_z, w64}
use Rattle.std.specs.Prelude.{pos}
use Rattle.std.proofs.lemmas.Int.{ints}
use Rattle.cpl_fixed.specs.Amounts.{at}
use Rattle.cpl_fast.specs.declared.sums.After.{After}
use Rattle.cpl_fast.specs.Surfaces.{land_at}
use Rattle.cpl_fast.proofs.Made.{one_more}
use Rattle.cpl_fast.proofs.Places.{ahead_stay, written}
use Rattle.cpl_fast.proofs.Small.{taken_smaller}
use Rattle.cpl_fast.proofs.land.land_lists.Goals as goal

pub loop-n-preserved : goal.loop-n-preserved
loop-n-preserved c =
    let n = c.loop-n.n in
    let inv = c.loop-n.invariant in
    let done = c.land_cell-after.result in
    let f : ℕ → After = λ k. land_at c.args.xgrid.now c.args.flows.now (at c.args.heat.now k) (at c.args.water.now k) k in
    let heat_read : to_z w64 (of_z w64 (at c.loop-n.heat n)) ≡ at c.loop-n.heat n = omega (arith, ints) in
    let water_read : to_z w64 (of_z w64 (at c.loop-n.water n)) ≡ at c.loop-n.water n = omega (arith, ints) in
    let heat_is = heat_read ∙ inv.heat_ahead n (omega arith) in
    let water_is = water_read ∙ inv.water_ahead n (omega arith) in
    let is = c.land_cell-after.ensures.value ∙ (λ i. land_at c.args.xgrid.now c.args.flows.now (heat_is i) (water_is i) n) in
    let heat_passed : to_z w64 (of_z w64 done.heat) ≡ done.heat = omega (arith, ints) in
    let water_passed : to_z w64 (of_z w64 done.water) ≡ done.water = omega (arith, ints) in
    record {
      heat = written (λ k. (f k).heat) c.loop-n.heat n (pos 0) _ (omega arith) inv.heat (heat_passed ∙ ap (λ (a : After). a.heat) is);
      water = written (λ k. (f k).water) c.loop-n.water n (pos 0) _ (omega arith) inv.water (water_passed ∙ ap (λ (a : After). a.water) is);
      heat_ahead = ahead_stay c.loop-n.heat c.args.heat.now n (pos 0) _ inv.heat_ahead;
      water_ahead = ahead_stay c.loop-n.water c.args.water.now n (pos 0) _ inv.water_ahead;
      taken = one_more c.loop-n.all done.taken c.add.new.self n (λ k. (f k).taken) c.add.ensures.value inv.taken (ap (λ (a : After). a.taken) is);
      small = taken_smaller (n * 2 ^ 44 + 3 * 2 ^ 42) ((n + 1) * 2 ^ 44) c.add.new.self (omega arith) (c.add.ensures.small (n * 2 ^ 44) (3 * 2 ^ 42) inv.small c.land_cell-after.ensures.small);
    }
