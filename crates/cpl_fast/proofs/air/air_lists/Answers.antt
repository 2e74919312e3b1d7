use Rattle.std.proofs.Common.{◌≡◌, ◌∙◌, sym, ap, ℕ, arith, to_z, of_z, w64, length}
use Rattle.std.specs.Int.{w128}
use Rattle.std.specs.Prelude.{ℤ, pos, ◌+ℤ◌}
use Rattle.std.proofs.lemmas.Int.{ints}
use Rattle.cpl_diffusion.proofs.Sums.{sum_to}
use Rattle.cpl_laws.proofs.Sums.{total_range}
use Rattle.cpl_fast.specs.declared.air.Rained.{Rained}
use Rattle.cpl_fast.specs.Air.{rained_at}
use Rattle.cpl_fast.specs.Flows.{sky_at}
use Rattle.cpl_fast.proofs.Places.{written}
use Rattle.cpl_fast.proofs.Small.{sum_to_more}
use Rattle.cpl_fast.proofs.air.air_lists.Goals as goal

pub loop-n-preserved : goal.loop-n-preserved
loop-n-preserved c =
    let n = c.loop-n.n in
    let after = c.air_cell-after.result in
    let f : ℕ → Rained = λ k. rained_at c.args.rates.now c.args.xgrid.now (sky_at c.args.skies.now k).air c.args.flows.now k in
    let is = c.air_cell-after.ensures.value in
    let heat_passed : to_z w64 (of_z w64 after.heat) ≡ after.heat = omega (arith, ints) in
    let vapour_passed : to_z w64 (of_z w64 after.vapour) ≡ after.vapour = omega (arith, ints) in
    let rain_passed : to_z w64 (of_z w64 after.rain) ≡ after.rain = omega (arith, ints) in
    let gone = ap (λ (r : Rained). r.space) is in
    let more = sum_to_more (λ k. (f k).space) n in
    let so_far = c.loop-n.invariant.left in
    let least = c.loop-n.invariant.least in
    let most = c.loop-n.invariant.most in
    let range = c.air_cell-after.ensures.space in
    let low = range.0 in
    let high = range.1 in
    let from = c.from-left.ensures in
    let read = c.loop-n.left-is in
    let sum : to_z w128 (of_z w128 (to_z w128 c.loop-n.left-bits +ℤ to_z w128 (of_z w128 c.from-left.result))) ≡ to_z w128 c.loop-n.left-bits +ℤ after.space = omega (arith, ints) in
    record {
      heat = written (λ k. (f k).heat) c.loop-n.heat n (pos 0) _ (omega arith) c.loop-n.invariant.heat (heat_passed ∙ ap (λ (r : Rained). r.heat) is);
      vapour = written (λ k. (f k).vapour) c.loop-n.vapour n (pos 0) _ (omega arith) c.loop-n.invariant.vapour (vapour_passed ∙ ap (λ (r : Rained). r.vapour) is);
      rain = written (λ k. (f k).rain) c.loop-n.rain n (pos 0) _ (omega arith) c.loop-n.invariant.rain (rain_passed ∙ ap (λ (r : Rained). r.rain) is);
      left = sum ∙ (λ i. so_far i +ℤ gone i) ∙ sym more;
      least = omega (arith, ints);
      most = omega (arith, ints);
    }

pub returns-clause-space : goal.returns-clause-space
returns-clause-space c =
    let f : ℕ → ℤ = λ k. (rained_at c.args.rates.now c.args.xgrid.now (sky_at c.args.skies.now k).air c.args.flows.now k).space in
    let n : c.loop-n.n ≡ length c.args.skies.now = omega arith in
    c.loop-n.invariant.left ∙ ap (sum_to f) n ∙ sym (total_range f (length c.args.skies.now))
