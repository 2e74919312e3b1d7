use Rattle.std.proofs.Common.{◌≡◌, ◌∙◌, ap, ◌^◌, arith, to_z, of_z, w64}
use Rattle.std.proofs.lemmas.Int.{ints}
use Rattle.cpl_fast.specs.declared.sums.Sums.{Sums}
use Rattle.cpl_fast.specs.Surfaces.{land_at}
use Rattle.cpl_fast.specs.Sums.{after, taken}
use Rattle.cpl_fast.proofs.Small.{passed_small, wider}
use Rattle.cpl_fast.proofs.land.land_cell.Goals as goal

pub returns-clause-value : goal.returns-clause-value
unfolding land_at
returns-clause-value c =
    let sums = c.land_sums-sums.result in
    let is = c.land_sums-sums.ensures.value in
    let heat : to_z w64 (of_z w64 c.args.heat) ≡ c.args.heat = omega (arith, ints) in
    let water : to_z w64 (of_z w64 c.args.water) ≡ c.args.water = omega (arith, ints) in
    let sun = passed_small sums.sun (wider (2 ^ 30) (2 ^ 60) sums.sun (omega arith) c.land_sums-sums.ensures.small.sun) ∙ ap (λ (s : Sums). s.sun) is in
    let takes = c.taken_by.ensures.value ∙ ap taken is in
    c.gain.ensures ∙ (λ i. after (heat i) (water i) (takes i) (sun i))
