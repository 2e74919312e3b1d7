use Rattle.std.proofs.Common.{◌≡◌, ◌∙◌, ap, arith, ◌-ℤ◌, w64, to_z, of_z}
use Rattle.std.proofs.lemmas.Int.{ints}
use Rattle.cpl_fixed.specs.declared.gain.Gain.{Gain}
use Rattle.cpl_land.proofs.cell.LandCell.slow.Goals as goal

pub returns-clause-value : goal.returns-clause-value
returns-clause-value c =
    let heat : to_z w64 (of_z w64 (to_z w64 (of_z w64 c.args.self.now.heat) -ℤ to_z w64 (of_z w64 c.runoff-runoff.result.heat))) ≡ c.args.self.now.heat -ℤ c.runoff-runoff.result.heat = omega (arith, ints) in
    let water : to_z w64 (of_z w64 (to_z w64 (of_z w64 c.args.self.now.water) -ℤ to_z w64 (of_z w64 c.runoff-runoff.result.water))) ≡ c.args.self.now.water -ℤ c.runoff-runoff.result.water = omega (arith, ints) in
    let left_heat = heat ∙ ap (λ (r : Gain). c.args.self.now.heat -ℤ r.heat) c.runoff-runoff.ensures.value in
    let left_water = water ∙ ap (λ (r : Gain). c.args.self.now.water -ℤ r.water) c.runoff-runoff.ensures.value in
    λ i. record { heat = left_heat i; water = left_water i; area = c.args.self.now.area }
