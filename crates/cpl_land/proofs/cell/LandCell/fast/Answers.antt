use Rattle.std.proofs.Common.{◌≡◌, arith, ◌+ℤ◌, w64, to_z, of_z}
use Rattle.std.proofs.lemmas.Int.{ints}
use Rattle.cpl_land.proofs.cell.LandCell.fast.Goals as goal

pub returns-clause-value : goal.returns-clause-value
returns-clause-value c =
    let heat : to_z w64 (of_z w64 (to_z w64 (of_z w64 c.args.self.now.heat) +ℤ to_z w64 (of_z w64 c.args.gain.heat))) ≡ c.args.self.now.heat +ℤ c.args.gain.heat = omega (arith, ints) in
    let water : to_z w64 (of_z w64 (to_z w64 (of_z w64 c.args.self.now.water) +ℤ to_z w64 (of_z w64 c.args.gain.water))) ≡ c.args.self.now.water +ℤ c.args.gain.water = omega (arith, ints) in
    λ i. record { heat = heat i; water = water i; area = c.args.self.now.area }
