use Rattle.std.proofs.Common.{◌≡◌, arith, to_z, of_z, w64}
use Rattle.std.specs.Prelude.{pos, ◌-ℤ◌, ◌*ℤ◌}
use Rattle.std.proofs.lemmas.Int.{ints}
use Rattle.cpl_fast.proofs.Parts.{amount_passed}
use Rattle.cpl_fast.proofs.air.after_rain.Goals as goal

pub returns : goal.returns
returns c =
    let a = c.requires.heat in let b = c.requires.vapour in let r = c.requires.rain in
    let a0 = a.0 in let a1 = a.1 in let b0 = b.0 in let b1 = b.1 in let r0 = r.0 in let r1 = r.1 in
    let heat : to_z w64 (of_z w64 (to_z w64 (of_z w64 c.args.heat) -ℤ to_z w64 (of_z w64 (pos 1_426 *ℤ to_z w64 (of_z w64 c.args.rain))))) ≡ c.args.heat -ℤ (pos 1_426 *ℤ c.args.rain) = omega (arith, ints) in
    let vapour : to_z w64 (of_z w64 (to_z w64 (of_z w64 c.args.vapour) -ℤ to_z w64 (of_z w64 c.args.rain))) ≡ c.args.vapour -ℤ c.args.rain = omega (arith, ints) in
    let rain = amount_passed c.args.rain r in
    let space = amount_passed c.args.space c.requires.space in
    λ i. record { heat = heat i; vapour = vapour i; rain = rain i; space = space i }
