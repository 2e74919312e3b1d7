use Rattle.std.proofs.Common.{◌≡◌, arith, ◌-ℤ◌, ℤ}
use Rattle.std.proofs.lemmas.Int.{ints}
use Rattle.cpl_fixed.specs.Amounts.{IsAmount}
use Rattle.cpl_transport.proofs.Bounds.{read}
use Rattle.cpl_transport.specs.Cells.{IsFew}
use Rattle.cpl_transport.proofs.cells.without.Goals as goal

less : (x y : ℤ) → IsAmount x → IsFew y → read (read x -ℤ read y) ≡ x -ℤ y
less x y h k = omega (arith, ints, h.0, h.1, k.0, k.1)

pub returns : goal.returns
returns c =
    let here = c.requires.here in
    let out = c.requires.out in
    let water = less c.args.here.water c.args.out.water here.water out.water in
    let heat = less c.args.here.heat c.args.out.heat here.heat out.heat in
    let salt = less c.args.here.salt c.args.out.salt here.salt out.salt in
    λ i. record { water = water i; heat = heat i; salt = salt i }
