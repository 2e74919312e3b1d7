use Rattle.std.proofs.Common.{◌≡◌, arith, ◌+ℤ◌, ◌-ℤ◌, ℤ}
use Rattle.std.proofs.lemmas.Int.{ints}
use Rattle.cpl_fixed.specs.Amounts.{IsAmount}
use Rattle.cpl_transport.specs.Salts.{IsSmall}
use Rattle.cpl_transport.proofs.Bounds.{read}
use Rattle.cpl_transport.proofs.cells.after_exchange.Goals as goal

less : (x y z : ℤ) → IsAmount x → IsSmall y → IsSmall z → read (read (read x +ℤ read y) -ℤ read z) ≡ x +ℤ y -ℤ z
less x y z h k l = omega (arith, ints, h.0, h.1, k.0, k.1, l.0, l.1)

pub returns : goal.returns
returns c =
    let here = c.requires.here in
    let above = c.requires.from_above in
    let down = c.requires.down in
    let water = less c.args.here.water c.args.from_above.water c.args.down.water here.water above.water down.water in
    let heat = less c.args.here.heat c.args.from_above.heat c.args.down.heat here.heat above.heat down.heat in
    let salt = less c.args.here.salt c.args.from_above.salt c.args.down.salt here.salt above.salt down.salt in
    λ i. record { water = water i; heat = heat i; salt = salt i }
