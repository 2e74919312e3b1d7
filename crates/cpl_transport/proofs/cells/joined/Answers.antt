use Rattle.std.proofs.Common.{◌≡◌, arith, ◌+ℤ◌, ℤ}
use Rattle.std.proofs.lemmas.Int.{ints}
use Rattle.cpl_fixed.specs.Amounts.{IsAmount}
use Rattle.cpl_transport.proofs.Bounds.{read}
use Rattle.cpl_transport.proofs.cells.joined.Goals as goal

added : (x y : ℤ) → IsAmount x → IsAmount y → IsAmount (x +ℤ y) → read (read x +ℤ read y) ≡ x +ℤ y
added x y h k l = omega (arith, ints, h.0, h.1, k.0, k.1, l.0, l.1)

pub returns : goal.returns
returns c =
    let here = c.requires.here in
    let more = c.requires.more in
    let together = c.requires.together in
    let water = added c.args.here.water c.args.more.water here.water more.water together.water in
    let heat = added c.args.here.heat c.args.more.heat here.heat more.heat together.heat in
    let salt = added c.args.here.salt c.args.more.salt here.salt more.salt together.salt in
    λ i. record { water = water i; heat = heat i; salt = salt i }
