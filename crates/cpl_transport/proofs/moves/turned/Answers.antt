use Rattle.std.proofs.Common.{◌≡◌, arith, pos, neg_ℤ, ◌-ℤ◌, ℤ, to_z, of_z, w64}
use Rattle.std.proofs.lemmas.Int.{ints}
use Rattle.cpl_transport.specs.Salts.{IsSmall}
use Rattle.cpl_transport.proofs.moves.turned.Goals as goal

negated : (x : ℤ) → IsSmall x → to_z w64 (of_z w64 (pos 0 -ℤ to_z w64 (of_z w64 x))) ≡ neg_ℤ x
negated x h = omega (arith, ints, h.0, h.1)

pub returns : goal.returns
returns c =
    let water = negated c.args.it.water c.requires.water in
    let heat = negated c.args.it.heat c.requires.heat in
    let salt = negated c.args.it.salt c.requires.salt in
    λ i. record { water = water i; heat = heat i; salt = salt i }
