use Rattle.std.proofs.Common.{◌≡◌, ◌∙◌, ap, arith, pos, ◌/◌, ◌-ℤ◌, ℤ}
use Rattle.std.proofs.lemmas.Int.{ints}
use Rattle.cpl_fixed.specs.Amounts.{IsAmount, amount}
use Rattle.cpl_ice.specs.declared.parts.Salty.{Salty}
use Rattle.cpl_transport.proofs.Bounds.{read}
use Rattle.cpl_transport.proofs.cuts.unskinned.Goals as goal

rest : (x : ℤ) → IsAmount x → read (read x -ℤ read (pos (amount x / 4))) ≡ x -ℤ pos (amount x / 4)
rest x h = omega (arith, ints, h.0, h.1)

rest_is : (x s : ℤ) → IsAmount x → s ≡ pos (amount x / 4) → read (read x -ℤ read s) ≡ x -ℤ pos (amount x / 4)
rest_is x s h e = ap (λ (t : ℤ). read (read x -ℤ read t)) e ∙ rest x h

pub returns : goal.returns
returns c =
    let it = c.args.it in
    let skin = c.requires.skin in
    let water = rest_is it.water c.args.skin.water c.requires.it.water (ap (λ (s : Salty). s.water) skin) in
    let heat = rest_is it.heat c.args.skin.heat c.requires.it.heat (ap (λ (s : Salty). s.heat) skin) in
    let salt = rest_is it.salt c.args.skin.salt c.requires.it.salt (ap (λ (s : Salty). s.salt) skin) in
    λ i. record { water = water i; heat = heat i; salt = salt i }
