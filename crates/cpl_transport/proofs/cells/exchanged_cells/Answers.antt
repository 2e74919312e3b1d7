use Rattle.std.proofs.Common.{◌≡◌, ◌∙◌, arith, ℕ, ℤ}
use Rattle.std.proofs.lemmas.Int.{ints}
use Rattle.cpl_fixed.specs.Amounts.{IsAmount}
use Rattle.cpl_transport.specs.Mixing.{exchanged}
use Rattle.cpl_transport.specs.Salts.{IsSmall}
use Rattle.cpl_transport.proofs.Bounds.{own_amount, read}
use Rattle.cpl_transport.proofs.cells.exchanged_cells.Goals as goal

value : (mix : ℕ) (r upper lower : ℤ) → IsAmount upper → IsAmount lower → r ≡ exchanged mix (read upper) (read lower) → IsSmall r → read r ≡ exchanged mix upper lower
value mix r upper lower h k e small =
    let own : read r ≡ r = omega (arith, ints, small.0, small.1) in
    own ∙ e ∙ (λ i. exchanged mix (own_amount upper h i) (own_amount lower k i))

pub returns-clause-value : goal.returns-clause-value
returns-clause-value c =
    let upper = c.requires.upper in
    let lower = c.requires.lower in
    let water = value c.args.mix c.exchanged.result c.args.upper.water c.args.lower.water upper.water lower.water c.exchanged.ensures.value c.exchanged.ensures.small in
    let heat = value c.args.mix c.exchanged-2.result c.args.upper.heat c.args.lower.heat upper.heat lower.heat c.exchanged-2.ensures.value c.exchanged-2.ensures.small in
    let salt = value c.args.mix c.exchanged-3.result c.args.upper.salt c.args.lower.salt upper.salt lower.salt c.exchanged-3.ensures.value c.exchanged-3.ensures.small in
    λ i. record { water = water i; heat = heat i; salt = salt i }
