-- Sums of 128 bits, as words have them.
use Rattle.std.proofs.Common.{◌≡◌, ◌∙◌, sym, ap, subst, arith, to_z, of_z, w64}
use Rattle.std.specs.Prelude.{ℤ, pos, ◌+ℤ◌, ◌≤ℤ◌, FitsSigned}
use Rattle.std.specs.Int.{w128}
use Rattle.std.proofs.lemmas.Int.{ints}
use Rattle.cpl_fixed.specs.Amounts.{IsAmount}
use Rattle.cpl_fixed.specs.declared.words.Quantity.{Quantity}
use Rattle.cpl_fixed.specs.declared.words.Quantity.TheVariants.{Heat, Water, Salt}
use Rattle.cpl_state.specs.Stored.{IsStored}
use Rattle.cpl_whole.specs.Holdings.{IsWide}
use Rattle.cpl_whole.specs.Rows.{of_heat}

pub word : (x : ℤ) → IsWide x → to_z w128 (of_z w128 x) ≡ x
word x wide = omega (arith, ints, wide.0, wide.1)

pub wide : (x : ℤ) → IsWide x → IsWide (to_z w128 (of_z w128 x))
wide x is = subst IsWide (sym (word x is)) is

pub amount_wide : (x : ℤ) → IsAmount x → IsWide x
amount_wide x is = (is.0, omega (arith, ints, is.1))

pub amount_word : (x : ℤ) → IsAmount x → IsAmount (to_z w128 (of_z w128 x))
amount_word x is = subst IsAmount (sym (word x (amount_wide x is))) is

pub narrow_word : (x : ℤ) → IsAmount x → to_z w64 (of_z w64 x) ≡ x
narrow_word x is = omega (arith, ints, is.0, is.1)

-- a sum of two
pub sum_is : (a b sum : ℤ) → IsWide a → IsWide b → sum ≡ to_z w128 (of_z w128 a) +ℤ to_z w128 (of_z w128 b) → sum ≡ a +ℤ b
sum_is a b sum first second e = e ∙ (λ i. word a first i +ℤ word b second i)

-- WHAT A ROW HAS

pub stored_word : (x : ℤ) → IsStored x → to_z w64 (of_z w64 x) ≡ x
stored_word x is = omega (arith, ints, is.0, is.1)

-- an amount that was narrowed
pub row_word : (x narrowed : ℤ) → IsAmount x → narrowed ≡ to_z w128 (of_z w128 x) → to_z w64 (of_z w64 narrowed) ≡ x
row_word x narrowed is e = ap (λ (z : ℤ). to_z w64 (of_z w64 z)) (e ∙ word x (amount_wide x is)) ∙ narrow_word x is

pub same_word : (x result : ℤ) → IsAmount x → result ≡ x → to_z w64 (of_z w64 result) ≡ x
same_word x result is e = ap (λ (z : ℤ). to_z w64 (of_z w64 z)) e ∙ narrow_word x is

-- what entered or left
pub heat_word : (quantity : Quantity) (x result : ℤ) → IsAmount x → result ≡ of_heat quantity (to_z w64 (of_z w64 x)) → to_z w64 (of_z w64 result) ≡ of_heat quantity x
heat_word Heat x result is e = same_word x result is (e ∙ narrow_word x is)
heat_word Water x result is e = same_word (pos 0) result (omega (arith, ints), omega (arith, ints)) e
heat_word Salt x result is e = same_word (pos 0) result (omega (arith, ints), omega (arith, ints)) e

-- one number more
pub more_fits : (a b part : ℤ) → IsAmount a → pos 0 ≤ℤ b → IsAmount (a +ℤ b) → part ≡ b → FitsSigned w64 (to_z w64 (of_z w64 a) +ℤ to_z w64 (of_z w64 part))
more_fits a b part is least sum e =
    let x = narrow_word a is in
    let y = same_word b part (least, omega (arith, ints, is.0, sum.1)) e in
    omega (arith, ints, x, y, sum.0, sum.1)

pub more_word : (a b part : ℤ) → IsAmount a → pos 0 ≤ℤ b → IsAmount (a +ℤ b) → part ≡ b → to_z w64 (of_z w64 (to_z w64 (of_z w64 a) +ℤ to_z w64 (of_z w64 part))) ≡ a +ℤ b
more_word a b part is least sum e =
    let x = narrow_word a is in
    let y = same_word b part (least, omega (arith, ints, is.0, sum.1)) e in
    ap (λ (z : ℤ). to_z w64 (of_z w64 z)) (λ i. x i +ℤ y i) ∙ narrow_word (a +ℤ b) sum
