-- The items of the slow step, one after the other.
use Rattle.std.proofs.Common.{◌≡◌, ◌∙◌, ap, arith, ◌-◌, w64, to_z, of_z}
use Rattle.std.specs.Prelude.{ℤ, pos, ◌+ℤ◌, ◌≤ℤ◌}
use Rattle.std.proofs.lemmas.Int.{ints}
use Rattle.cpl_fixed.specs.declared.limits.TheConstants.{MOST_TOTAL}
use Rattle.cpl_fixed.specs.declared.rates.Rates.{Rates}
use Rattle.cpl_ice.specs.declared.cell.IceCell.{IceCell}
use Rattle.cpl_ice.specs.Cells.{IsAmount}
use Rattle.cpl_ice.specs.Slow.{after_melt, before_melt, frozen, melted, ridged}
use Rattle.cpl_ice.proofs.Keeps.{Keeps, melted_keeps, ridged_keeps}

pub ridge_is : (rates : Rates) (old f r : IceCell) → f ≡ frozen rates old → r ≡ ridged rates f (f.categories - 1) → r ≡ before_melt rates old
ridge_is rates old f r e g = g ∙ ap (λ (s : IceCell). ridged rates s (s.categories - 1)) e

before_keeps : (rates : Rates) (old : IceCell) → Keeps (frozen rates old) (before_melt rates old)
before_keeps rates old = ridged_keeps rates (frozen rates old) (old.categories - 1)

pub melt_is : (rates : Rates) (old r m : IceCell) → r ≡ before_melt rates old → m ≡ melted r r.categories → m ≡ after_melt rates old
melt_is rates old r m e g =
    g ∙ ap (λ (s : IceCell). melted s s.categories) e ∙ ap (λ n. melted (before_melt rates old) n) (before_keeps rates old).categories

-- the skin is as before, and there is no frazil
pub after_keeps : (rates : Rates) (old m : IceCell) → m ≡ after_melt rates old → Keeps (frozen rates old) m
after_keeps rates old m e =
    let past = before_keeps rates old in
    let next = melted_keeps (before_melt rates old) old.categories in
    record {
      skin = ap (λ (s : IceCell). s.skin) e ∙ next.skin ∙ past.skin;
      frazil_water = ap (λ (s : IceCell). s.frazil_water) e ∙ next.frazil_water ∙ past.frazil_water;
      frazil_heat = ap (λ (s : IceCell). s.frazil_heat) e ∙ next.frazil_heat ∙ past.frazil_heat;
      categories = ap (λ (s : IceCell). s.categories) e ∙ next.categories ∙ past.categories;
    }

-- a machine sum of three amounts is their sum
pub sum_is : (x y z : ℤ) → pos 0 ≤ℤ x → pos 0 ≤ℤ y → pos 0 ≤ℤ z → (x +ℤ y +ℤ z) ≤ℤ pos MOST_TOTAL
    → to_z w64 (of_z w64 (to_z w64 (of_z w64 (to_z w64 (of_z w64 x) +ℤ to_z w64 (of_z w64 y))) +ℤ to_z w64 (of_z w64 z))) ≡ x +ℤ y +ℤ z
sum_is x y z hx hy hz most = omega (arith, ints, hx, hy, hz, most)

-- and is an amount
pub sum_amount : (x y z : ℤ) → pos 0 ≤ℤ x → pos 0 ≤ℤ y → pos 0 ≤ℤ z → (x +ℤ y +ℤ z) ≤ℤ pos MOST_TOTAL
    → IsAmount (to_z w64 (of_z w64 (to_z w64 (of_z w64 (to_z w64 (of_z w64 x) +ℤ to_z w64 (of_z w64 y))) +ℤ to_z w64 (of_z w64 z))))
sum_amount x y z hx hy hz most =
    let e = sum_is x y z hx hy hz most in
    (omega (arith, ints, e, hx, hy, hz), omega (arith, ints, e, most))
