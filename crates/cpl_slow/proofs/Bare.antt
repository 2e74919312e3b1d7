-- A cell of open water alone slows to itself.
use Rattle.std.proofs.Common.{◌≡◌, ◌∙◌, refl, sym, ap, Bool, true, false, cond, eqb, ℕ, zero, suc, ◌+◌, ◌-◌, ◌*◌, ◌/◌, min, arith, List, [], ◌∷◌}
use Rattle.std.specs.Prelude.{ℤ, pos, neg_ℤ, ◌+ℤ◌, All, slice_set, nat_lt}
use Rattle.std.proofs.lemmas.Int.{ints}
use Rattle.std.proofs.lemmas.List.{set-get_or}
use Rattle.std.proofs.lemmas.List.Elements.{All-tail}
use Rattle.std.proofs.Math.Nat.{zero-div}
use Rattle.cpl_fixed.specs.Amounts.{IsAmount, amount, at}
use Rattle.cpl_fixed.specs.Totals.{total_of}
use Rattle.cpl_fixed.specs.declared.gain.Gain.{Gain}
use Rattle.cpl_fixed.specs.declared.limits.TheConstants.{PARTS, WATER_HEAT}
use Rattle.cpl_fixed.specs.declared.rates.Rates.{Rates}
use Rattle.cpl_ice.specs.declared.cell.IceCell.{IceCell}
use Rattle.cpl_ice.specs.Cells.{IsIceCell, nothing}
use Rattle.cpl_ice.specs.Slow.{added, moved, closed_part, frozen, is_thick, joined, ridged, ridged_at, melting_at, emptied, thinned, melted, melted_at, before_melt, after_melt, slowed, returned}
use Rattle.cpl_ice.proofs.Amounts.{amount_at}
use Rattle.cpl_ice.proofs.Totals.{at_most_total}

-- open water alone, and neither ice nor heat nor frazil
pub record IsBareCell (cell : IceCell) : Type 0 where
  pub open_water : at cell.parts 0 ≡ PARTS
  pub ice : (k : ℕ) → at cell.ice k ≡ pos 0
  pub heat : (k : ℕ) → at cell.heat k ≡ pos 0
  pub frazil_water : cell.frazil_water ≡ pos 0
  pub frazil_heat : cell.frazil_heat ≡ pos 0

-- where the first of amounts is all, the others are nothing
rest_none : (xs : List ℤ) (k : ℕ) → All IsAmount xs → total_of xs ≡ at xs 0 → at xs (suc k) ≡ pos 0
rest_none [] k each whole = refl
rest_none (x ∷ xs) k each whole =
    let tail = All-tail IsAmount x xs each in
    let most = at_most_total xs k tail in
    let least = (amount_at xs k tail).0 in
    omega (arith, ints, most, least, whole)

-- where nothing is added or moved, a list stays as it is
added_none : (xs : List ℤ) (n : ℕ) (x : ℤ) → x ≡ pos 0 → added xs n x ≡ xs
added_none xs n x e =
    let same : at xs n +ℤ x ≡ at xs n = omega (arith, ints, e) in
    ap (slice_set xs n) same ∙ set-get_or xs n (pos 0)

moved_none : (xs : List ℤ) (from to : ℕ) (x : ℤ) → x ≡ pos 0 → moved xs from to x ≡ xs
moved_none xs from to x e =
    ap (λ (ys : List ℤ). added ys to x) (added_none xs from (neg_ℤ x) (omega (arith, ints, e))) ∙ added_none xs to x e

-- either way
either : (b : Bool) (x y cell : IceCell) → x ≡ cell → y ≡ cell → cond b x y ≡ cell
either true x y cell h k = h
either false x y cell h k = k

module _ (rates : Rates) (cell : IceCell) (is : IsIceCell cell) (bare : IsBareCell cell) where
  no_part : (k : ℕ) → at cell.parts (k + 1) ≡ pos 0
  no_part k =
      let e : k + 1 ≡ suc k = omega arith in
      ap (at cell.parts) e ∙ rest_none cell.parts k is.parts (is.whole ∙ sym bare.open_water)

  closed_none : closed_part rates cell ≡ pos 0
  closed_none =
      let none : amount cell.frazil_water * amount PARTS ≡ 0 = ap (λ (x : ℤ). amount x * amount PARTS) bare.frazil_water in
      let share : amount cell.frazil_water * amount PARTS / (amount rates.h0 * amount cell.area) ≡ 0 = ap (λ (n : ℕ). n / (amount rates.h0 * amount cell.area)) none ∙ zero-div _ in
      ap (λ (n : ℕ). pos (min (amount (at cell.parts 0)) n)) share ∙ ap pos (let e : min (amount (at cell.parts 0)) 0 ≡ 0 = omega arith in e)

  frozen_same : frozen rates cell ≡ cell
  frozen_same = λ i. record cell {
    parts = moved_none cell.parts 0 1 (closed_part rates cell) closed_none i;
    ice = added_none cell.ice 0 cell.frazil_water bare.frazil_water i;
    heat = added_none cell.heat 0 cell.frazil_heat bare.frazil_heat i;
    frazil_water = sym bare.frazil_water i;
    frazil_heat = sym bare.frazil_heat i;
  }

  not_thick : (n : ℕ) → is_thick rates cell n ≡ false
  not_thick n =
      let none : eqb (amount (at cell.parts (n + 1))) 0 ≡ true = ap (λ (x : ℤ). eqb (amount x) 0) (no_part n) in
      ap (λ (b : Bool). cond b false (nat_lt (amount (at rates.bounds n) * amount (at cell.parts (n + 1)) * amount cell.area) (amount (at cell.ice n) * amount PARTS))) none

  ridged_same : (n : ℕ) → ridged rates cell n ≡ cell
  ridged_same zero = refl
  ridged_same (suc n) =
      ap (λ (it : IceCell). ridged_at rates it n) (ridged_same n) ∙ ap (λ (b : Bool). cond b (joined cell n) cell) (not_thick n)

  melting_none : (n : ℕ) → melting_at cell n ≡ 0
  melting_none n =
      let none : amount (at cell.ice n) ≡ 0 = ap (λ (x : ℤ). amount x) (bare.ice n) in
      omega (arith, none)

  emptied_same : (n : ℕ) → emptied cell n ≡ cell
  emptied_same n = λ i. record cell {
    parts = moved_none cell.parts (n + 1) 0 (at cell.parts (n + 1)) (no_part n) i;
    ice = added_none cell.ice n (neg_ℤ (at cell.ice n)) (omega (arith, ints, bare.ice n)) i;
    heat = added_none cell.heat n (neg_ℤ (at cell.heat n)) (omega (arith, ints, bare.heat n)) i;
  }

  thinned_same : (n : ℕ) → thinned cell n ≡ cell
  thinned_same n =
      let none = melting_none n in
      let water : neg_ℤ (pos (melting_at cell n)) ≡ pos 0 = ap (λ (m : ℕ). neg_ℤ (pos m)) none in
      let carried : neg_ℤ (pos (amount WATER_HEAT * melting_at cell n)) ≡ pos 0 = ap (λ (m : ℕ). neg_ℤ (pos (amount WATER_HEAT * m))) none in
      λ i. record cell {
        ice = added_none cell.ice n (neg_ℤ (pos (melting_at cell n))) water i;
        heat = added_none cell.heat n (neg_ℤ (pos (amount WATER_HEAT * melting_at cell n))) carried i;
      }

  melted_same : (n : ℕ) → melted cell n ≡ cell
  melted_same zero = refl
  melted_same (suc n) =
      ap (λ (it : IceCell). melted_at it n) (melted_same n)
      ∙ either (eqb (melting_at cell n) (amount (at cell.ice n))) (emptied cell n) (thinned cell n) cell (emptied_same n) (thinned_same n)

  before_same : before_melt rates cell ≡ cell
  before_same = ap (λ (it : IceCell). ridged rates it (cell.categories - 1)) frozen_same ∙ ridged_same (cell.categories - 1)

  after_same : after_melt rates cell ≡ cell
  after_same = ap (λ (it : IceCell). melted it cell.categories) before_same ∙ melted_same cell.categories

  -- it loses its skin alone
  pub bare_slowed : slowed rates cell ≡ record cell { skin = nothing }
  bare_slowed = ap (λ (it : IceCell). record it { skin = nothing }) after_same

  -- and gives back its skin with what arrived
  pub bare_returned : (runoff : Gain) → returned rates cell runoff
      ≡ record { water = cell.skin.water +ℤ runoff.water; heat = cell.skin.heat +ℤ runoff.heat; salt = cell.skin.salt }
  bare_returned runoff =
      let ice = ap (λ (it : IceCell). total_of it.ice) before_same in
      let ice_after = ap (λ (it : IceCell). total_of it.ice) after_same in
      let heat = ap (λ (it : IceCell). total_of it.heat) before_same in
      let heat_after = ap (λ (it : IceCell). total_of it.heat) after_same in
      let water_is : (returned rates cell runoff).water ≡ cell.skin.water +ℤ runoff.water = omega (arith, ints, ice, ice_after) in
      let heat_is : (returned rates cell runoff).heat ≡ cell.skin.heat +ℤ runoff.heat = omega (arith, ints, heat, heat_after) in
      λ i. record { water = water_is i; heat = heat_is i; salt = cell.skin.salt }
