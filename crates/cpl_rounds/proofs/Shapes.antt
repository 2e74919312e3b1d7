-- The lists of a cell of the ice: as long as they were, with nothing behind the last category, whatever the slow step makes of it.
use Rattle.std.proofs.Common.{◌≡◌, ◌∙◌, sym, ℕ, zero, suc, ◌+◌, ◌-◌, ◌*◌, ◌<◌, ◌≤◌, arith, inl, inr, List, length}
use Rattle.std.specs.Prelude.{Bool, true, false, ℤ, pos, neg_ℤ, ◌+ℤ◌, ◌==◌, nat_lt, map, slice_set, if◌then◌else◌}
use Rattle.std.specs.List.{range_with_len}
use Rattle.std.proofs.Math.ListN.{length-set}
use Rattle.std.proofs.lemmas.Bool.{cases_lt, lt-ltb, le-ltb, cond-true, cond-false}
use Rattle.std.proofs.lemmas.List.{get_or-set_other, get_or_past}
use Rattle.std.proofs.lemmas.List.FromFn.{fill_by_all, length-map-range_with_len, get_or-map-range_with_len}
use Rattle.cpl_fixed.specs.Amounts.{amount, at}
use Rattle.cpl_fixed.specs.declared.limits.TheConstants.{WATER_HEAT}
use Rattle.cpl_fixed.specs.declared.rates.Rates.{Rates}
use Rattle.cpl_ice.specs.declared.cell.IceCell.{IceCell}
use Rattle.cpl_ice.specs.Slow.{added, moved, closed_part, frozen, is_thick, joined, ridged, melting_at, emptied, thinned, melted, before_melt, slowed}
use Rattle.cpl_ice.proofs.Keeps.{ridged_keeps, melted_keeps}

-- LISTS THAT ARE FILLED UP WITH ZEROS

-- `width` numbers in a list of this length
abbrev pub filled : (most width : ℕ) → (ℕ → ℤ) → List ℤ
filled most width f = map (λ k. if nat_lt k width then f k else pos 0) (range_with_len 0 most)

-- so long, with nothing from a place on
pub record IsFilled (most width : ℕ) (xs : List ℤ) : Type 0 where
  pub long : length xs ≡ most
  pub none : (k : ℕ) → width ≤ k → at xs k ≡ pos 0

pub filled_at : (most width : ℕ) (f : ℕ → ℤ) (k : ℕ) → k < width → width ≤ most → at (filled most width f) k ≡ f k
filled_at most width f k l within =
    get_or-map-range_with_len (λ k. if nat_lt k width then f k else pos 0) 0 most k k (pos 0) (omega arith) (omega arith)
    ∙ cond-true _ _ _ (lt-ltb k width l)

pub is_filled : (most width : ℕ) (f : ℕ → ℤ) → IsFilled most width (filled most width f)
is_filled most width f = record {
  long = length-map-range_with_len (λ k. if nat_lt k width then f k else pos 0) 0 most;
  none = λ k l. elim (cases_lt k most) [
    | inl inside ↦
        get_or-map-range_with_len (λ k. if nat_lt k width then f k else pos 0) 0 most k k (pos 0) inside (omega arith)
        ∙ cond-false _ _ _ (le-ltb k width l)
    | inr past ↦ get_or_past (filled most width f) k (pos 0) (let e = length-map-range_with_len (λ k. if nat_lt k width then f k else pos 0) 0 most in omega arith)
  ];
}

-- such a list, by its numbers
pub as_filled : (most width : ℕ) (xs : List ℤ) (f : ℕ → ℤ) → IsFilled most width xs → ((k : ℕ) → k < width → at xs k ≡ f k) → xs ≡ filled most width f
as_filled most width xs f is each =
    fill_by_all (λ k. if nat_lt k width then f k else pos 0) xs most (pos 0) is.long
    (λ k l. elim (cases_lt k width) [
      | inl inside ↦ each k inside ∙ sym (cond-true _ _ _ (lt-ltb k width inside))
      | inr past ↦ is.none k past ∙ sym (cond-false _ _ _ (le-ltb k width past))
    ])

pub set_filled : (most width : ℕ) (xs : List ℤ) (n : ℕ) (x : ℤ) → IsFilled most width xs → n < width → IsFilled most width (slice_set xs n x)
set_filled most width xs n x is here = record {
  long = length-set xs n x ∙ is.long;
  none = λ k l. get_or-set_other xs n k x (pos 0) (λ e. omega arith) ∙ is.none k l;
}

moved_filled : (most width : ℕ) (xs : List ℤ) (from to : ℕ) (x : ℤ) → IsFilled most width xs → from < width → to < width → IsFilled most width (moved xs from to x)
moved_filled most width xs from to x is here there =
    set_filled most width (added xs from (neg_ℤ x)) to (at (added xs from (neg_ℤ x)) to +ℤ x)
    (set_filled most width xs from (at xs from +ℤ neg_ℤ x) is here) there

-- CELLS

-- a cell of so many categories, and this area
pub record HasShape (K : ℕ) (a : ℤ) (cell : IceCell) : Type 0 where
  pub count : cell.categories ≡ K
  pub area : cell.area ≡ a
  pub parts : IsFilled 6 (K + 1) cell.parts
  pub ice : IsFilled 5 K cell.ice
  pub heat : IsFilled 5 K cell.heat

pub either : (P : IceCell → Type 0) (b : Bool) (x y : IceCell) → P x → P y → P (if b then x else y)
either P true x y h k = h
either P false x y h k = k

module _ (rates : Rates) (K : ℕ) (a : ℤ) (some : 1 ≤ K) where
  frozen_shape : (cell : IceCell) → HasShape K a cell → HasShape K a (frozen rates cell)
  frozen_shape cell is = record {
    count = is.count;
    area = is.area;
    parts = moved_filled 6 (K + 1) cell.parts 0 1 (closed_part rates cell) is.parts (omega arith) (omega arith);
    ice = set_filled 5 K cell.ice 0 (at cell.ice 0 +ℤ cell.frazil_water) is.ice (omega arith);
    heat = set_filled 5 K cell.heat 0 (at cell.heat 0 +ℤ cell.frazil_heat) is.heat (omega arith);
  }

  joined_shape : (cell : IceCell) (n : ℕ) → HasShape K a cell → n + 1 < K → HasShape K a (joined cell n)
  joined_shape cell n is l = record {
    count = is.count;
    area = is.area;
    parts = moved_filled 6 (K + 1) cell.parts (n + 1) (n + 2) (at cell.parts (n + 1)) is.parts (omega arith) (omega arith);
    ice = moved_filled 5 K cell.ice n (n + 1) (at cell.ice n) is.ice (omega arith) l;
    heat = moved_filled 5 K cell.heat n (n + 1) (at cell.heat n) is.heat (omega arith) l;
  }

  ridged_shape : (cell : IceCell) (n : ℕ) → HasShape K a cell → n < K → HasShape K a (ridged rates cell n)
  ridged_shape cell zero is l = is
  ridged_shape cell (suc n) is l =
      let past = ridged_shape cell n is (omega arith) in
      either (HasShape K a) (is_thick rates (ridged rates cell n) n) (joined (ridged rates cell n) n) (ridged rates cell n)
      (joined_shape (ridged rates cell n) n past (omega arith)) past

  emptied_shape : (cell : IceCell) (n : ℕ) → HasShape K a cell → n < K → HasShape K a (emptied cell n)
  emptied_shape cell n is l = record {
    count = is.count;
    area = is.area;
    parts = moved_filled 6 (K + 1) cell.parts (n + 1) 0 (at cell.parts (n + 1)) is.parts (omega arith) (omega arith);
    ice = set_filled 5 K cell.ice n (at cell.ice n +ℤ neg_ℤ (at cell.ice n)) is.ice l;
    heat = set_filled 5 K cell.heat n (at cell.heat n +ℤ neg_ℤ (at cell.heat n)) is.heat l;
  }

  thinned_shape : (cell : IceCell) (n : ℕ) → HasShape K a cell → n < K → HasShape K a (thinned cell n)
  thinned_shape cell n is l = record {
    count = is.count;
    area = is.area;
    parts = is.parts;
    ice = set_filled 5 K cell.ice n (at cell.ice n +ℤ neg_ℤ (pos (melting_at cell n))) is.ice l;
    heat = set_filled 5 K cell.heat n (at cell.heat n +ℤ neg_ℤ (pos (amount WATER_HEAT * melting_at cell n))) is.heat l;
  }

  melted_shape : (cell : IceCell) (n : ℕ) → HasShape K a cell → n ≤ K → HasShape K a (melted cell n)
  melted_shape cell zero is l = is
  melted_shape cell (suc n) is l =
      let past = melted_shape cell n is (omega arith) in
      either (HasShape K a) (melting_at (melted cell n) n == amount (at (melted cell n).ice n)) (emptied (melted cell n) n) (thinned (melted cell n) n)
      (emptied_shape (melted cell n) n past l) (thinned_shape (melted cell n) n past l)

  pub slowed_shape : (cell : IceCell) → HasShape K a cell → HasShape K a (slowed rates cell)
  slowed_shape cell is =
      let one = frozen_shape cell is in
      let count = is.count in
      let two = ridged_shape (frozen rates cell) (cell.categories - 1) one (omega arith) in
      let three = melted_shape (before_melt rates cell) cell.categories two (omega arith) in
      record { count = three.count; area = three.area; parts = three.parts; ice = three.ice; heat = three.heat }

-- the slow step uses up the frazil
pub no_frazil_water : (rates : Rates) (cell : IceCell) → (slowed rates cell).frazil_water ≡ pos 0
no_frazil_water rates cell =
    (melted_keeps (before_melt rates cell) cell.categories).frazil_water ∙ (ridged_keeps rates (frozen rates cell) (cell.categories - 1)).frazil_water

pub no_frazil_heat : (rates : Rates) (cell : IceCell) → (slowed rates cell).frazil_heat ≡ pos 0
no_frazil_heat rates cell =
    (melted_keeps (before_melt rates cell) cell.categories).frazil_heat ∙ (ridged_keeps rates (frozen rates cell) (cell.categories - 1)).frazil_heat
