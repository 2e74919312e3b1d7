-- The outlets of made grids: the ocean has a cell with an area, and each outlet leads to one.
use Rattle.std.proofs.Common.{◌≡◌, refl, sym, ◌∙◌, ap, subst, true, false, not, ◌&&◌, leb, ℕ, zero, suc, ◌+◌, ◌-◌, ◌*◌, ◌/◌, ◌<◌, ◌≤◌, arith, List, ◌∷◌, ◌++◌, map, length, Option, Some, None, inl, inr, w64, of_z}
use Rattle.std.specs.Prelude.{ℤ, pos, ◌≤ℤ◌, All, unwrap_or}
use Rattle.std.specs.List.{filter, flat_map, range_with_len}
use Rattle.std.specs.Ordering.{int_eq}
use Rattle.std.proofs.lemmas.Int.{ints}
use Rattle.std.proofs.lemmas.Bool.{false_from_ne_true, not_from_false, and_left, and_right, and_from, and_parts, lt-leb, le-leb, cond-true, cases_lt}
use Rattle.std.proofs.lemmas.Bool.Decides.{Decides-int_eq}
use Rattle.std.proofs.Math.Nat.{zero-div}
use Rattle.std.proofs.lemmas.List.Elements.{All-tail}
use Rattle.cpl_fixed.specs.Amounts.{at}
use Rattle.cpl_mosaic.specs.Cells.{cell_of}
use Rattle.cpl_xgrid.specs.declared.parts.XRow.{XRow}
use Rattle.cpl_xgrid.specs.Rows.{area_of, other_cell}
use Rattle.cpl_xgrid.proofs.CellNumbers.{own_cell}
use Rattle.cpl_made_grid.specs.declared.recipe.Recipe.{Recipe}
use Rattle.cpl_made_grid.specs.Shapes.{ocean_tiles, air_count, ocean_count}
use Rattle.cpl_made_grid.specs.Shares.{IsSized, end_under}
use Rattle.cpl_made_grid.specs.Overlaps.{overlap, under, is_land, ocean_row, ocean_rows_of, ocean_rows}
use Rattle.cpl_made_grid.specs.Areas.{ocean_areas}
use Rattle.cpl_made_grid.specs.Outlets.{is_wet, wet_from, wet_near, first_under}
use Rattle.cpl_made_grid.proofs.Mosaics.{counts, ocean_cells}
use Rattle.cpl_made_grid.proofs.Ranges.{find_first, find_none, find_passes}
use Rattle.cpl_made_grid.proofs.Cuts.{overlaps}
use Rattle.cpl_made_grid.proofs.RowLaws.{parts_at, under_is, rows_are, area_cons}
use Rattle.cpl_made_grid.proofs.AreaLaws.{HasArea, area_range, sums_at, sums_count}

-- a cell with an area is wet, and one that is wet has an area
pub wet_some : (areas : List ℤ) (n : ℕ) → pos 1 ≤ℤ at areas n → is_wet areas n ≡ true
wet_some areas n some = not_from_false (int_eq (at areas n) (pos 0)) (false_from_ne_true (int_eq (at areas n) (pos 0)) (λ e. let z = (Decides-int_eq (at areas n) (pos 0)).0 e in absurd (omega (arith, ints, some, z))))

-- a number whose word isn't 0
pub wet_word : (areas : List ℤ) (n : ℕ) → (of_z w64 (at areas n) ≡ 0 → ⊥) → is_wet areas n ≡ true
wet_word areas n other = not_from_false (int_eq (at areas n) (pos 0)) (false_from_ne_true (int_eq (at areas n) (pos 0)) (λ e. other (ap (of_z w64) ((Decides-int_eq (at areas n) (pos 0)).0 e))))

-- THE FIRST CELL OF THE OCEAN

first_of_range : (a n : ℕ) → 0 < n → range_with_len a n ≡ a ∷ range_with_len (a + 1) (n - 1)
first_of_range a zero some = absurd (omega arith)
first_of_range a (suc n) some = let less : n ≡ suc n - 1 = omega arith in ap (λ (m : ℕ). a ∷ range_with_len (a + 1) m) less

zero-div-mul : (m n : ℕ) → 0 * m / n ≡ 0
zero-div-mul m n = let none : 0 * m ≡ 0 = omega arith in ap (λ (x : ℕ). x / n) none ∙ zero-div n

-- the first block of the air lies over the ocean
land_none : (recipe : Recipe) → IsSized recipe.size → is_land recipe 0 0 ≡ false
land_none recipe sized =
    let least = sized.least in
    and_left _ _ (and_left (leb recipe.size 0) _ (lt-leb recipe.size 0 (omega arith)))

-- the first exchange cell with the ocean is of its first cell
first_rows : (recipe : Recipe) → IsSized recipe.size → (rows : List XRow) × (ocean_rows recipe ≡ ocean_row recipe.size 0 0 ∷ rows) × (0 < overlap recipe.size 0 0)
unfolding ocean_rows ocean_rows_of
first_rows recipe sized =
    let are = counts recipe.size sized in
    let some = are.some in
    let parts = parts_at recipe.size 0 sized (omega arith) in
    let none : first_under recipe.size 0 ≡ 0 = zero-div-mul (ocean_count recipe.size) (air_count recipe.size) in
    let more : 0 < end_under (air_count recipe.size) (ocean_count recipe.size) 0 = omega arith in
    let lap = overlaps (air_count recipe.size) (ocean_count recipe.size) 0 parts 0 (omega arith) more in
    let others = range_with_len (0 + 1) (end_under (air_count recipe.size) (ocean_count recipe.size) 0 - 1) in
    let whole : end_under (air_count recipe.size) (ocean_count recipe.size) 0 - 0 ≡ end_under (air_count recipe.size) (ocean_count recipe.size) 0 = omega arith in
    let front : under recipe.size 0 ≡ 0 ∷ range_with_len (0 + 1) (end_under (air_count recipe.size) (ocean_count recipe.size) 0 - 1) =
    under_is recipe.size 0 sized (omega arith)
    ∙ ap (λ (a : ℕ). range_with_len a (end_under (air_count recipe.size) (ocean_count recipe.size) 0 - a)) none
    ∙ ap (range_with_len 0) whole
    ∙ first_of_range 0 (end_under (air_count recipe.size) (ocean_count recipe.size) 0) more in
    let water : not (is_land recipe 0 0) ≡ true = not_from_false (is_land recipe 0 0) (land_none recipe sized) in
    let kept : filter (λ o. not (is_land recipe 0 o)) (under recipe.size 0) ≡ 0 ∷ filter (λ o. not (is_land recipe 0 o)) others =
    ap (filter (λ o. not (is_land recipe 0 o))) front ∙ cond-true (not (is_land recipe 0 0)) (0 ∷ filter (λ o. not (is_land recipe 0 o)) others) (filter (λ o. not (is_land recipe 0 o)) others) water in
    let airs : range_with_len 0 (air_count recipe.size) ≡ 0 ∷ range_with_len (0 + 1) (air_count recipe.size - 1) = first_of_range 0 (air_count recipe.size) (omega arith) in (
      map (ocean_row recipe.size 0) (filter (λ o. not (is_land recipe 0 o)) others) ++ flat_map (ocean_rows_of recipe) (range_with_len (0 + 1) (air_count recipe.size - 1)),
      ap (flat_map (ocean_rows_of recipe)) airs
          ∙ ap (λ (l : List ℕ). map (ocean_row recipe.size 0) l ++ flat_map (ocean_rows_of recipe) (range_with_len (0 + 1) (air_count recipe.size - 1))) kept,
      lap,
    )

pub ocean_at : (recipe : Recipe) (n : ℕ) → IsSized recipe.size → n < ocean_count recipe.size → at (ocean_areas recipe) n ≡ area_of other_cell (cell_of (ocean_tiles recipe.size) n) (ocean_rows recipe)
unfolding ocean_areas
ocean_at recipe n sized below = let cells = ocean_cells recipe.size in sums_at (ocean_tiles recipe.size) (ocean_rows recipe) n (pos 0) (omega arith)

pub first_wet : (recipe : Recipe) → IsSized recipe.size → is_wet (ocean_areas recipe) 0 ≡ true
first_wet recipe sized =
    let are = counts recipe.size sized in
    let some = are.some in
    let more = are.more in
    let first = first_rows recipe sized in
    let lap = first.2 in
    let each : All HasArea (ocean_row recipe.size 0 0 ∷ first.0) = subst (λ (l : List XRow). All HasArea l) first.1 (rows_are recipe sized).ocean in
    let others = area_range other_cell (cell_of (ocean_tiles recipe.size) 0) first.0 (All-tail HasArea (ocean_row recipe.size 0 0) first.0 each) in
    let others_least = others.least in
    let is = ocean_at recipe 0 sized (omega arith) in
    let split = ap (area_of other_cell (cell_of (ocean_tiles recipe.size) 0)) first.1 ∙ area_cons other_cell (cell_of (ocean_tiles recipe.size) 0) (ocean_row recipe.size 0 0) first.0 true (own_cell (cell_of (ocean_tiles recipe.size) 0)) in
    wet_some (ocean_areas recipe) 0 (omega (arith, ints, is, split, others_least, lap))

-- NEAR CELLS

pub ocean_length : (recipe : Recipe) → length (ocean_areas recipe) ≡ ocean_count recipe.size
unfolding ocean_areas
ocean_length recipe = sums_count (ocean_tiles recipe.size) (ocean_rows recipe) ∙ ocean_cells recipe.size

-- a cell of the list with an area
abbrev IsNear : List ℤ → ℕ → Type 0
IsNear areas n = (n < length areas) × (is_wet areas n ≡ true)

near_or : (areas : List ℤ) (start : ℕ) (found : Option ℕ) → wet_from areas start ≡ found → (d : ℕ) → IsNear areas d → IsNear areas (unwrap_or found d)
unfolding wet_from
near_or areas start None e d near = near
near_or areas start (Some n) e d near =
    let passes = find_passes (λ m. leb start m && is_wet areas m) 0 (length areas) n e in
    let below = passes.0 in
    (omega arith, (and_parts (leb start n) (is_wet areas n) passes.1).1)

-- where there is a wet cell, the near one is wet
pub near_wet : (areas : List ℤ) (start : ℕ) → 0 < length areas → is_wet areas 0 ≡ true → (wet_near areas start < length areas) × (is_wet areas (wet_near areas start) ≡ true)
near_wet areas start some wet =
    near_or areas start (wet_from areas start) refl (unwrap_or (wet_from areas 0) 0) (near_or areas 0 (wet_from areas 0) refl 0 (some, wet))

-- SEARCHES

-- the first wet cell from a start on
pub wet_found : (areas : List ℤ) (start n : ℕ) → start ≤ n → n < length areas → ((k : ℕ) → start ≤ k → k < n → is_wet areas k ≡ false) → is_wet areas n ≡ true → Some n ≡ wet_from areas start
unfolding wet_from
wet_found areas start n le below dry wet = sym (find_first (λ m. leb start m && is_wet areas m) 0 (length areas) n (omega arith) (omega arith) (λ i first before. elim (cases_lt i start) [
  | inl early ↦ and_left (leb start i) (is_wet areas i) (lt-leb start i early)
  | inr late ↦ and_right (leb start i) (is_wet areas i) (dry i late before)
]) (and_from (leb start n) (is_wet areas n) (le-leb start n le) wet))

pub wet_missing : (areas : List ℤ) (start : ℕ) → ((k : ℕ) → start ≤ k → k < length areas → is_wet areas k ≡ false) → None ≡ wet_from areas start
unfolding wet_from
wet_missing areas start dry = sym (find_none (λ m. leb start m && is_wet areas m) 0 (length areas) (λ i first before. elim (cases_lt i start) [
  | inl early ↦ and_left (leb start i) (is_wet areas i) (lt-leb start i early)
  | inr late ↦ and_right (leb start i) (is_wet areas i) (dry i late (omega arith))
]))
