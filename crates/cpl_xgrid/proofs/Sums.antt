-- Sums of the areas of exchange cells.
use Rattle.std.proofs.Common.{◌≡◌, refl, sym, ◌∙◌, ap, subst, Bool, true, false, cond, ℕ, zero, suc, ◌+◌, ◌*◌, ◌<◌, ◌≤◌, arith, List, [], ◌∷◌, ◌++◌, map, length, get_or, take}
use Rattle.std.specs.Prelude.{All, ℤ, pos, ◌+ℤ◌, ◌≤ℤ◌}
use Rattle.std.specs.List.{filter}
use Rattle.std.proofs.lemmas.Int.{ints}
use Rattle.std.proofs.lemmas.Simd.{map-map}
use Rattle.std.proofs.lemmas.List.{map-append, take-map, get_or-map, length-map, length-append, length-take, append_assoc, get_or_at, length_push}
use Rattle.std.proofs.lemmas.List.Elements.{All-map, All-tail, All-append}
use Rattle.cpl_fixed.specs.Totals.{total_of}
use Rattle.cpl_fixed.specs.declared.limits.TheConstants.{MOST_AREA, MOST_EXCHANGE_CELLS}
use Rattle.cpl_fixed.proofs.ShareLaws.{total_more}
use Rattle.cpl_mosaic.specs.declared.parts.CellId.{CellId}
use Rattle.cpl_mosaic.specs.Sides.{is_same_cell}
use Rattle.cpl_xgrid.specs.declared.parts.XRow.{XRow}
use Rattle.cpl_xgrid.specs.declared.parts.XRef.{XRef}
use Rattle.cpl_xgrid.specs.declared.parts.Surface.{Surface}
use Rattle.cpl_xgrid.specs.declared.parts.Surface.TheVariants.{Land, Ocean}
use Rattle.cpl_xgrid.specs.Lists.{IsArea, AreRows}
use Rattle.cpl_xgrid.specs.Groups.{numbers_from}
use Rattle.cpl_xgrid.specs.declared.rules.Parent.{Parent}
use Rattle.cpl_xgrid.specs.declared.rules.Parent.TheVariants as parent
use Rattle.cpl_xgrid.specs.Rows.{air_cell, other_cell, numbers_of, area_of, refs_to, refs_of_air, refs_of_other}
use Rattle.cpl_xgrid.specs.Indexes.{list_of, no_row, ref_area, refs_area, AreRefs}
use Rattle.cpl_xgrid.specs.Parents.{parent_refs, parent_sum}
use Rattle.cpl_xgrid.proofs.CellRefs.{map_cond}

pub total_append : (xs ys : List ℤ) → total_of (xs ++ ys) ≡ total_of xs +ℤ total_of ys
total_append [] ys = omega (arith, ints)
total_append (x ∷ xs) ys = let rest = total_append xs ys in omega (arith, ints, rest)

-- areas sum to no more than as many of the greatest
record IsSum (count : ℕ) (sum : ℤ) : Type 0 where
  least : pos 0 ≤ℤ sum
  most : sum ≤ℤ pos (MOST_AREA * count)

total_areas : (xs : List ℤ) → All IsArea xs → IsSum (length xs) (total_of xs)
total_areas [] are = record { least = omega (arith, ints); most = omega (arith, ints) }
total_areas (x ∷ xs) are =
    let first = are 0 x (omega arith) in
    let rest = total_areas xs (All-tail IsArea x xs are) in
    record { least = omega (arith, ints, first.0, rest.least); most = omega (arith, ints, first.1, rest.most) }

-- each exchange cell of a list has an area, and so has each that a reference names
list_areas : (land_rows ocean_rows : List XRow) (list : Surface) → AreRows land_rows ocean_rows → All (λ (row : XRow). IsArea row.area) (list_of land_rows ocean_rows list)
list_areas land_rows ocean_rows Land are = are.land
list_areas land_rows ocean_rows Ocean are = are.ocean

ref_areas : (land_rows ocean_rows : List XRow) (refs : List XRef) → AreRows land_rows ocean_rows → AreRefs land_rows ocean_rows refs → All IsArea (map (ref_area land_rows ocean_rows) refs)
ref_areas land_rows ocean_rows refs rows are =
    All-map IsArea (ref_area land_rows ocean_rows) refs (λ k d h.
    let ref = get_or refs k d in list_areas land_rows ocean_rows ref.list rows ref.row no_row (are.each k d h))

-- one exchange cell more
pub record IsNextSum (land_rows ocean_rows : List XRow) (refs : List XRef) (n : ℕ) (d : XRef) : Type 0 where
  pub more : refs_area land_rows ocean_rows (take (n + 1) refs) ≡ refs_area land_rows ocean_rows (take n refs) +ℤ ref_area land_rows ocean_rows (get_or refs n d)
  pub least : pos 0 ≤ℤ refs_area land_rows ocean_rows (take (n + 1) refs)
  pub most : refs_area land_rows ocean_rows (take (n + 1) refs) ≤ℤ pos (MOST_AREA * MOST_EXCHANGE_CELLS)

all_take : (xs : List ℤ) (n : ℕ) → All IsArea xs → All IsArea (take n xs)
all_take xs zero are k d h = absurd (omega arith)
all_take [] (suc n) are k d h = absurd (omega arith)
all_take (x ∷ xs) (suc n) are zero d h = are 0 x (omega arith)
all_take (x ∷ xs) (suc n) are (suc k) d h = all_take xs n (All-tail IsArea x xs are) k d (omega arith)

pub next_sum : (land_rows ocean_rows : List XRow) (refs : List XRef) (n : ℕ) (d : XRef) → AreRows land_rows ocean_rows → AreRefs land_rows ocean_rows refs → n < length refs → IsNextSum land_rows ocean_rows refs n d
next_sum land_rows ocean_rows refs n d rows are within =
    let area = ref_area land_rows ocean_rows in
    let long = length-map refs area in
    let more = total_more (map area refs) n (omega arith) in
    let now = ap total_of (take-map area (n + 1) refs) in
    let was = ap total_of (take-map area n refs) in
    let read = get_or-map area refs n d (pos 0) within in
    let sums = total_areas (take (n + 1) (map area refs)) (all_take (map area refs) (n + 1) (ref_areas land_rows ocean_rows refs rows are)) in
    let count : length (take (n + 1) (map area refs)) ≤ MOST_EXCHANGE_CELLS = let few = are.few in let h = length-take (n + 1) (map area refs) in omega arith in
    record {
      more = sym now ∙ more ∙ ap (λ (a : ℤ). a +ℤ get_or (map area refs) n (pos 0)) was ∙ ap (λ (b : ℤ). refs_area land_rows ocean_rows (take n refs) +ℤ b) read;
      least = subst (λ (s : ℤ). pos 0 ≤ℤ s) now sums.least;
      most = subst (λ (s : ℤ). s ≤ℤ pos (MOST_AREA * MOST_EXCHANGE_CELLS)) now (let most = sums.most in omega (arith, ints, most, count));
    }

-- the numbers of items are of the list, and no more than it has
within_cond : (b : Bool) (n most : ℕ) (xs : List ℕ) → n < most → All (λ m. m < most) xs → All (λ m. m < most) (cond b (n ∷ xs) xs)
within_cond false n most xs below each k d h = each k d h
within_cond true n most xs below each zero d h = below
within_cond true n most xs below each (suc k) d h = each k d (omega arith)

few_cond : (b : Bool) (n most : ℕ) (xs : List ℕ) → length xs ≤ most → length (cond b (n ∷ xs) xs) ≤ suc most
few_cond false n most xs few = omega arith
few_cond true n most xs few = omega arith

numbers_within : {T : Type 0} (passes : T → Bool) (n : ℕ) (items : List T) → All (λ m. m < n + length items) (numbers_from passes n items)
numbers_within passes n [] k d h = absurd (omega arith)
numbers_within passes n (item ∷ items) k d h =
    let rest : All (λ m. m < n + suc (length items)) (numbers_from passes (n + 1) items) = λ k d h. let below = numbers_within passes (n + 1) items k d h in omega arith in
    within_cond (passes item) n (n + suc (length items)) (numbers_from passes (n + 1) items) (omega arith) rest k d h

numbers_few : {T : Type 0} (passes : T → Bool) (n : ℕ) (items : List T) → length (numbers_from passes n items) ≤ length items
numbers_few passes n [] = omega arith
numbers_few passes n (item ∷ items) = few_cond (passes item) n (length items) (numbers_from passes (n + 1) items) (numbers_few passes (n + 1) items)

-- the areas of the exchange cells that pass a test, by their numbers
numbers_area : (passes : XRow → Bool) (front rows : List XRow) (n : ℕ) → length front ≡ n
    → map (λ m. (get_or (front ++ rows) m no_row).area) (numbers_from passes n rows) ≡ map (λ (row : XRow). row.area) (filter passes rows)
numbers_area passes front [] n e = refl
numbers_area passes front (row ∷ rows) n e =
    let area = λ (m : ℕ). (get_or (front ++ (row ∷ rows)) m no_row).area in
    let longer : length (front ++ row ∷ []) ≡ n + 1 = let h = length_push front row in omega arith in
    let whole : (front ++ row ∷ []) ++ rows ≡ front ++ (row ∷ rows) = append_assoc front (row ∷ []) rows in
    let rest : map area (numbers_from passes (n + 1) rows) ≡ map (λ (r : XRow). r.area) (filter passes rows) =
    ap (λ (l : List XRow). map (λ m. (get_or l m no_row).area) (numbers_from passes (n + 1) rows)) (sym whole) ∙ numbers_area passes (front ++ row ∷ []) rows (n + 1) longer in
    let own : area n ≡ row.area = ap (λ (r : XRow). r.area) (get_or_at front row rows no_row n e) in
    map_cond area (passes row) n (numbers_from passes (n + 1) rows)
    ∙ ap (λ (a : ℤ). cond (passes row) (a ∷ map area (numbers_from passes (n + 1) rows)) (map area (numbers_from passes (n + 1) rows))) own
    ∙ ap (λ (l : List ℤ). cond (passes row) (row.area ∷ l) l) rest
    ∙ sym (map_cond (λ (r : XRow). r.area) (passes row) row (filter passes rows))

-- the exchange cells of a cell in one list sum to its part
pub list_sum : (land_rows ocean_rows : List XRow) (list : Surface) (cell_of : XRow → CellId) (cell : CellId)
    → refs_area land_rows ocean_rows (refs_to list (numbers_of cell_of cell (list_of land_rows ocean_rows list))) ≡ area_of cell_of cell (list_of land_rows ocean_rows list)
list_sum land_rows ocean_rows list cell_of cell =
    let rows = list_of land_rows ocean_rows list in
    let passes = λ (row : XRow). is_same_cell (cell_of row) cell in
    ap total_of (
    map-map (ref_area land_rows ocean_rows) (λ n. record { list = list; row = n }) (numbers_from passes 0 rows)
    ∙ numbers_area passes [] rows 0 refl
    )

-- and so do those of a cell of a parent
pub parent_sum_is : (of : Parent) (land_rows ocean_rows : List XRow) (cell : CellId) → refs_area land_rows ocean_rows (parent_refs of land_rows ocean_rows cell) ≡ parent_sum of land_rows ocean_rows cell
parent_sum_is parent.Air land_rows ocean_rows cell =
    let area = ref_area land_rows ocean_rows in
    let land = refs_to Land (numbers_of air_cell cell land_rows) in
    let ocean = refs_to Ocean (numbers_of air_cell cell ocean_rows) in
    ap total_of (map-append area land ocean)
    ∙ total_append (map area land) (map area ocean)
    ∙ ap (λ (s : ℤ). s +ℤ total_of (map area ocean)) (list_sum land_rows ocean_rows Land air_cell cell)
    ∙ ap (λ (s : ℤ). area_of air_cell cell land_rows +ℤ s) (list_sum land_rows ocean_rows Ocean air_cell cell)
parent_sum_is parent.Land land_rows ocean_rows cell = list_sum land_rows ocean_rows Land other_cell cell
parent_sum_is parent.Ocean land_rows ocean_rows cell = list_sum land_rows ocean_rows Ocean other_cell cell

-- the exchange cells of a cell are in their lists
list_refs : (land_rows ocean_rows : List XRow) (list : Surface) (cell_of : XRow → CellId) (cell : CellId)
    → All (λ (ref : XRef). ref.row < length (list_of land_rows ocean_rows ref.list)) (refs_to list (numbers_of cell_of cell (list_of land_rows ocean_rows list)))
list_refs land_rows ocean_rows list cell_of cell =
    let rows = list_of land_rows ocean_rows list in
    let passes = λ (row : XRow). is_same_cell (cell_of row) cell in
    All-map (λ (ref : XRef). ref.row < length (list_of land_rows ocean_rows ref.list)) (λ n. record { list = list; row = n }) (numbers_from passes 0 rows)
    (λ k d h. let below = numbers_within passes 0 rows k d h in omega arith)

list_few : (list : Surface) (rows : List XRow) (cell_of : XRow → CellId) (cell : CellId) → length (refs_to list (numbers_of cell_of cell rows)) ≤ length rows
list_few list rows cell_of cell =
    let passes = λ (row : XRow). is_same_cell (cell_of row) cell in
    let few = numbers_few passes 0 rows in
    let long : length (refs_to list (numbers_of cell_of cell rows)) ≡ length (numbers_from passes 0 rows) = length-map (numbers_from passes 0 rows) (λ n. record { list = list; row = n }) in
    omega arith

pub air_refs_are : (land_rows ocean_rows : List XRow) (cell : CellId) → AreRows land_rows ocean_rows → AreRefs land_rows ocean_rows (refs_of_air land_rows ocean_rows cell)
air_refs_are land_rows ocean_rows cell rows =
    let land = refs_to Land (numbers_of air_cell cell land_rows) in
    let ocean = refs_to Ocean (numbers_of air_cell cell ocean_rows) in
    let few = rows.few in
    let one = list_few Land land_rows air_cell cell in
    let other = list_few Ocean ocean_rows air_cell cell in
    let both = length-append land ocean in
    record {
      few = omega arith;
      each = All-append (λ (ref : XRef). ref.row < length (list_of land_rows ocean_rows ref.list)) land ocean (list_refs land_rows ocean_rows Land air_cell cell) (list_refs land_rows ocean_rows Ocean air_cell cell);
    }

pub land_refs_are : (land_rows ocean_rows : List XRow) (cell : CellId) → AreRows land_rows ocean_rows → AreRefs land_rows ocean_rows (refs_of_other Land land_rows cell)
land_refs_are land_rows ocean_rows cell rows =
    let few = rows.few in
    let one = list_few Land land_rows other_cell cell in
    record { few = omega arith; each = list_refs land_rows ocean_rows Land other_cell cell }

pub ocean_refs_are : (land_rows ocean_rows : List XRow) (cell : CellId) → AreRows land_rows ocean_rows → AreRefs land_rows ocean_rows (refs_of_other Ocean ocean_rows cell)
ocean_refs_are land_rows ocean_rows cell rows =
    let few = rows.few in
    let one = list_few Ocean ocean_rows other_cell cell in
    record { few = omega arith; each = list_refs land_rows ocean_rows Ocean other_cell cell }

-- those of a cell of a parent are
pub parent_refs_are : (of : Parent) (land_rows ocean_rows : List XRow) (cell : CellId) → AreRows land_rows ocean_rows → AreRefs land_rows ocean_rows (parent_refs of land_rows ocean_rows cell)
parent_refs_are parent.Air land_rows ocean_rows cell rows = air_refs_are land_rows ocean_rows cell rows
parent_refs_are parent.Land land_rows ocean_rows cell rows = land_refs_are land_rows ocean_rows cell rows
parent_refs_are parent.Ocean land_rows ocean_rows cell rows = ocean_refs_are land_rows ocean_rows cell rows
