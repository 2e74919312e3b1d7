-- Exchange cells by their numbers.
use Rattle.std.proofs.Common.{◌≡◌, refl, sym, ◌∙◌, ap, Bool, true, false, cond, ℕ, ◌+◌, ◌-◌, ◌<◌, ◌≤◌, arith, List, [], ◌∷◌, ◌++◌, map, length, get_or, take, drop}
use Rattle.std.specs.List.{range_with_len, drop-map}
use Rattle.std.proofs.lemmas.Bool.{cond-true, cond-false, lt-ltb, le-ltb}
use Rattle.std.proofs.lemmas.Simd.{map-map}
use Rattle.std.proofs.lemmas.List.{map-append, take-map}
use Rattle.cpl_mosaic.specs.declared.parts.CellId.{CellId}
use Rattle.cpl_mosaic.specs.declared.parts.Tile.{Tile}
use Rattle.cpl_mosaic.specs.Sides.{is_same_cell}
use Rattle.cpl_xgrid.specs.declared.parts.XRow.{XRow}
use Rattle.cpl_xgrid.specs.declared.parts.XRef.{XRef}
use Rattle.cpl_xgrid.specs.declared.parts.Surface.{Surface}
use Rattle.cpl_xgrid.specs.declared.parts.Surface.TheVariants.{Land, Ocean}
use Rattle.cpl_xgrid.specs.declared.parts.Outlet.{Outlet}
use Rattle.cpl_xgrid.specs.Groups.{numbers_from, groups_in, group_at}
use Rattle.cpl_xgrid.specs.declared.rules.Parent.{Parent}
use Rattle.cpl_xgrid.specs.declared.rules.Parent.TheVariants as parent
use Rattle.cpl_xgrid.specs.Rows.{air_cell, other_cell, land_cell, refs_to, outlets_of}
use Rattle.cpl_xgrid.specs.Indexes.{for_cells, by_cell, ref_of}
use Rattle.cpl_xgrid.specs.Parents.{parent_cells, lands_of, parent_refs}
use Rattle.cpl_xgrid.proofs.Offsets.{same_range}
use Rattle.cpl_xgrid.proofs.CellNumbers.{for_cells_same, for_cells_map}

-- the groups of items that a function makes
pub groups_map : {S T : Type 0} (offsets : List ℕ) (items : List S) (f : S → T) → groups_in offsets (map f items) ≡ map (map f) (groups_in offsets items)
groups_map offsets items f =
    same_range (group_at offsets (map f items)) (λ k. map f (group_at offsets items k)) (length offsets - 1) (λ k h.
    let from = get_or offsets k 0 in
    let to = get_or offsets (k + 1) 0 in
    ap (take (to - from)) (drop-map f from items) ∙ take-map f (to - from) (drop from items))
    ∙ sym (map-map (map f) (group_at offsets items) (range_with_len 0 (length offsets - 1)))

-- the numbers of items that a function makes, and of one list after another
pub numbers_map : {S T : Type 0} (passes : T → Bool) (f : S → T) (n : ℕ) (items : List S) → numbers_from passes n (map f items) ≡ numbers_from (λ item. passes (f item)) n items
numbers_map passes f n [] = refl
numbers_map passes f n (item ∷ items) = ap (λ (l : List ℕ). cond (passes (f item)) (n ∷ l) l) (numbers_map passes f (n + 1) items)

cond_append : (b : Bool) (n : ℕ) (xs ys : List ℕ) → cond b (n ∷ (xs ++ ys)) (xs ++ ys) ≡ cond b (n ∷ xs) xs ++ ys
cond_append b n xs ys = elim b as (λ v. cond v (n ∷ (xs ++ ys)) (xs ++ ys) ≡ cond v (n ∷ xs) xs ++ ys) [ true ↦ refl | false ↦ refl ]

numbers_append : {T : Type 0} (passes : T → Bool) (n m : ℕ) (xs ys : List T) → n + length xs ≡ m → numbers_from passes n (xs ++ ys) ≡ numbers_from passes n xs ++ numbers_from passes m ys
numbers_append passes n m [] ys e = let same : n ≡ m = omega arith in ap (λ (k : ℕ). numbers_from passes k ys) same
numbers_append passes n m (x ∷ xs) ys e =
    ap (λ (l : List ℕ). cond (passes x) (n ∷ l) l) (numbers_append passes (n + 1) m xs ys (omega arith))
    ∙ cond_append (passes x) n (numbers_from passes (n + 1) xs) (numbers_from passes m ys)

pub map_cond : {S T : Type 0} (f : S → T) (b : Bool) (x : S) (xs : List S) → map f (cond b (x ∷ xs) xs) ≡ cond b (f x ∷ map f xs) (map f xs)
map_cond f b x xs = elim b as (λ v. map f (cond v (x ∷ xs) xs) ≡ cond v (f x ∷ map f xs) (map f xs)) [ true ↦ refl | false ↦ refl ]

-- the exchange cell of a list with this number
abbrev one_of : Surface → ℕ → XRef
one_of list n = record { list = list; row = n }

land_ref : (lands n : ℕ) → n < lands → ref_of lands n ≡ one_of Land n
land_ref lands n h = cond-true _ _ _ (lt-ltb n lands h)

ocean_ref : (lands n : ℕ) → ref_of lands (lands + n) ≡ one_of Ocean n
ocean_ref lands n = cond-false _ _ _ (le-ltb (lands + n) lands (omega arith)) ∙ ap (one_of Ocean) (let e : lands + n - lands ≡ n = omega arith in e)

-- the first numbers are of the land list
land_numbers : {T : Type 0} (passes : T → Bool) (lands n : ℕ) (items : List T) → n + length items ≤ lands → map (ref_of lands) (numbers_from passes n items) ≡ refs_to Land (numbers_from passes n items)
land_numbers passes lands n [] few = refl
land_numbers passes lands n (item ∷ items) few =
    let rest = land_numbers passes lands (n + 1) items (omega arith) in
    map_cond (ref_of lands) (passes item) n (numbers_from passes (n + 1) items)
    ∙ ap (λ (x : XRef). cond (passes item) (x ∷ map (ref_of lands) (numbers_from passes (n + 1) items)) (map (ref_of lands) (numbers_from passes (n + 1) items))) (land_ref lands n (omega arith))
    ∙ ap (λ (l : List XRef). cond (passes item) (one_of Land n ∷ l) l) rest
    ∙ sym (map_cond (one_of Land) (passes item) n (numbers_from passes (n + 1) items))

-- the rest are of the ocean list
ocean_numbers : {T : Type 0} (passes : T → Bool) (lands n m : ℕ) (items : List T) → lands + n ≡ m → map (ref_of lands) (numbers_from passes m items) ≡ refs_to Ocean (numbers_from passes n items)
ocean_numbers passes lands n m [] e = refl
ocean_numbers passes lands n m (item ∷ items) e =
    let rest = ocean_numbers passes lands (n + 1) (m + 1) items (omega arith) in
    map_cond (ref_of lands) (passes item) m (numbers_from passes (m + 1) items)
    ∙ ap (λ (x : XRef). cond (passes item) (x ∷ map (ref_of lands) (numbers_from passes (m + 1) items)) (map (ref_of lands) (numbers_from passes (m + 1) items))) (ap (ref_of lands) (sym e) ∙ ocean_ref lands n)
    ∙ ap (λ (l : List XRef). cond (passes item) (one_of Ocean n ∷ l) l) rest
    ∙ sym (map_cond (one_of Ocean) (passes item) n (numbers_from passes (n + 1) items))

-- the test of a cell
abbrev is_this : CellId → CellId → Bool
is_this cell c = is_same_cell c cell

-- the exchange cells of a cell of a parent
refs_of_cell : (of : Parent) (land_rows ocean_rows : List XRow) (cell : CellId)
    → map (ref_of (lands_of of land_rows)) (numbers_from (is_this cell) 0 (parent_cells of land_rows ocean_rows)) ≡ parent_refs of land_rows ocean_rows cell
refs_of_cell parent.Air land_rows ocean_rows cell =
    let lands = length land_rows in
    let passes = λ (row : XRow). is_this cell (air_cell row) in
    ap (λ (l : List CellId). map (ref_of lands) (numbers_from (is_this cell) 0 l)) (sym (map-append air_cell land_rows ocean_rows))
    ∙ ap (map (ref_of lands)) (numbers_map (is_this cell) air_cell 0 (land_rows ++ ocean_rows) ∙ numbers_append passes 0 lands land_rows ocean_rows (omega arith))
    ∙ map-append (ref_of lands) (numbers_from passes 0 land_rows) (numbers_from passes lands ocean_rows)
    ∙ ap (λ (l : List XRef). l ++ map (ref_of lands) (numbers_from passes lands ocean_rows)) (land_numbers passes lands 0 land_rows (omega arith))
    ∙ ap (λ (l : List XRef). refs_to Land (numbers_from passes 0 land_rows) ++ l) (ocean_numbers passes lands 0 lands ocean_rows (omega arith))
refs_of_cell parent.Land land_rows ocean_rows cell =
    let lands = length land_rows in
    ap (map (ref_of lands)) (numbers_map (is_this cell) other_cell 0 land_rows) ∙ land_numbers (λ (row : XRow). is_this cell (other_cell row)) lands 0 land_rows (omega arith)
refs_of_cell parent.Ocean land_rows ocean_rows cell =
    ap (map (ref_of 0)) (numbers_map (is_this cell) other_cell 0 ocean_rows) ∙ ocean_numbers (λ (row : XRow). is_this cell (other_cell row)) 0 0 0 ocean_rows (omega arith)

pub refs_by_parent : (of : Parent) (tiles : List Tile) (land_rows ocean_rows : List XRow)
    → map (map (ref_of (lands_of of land_rows))) (by_cell tiles (parent_cells of land_rows ocean_rows)) ≡ for_cells tiles (parent_refs of land_rows ocean_rows)
refs_by_parent of tiles land_rows ocean_rows =
    for_cells_map tiles (λ cell. numbers_from (is_this cell) 0 (parent_cells of land_rows ocean_rows)) (map (ref_of (lands_of of land_rows)))
    ∙ for_cells_same tiles _ (parent_refs of land_rows ocean_rows) (refs_of_cell of land_rows ocean_rows)

pub outlet_numbers : (tiles : List Tile) (outlets : List Outlet) → by_cell tiles (map land_cell outlets) ≡ for_cells tiles (outlets_of outlets)
outlet_numbers tiles outlets = for_cells_same tiles _ (outlets_of outlets) (λ cell. numbers_map (is_this cell) land_cell 0 outlets)
