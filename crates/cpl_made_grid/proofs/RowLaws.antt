-- The exchange cells of made grids: they are lawful, few, and those of each cell of the air sum to its area.
use Rattle.std.proofs.Common.{◌≡◌, refl, sym, ◌∙◌, ap, Bool, true, false, cond, not, ℕ, zero, suc, ◌+◌, ◌-◌, ◌*◌, ◌/◌, ◌<◌, ◌≤◌, arith, List, [], ◌∷◌, ◌++◌, map, length, inl, inr}
use Rattle.std.specs.Prelude.{ℤ, pos, ◌+ℤ◌, ◌≤ℤ◌, All}
use Rattle.std.specs.List.{filter, flat_map, range_with_len}
use Rattle.std.proofs.lemmas.Int.{ints}
use Rattle.std.proofs.lemmas.Bool.{false_from_ne_true, cases_lt}
use Rattle.std.proofs.Math.Nat.{mul-le-mul_left}
use Rattle.std.proofs.lemmas.List.{map-append, length-map, length-append}
use Rattle.std.proofs.lemmas.List.Elements.{All-map, All-filter, All-same, All-weaker, filter-append}
use Rattle.std.proofs.lemmas.List.Filters.{length-filter_both}
use Rattle.std.proofs.lemmas.List.FromFn.{length-range_with_len}
use Rattle.cpl_fixed.specs.Totals.{total_of}
use Rattle.cpl_mosaic.specs.declared.parts.Tile.{Tile}
use Rattle.cpl_mosaic.specs.declared.parts.CellId.{CellId}
use Rattle.cpl_mosaic.specs.Sides.{IsCellOf, is_same_cell}
use Rattle.cpl_mosaic.specs.Cells.{NumbersAgree, cell_of, number_of}
use Rattle.cpl_mosaic.proofs.Numbers.{numbers_agree}
use Rattle.cpl_xgrid.specs.declared.parts.XRow.{XRow}
use Rattle.cpl_xgrid.specs.Lists.{AreRows, IsArea}
use Rattle.cpl_xgrid.specs.Rows.{air_cell, area_of}
use Rattle.cpl_xgrid.proofs.CellNumbers.{same_cell, own_cell}
use Rattle.cpl_xgrid.proofs.Sums.{total_append}
use Rattle.cpl_made_grid.specs.declared.recipe.Recipe.{Recipe}
use Rattle.cpl_made_grid.specs.Shapes.{sphere_tiles, ocean_tiles, air_count, ocean_count}
use Rattle.cpl_made_grid.specs.Shares.{IsSized, end_under}
use Rattle.cpl_made_grid.specs.Overlaps.{overlap, under, is_land, land_row, ocean_row, land_rows_of, ocean_rows_of, land_rows, ocean_rows}
use Rattle.cpl_made_grid.specs.Outlets.{first_under}
use Rattle.cpl_made_grid.proofs.Mosaics.{counts, sphere_sizes, sphere_cells, ocean_sizes, ocean_cells}
use Rattle.cpl_made_grid.proofs.Ranges.{All-range, All-flat_range, total_one, total_split}
use Rattle.cpl_made_grid.proofs.Cuts.{AreParts, parts_under, parts_sum, overlaps, first_end, end_within}

-- NUMBERS OF CELLS

pub sphere_numbers : (size : ℕ) → IsSized size → NumbersAgree (sphere_tiles size)
sphere_numbers size sized = numbers_agree (sphere_tiles size) (sphere_sizes size sized)

pub ocean_numbers : (size : ℕ) → IsSized size → NumbersAgree (ocean_tiles size)
ocean_numbers size sized = numbers_agree (ocean_tiles size) (ocean_sizes size sized)

pub sphere_cell : (size a : ℕ) → IsSized size → a < air_count size → IsCellOf (sphere_tiles size) (cell_of (sphere_tiles size) a)
sphere_cell size a sized within = let cells = sphere_cells size in (sphere_numbers size sized).is_cell a (omega arith)

pub ocean_cell : (size o : ℕ) → IsSized size → o < ocean_count size → IsCellOf (ocean_tiles size) (cell_of (ocean_tiles size) o)
ocean_cell size o sized within = let cells = ocean_cells size in (ocean_numbers size sized).is_cell o (omega arith)

-- two cells of the sphere are one only where their numbers are
pub other_cells : (size a b : ℕ) → IsSized size → a < air_count size → b < air_count size → (a ≡ b → ⊥) → is_same_cell (cell_of (sphere_tiles size) a) (cell_of (sphere_tiles size) b) ≡ false
other_cells size a b sized a_in b_in other =
    let cells = sphere_cells size in
    let numbers = sphere_numbers size sized in
    false_from_ne_true (is_same_cell (cell_of (sphere_tiles size) a) (cell_of (sphere_tiles size) b)) (λ same.
    other (
    sym (numbers.number_cell a (omega arith))
    ∙ ap (number_of (sphere_tiles size)) (same_cell (cell_of (sphere_tiles size) a) (cell_of (sphere_tiles size) b) same)
    ∙ numbers.number_cell b (omega arith)))

-- OVERLAPS

pub parts_at : (size a : ℕ) → IsSized size → a < air_count size → AreParts (air_count size) (ocean_count size) a
parts_at size a sized within =
    let are = counts size sized in
    let some = are.some in
    record { some = omega arith; more = are.more; within = within }

pub under_is : (size a : ℕ) → IsSized size → a < air_count size → under size a ≡ range_with_len (first_under size a) (end_under (air_count size) (ocean_count size) a - first_under size a)
unfolding under
under_is size a sized within = parts_under (air_count size) (ocean_count size) a (parts_at size a sized within)

-- what holds of each cell under a cell of the air
pub under_all : (P : ℕ → Type 0) (size a : ℕ) → IsSized size → a < air_count size → ((o : ℕ) → o < ocean_count size → 0 < overlap size a o → P o) → All P (under size a)
under_all P size a sized within each =
    let parts = parts_at size a sized within in
    let order = first_end (air_count size) (ocean_count size) a parts in
    let inside = end_within (air_count size) (ocean_count size) a parts in
    All-same P (under size a) (range_with_len (first_under size a) (end_under (air_count size) (ocean_count size) a - first_under size a)) (under_is size a sized within)
    (All-range P (first_under size a) (end_under (air_count size) (ocean_count size) a - first_under size a) (λ o le lt. each o (omega arith) (overlaps (air_count size) (ocean_count size) a parts o le (omega arith))))

-- ROWS

-- an exchange cell of the sphere and another mosaic, of an area that isn't 0 and no greater than the count of cells
pub record IsRow (size : ℕ) (other : List Tile) (row : XRow) : Type 0 where
  pub air : IsCellOf (sphere_tiles size) row.air
  pub cell : IsCellOf other row.other
  pub least : pos 1 ≤ℤ row.area
  pub most : row.area ≤ℤ pos 24576

pub area_is : (size a o : ℕ) → IsSized size → 0 < overlap size a o → (pos 1 ≤ℤ pos (overlap size a o)) × (pos (overlap size a o) ≤ℤ pos 24576)
area_is size a o sized some =
    let are = counts size sized in
    let few = are.airs_few in
    let most : overlap size a o ≤ air_count size = omega arith in
    (omega (arith, ints, some), omega (arith, ints, most, few))

pub land_rows_are : (recipe : Recipe) → IsSized recipe.size → All (IsRow recipe.size (sphere_tiles recipe.size)) (land_rows recipe)
unfolding land_rows land_rows_of
land_rows_are recipe sized =
    All-flat_range (IsRow recipe.size (sphere_tiles recipe.size)) (land_rows_of recipe) 0 (air_count recipe.size) (λ a le lt.
    let within : a < air_count recipe.size = omega arith in
    All-map (IsRow recipe.size (sphere_tiles recipe.size)) (land_row recipe.size a) (filter (is_land recipe a) (under recipe.size a))
    (All-filter (is_land recipe a) (λ o. IsRow recipe.size (sphere_tiles recipe.size) (land_row recipe.size a o)) (under recipe.size a)
    (under_all (λ o. IsRow recipe.size (sphere_tiles recipe.size) (land_row recipe.size a o)) recipe.size a sized within (λ o o_in some.
    let area = area_is recipe.size a o sized some in
    record { air = sphere_cell recipe.size a sized within; cell = sphere_cell recipe.size a sized within; least = area.0; most = area.1 }))))

pub ocean_rows_are : (recipe : Recipe) → IsSized recipe.size → All (IsRow recipe.size (ocean_tiles recipe.size)) (ocean_rows recipe)
unfolding ocean_rows ocean_rows_of
ocean_rows_are recipe sized =
    All-flat_range (IsRow recipe.size (ocean_tiles recipe.size)) (ocean_rows_of recipe) 0 (air_count recipe.size) (λ a le lt.
    let within : a < air_count recipe.size = omega arith in
    All-map (IsRow recipe.size (ocean_tiles recipe.size)) (ocean_row recipe.size a) (filter (λ o. not (is_land recipe a o)) (under recipe.size a))
    (All-filter (λ o. not (is_land recipe a o)) (λ o. IsRow recipe.size (ocean_tiles recipe.size) (ocean_row recipe.size a o)) (under recipe.size a)
    (under_all (λ o. IsRow recipe.size (ocean_tiles recipe.size) (ocean_row recipe.size a o)) recipe.size a sized within (λ o o_in some.
    let area = area_is recipe.size a o sized some in
    record { air = sphere_cell recipe.size a sized within; cell = ocean_cell recipe.size o sized o_in; least = area.0; most = area.1 }))))

-- HOW MANY

both_count : (recipe : Recipe) (a : ℕ) → length (land_rows_of recipe a) + length (ocean_rows_of recipe a) ≡ length (under recipe.size a)
unfolding land_rows_of ocean_rows_of
both_count recipe a =
    let land = length-map (filter (is_land recipe a) (under recipe.size a)) (land_row recipe.size a) in
    let ocean = length-map (filter (λ o. not (is_land recipe a o)) (under recipe.size a)) (ocean_row recipe.size a) in
    let both = length-filter_both (is_land recipe a) (λ o. not (is_land recipe a o)) (λ o. refl) (under recipe.size a) in
    omega arith

div_grows : (n x y : ℕ) → 0 < n → x ≤ y → x / n ≤ y / n
div_grows n x y some le = elim (cases_lt (y / n) (x / n)) [
  | inl less ↦ let h : n * (y / n + 1) ≤ n * (x / n) = mul-le-mul_left n (omega arith) in absurd (omega arith)
  | inr upto ↦ upto
]

-- a cell of the air overlaps no more cells than the next one begins further on, and one more
count_under : (size a : ℕ) → IsSized size → a < air_count size → length (under size a) + first_under size a ≤ first_under size (a + 1) + 1
count_under size a sized within =
    let parts = parts_at size a sized within in
    let order = first_end (air_count size) (ocean_count size) a parts in
    let count : length (under size a) ≡ end_under (air_count size) (ocean_count size) a - first_under size a = ap length (under_is size a sized within) ∙ length-range_with_len (first_under size a) (end_under (air_count size) (ocean_count size) a - first_under size a) in
    let upto : ((a + 1) * ocean_count size - 1) / air_count size ≤ (a + 1) * ocean_count size / air_count size = div_grows (air_count size) ((a + 1) * ocean_count size - 1) ((a + 1) * ocean_count size) parts.some (omega arith) in
    omega arith

rows_upto : (recipe : Recipe) (a n : ℕ) → IsSized recipe.size → a + n ≤ air_count recipe.size
    → length (flat_map (land_rows_of recipe) (range_with_len a n)) + length (flat_map (ocean_rows_of recipe) (range_with_len a n)) + first_under recipe.size a ≤ first_under recipe.size (a + n) + n
rows_upto recipe a zero sized within = let same : first_under recipe.size a ≡ first_under recipe.size (a + zero) = ap (first_under recipe.size) (omega arith) in omega arith
rows_upto recipe a (suc n) sized within =
    let own = both_count recipe a in
    let step = count_under recipe.size a sized (omega arith) in
    let rest = rows_upto recipe (a + 1) n sized (omega arith) in
    let same : first_under recipe.size (a + 1 + n) ≡ first_under recipe.size (a + suc n) = ap (first_under recipe.size) (omega arith) in
    let land = length-append (land_rows_of recipe a) (flat_map (land_rows_of recipe) (range_with_len (a + 1) n)) in
    let ocean = length-append (ocean_rows_of recipe a) (flat_map (ocean_rows_of recipe) (range_with_len (a + 1) n)) in
    omega arith

mul-div_own : (n m : ℕ) → 0 < n → n * m / n ≡ m
mul-div_own n m some =
    let upto : n * (n * m / n) ≤ n * m = omega arith in
    let past : n * m < n * (n * m / n) + n = omega arith in
    elim (cases_lt (n * m / n) m) [
      | inl less ↦ let h : n * (n * m / n + 1) ≤ n * m = mul-le-mul_left n (omega arith) in absurd (omega arith)
      | inr le ↦ elim (cases_lt m (n * m / n)) [
        | inl more ↦ let h : n * (m + 1) ≤ n * (n * m / n) = mul-le-mul_left n (omega arith) in absurd (omega arith)
        | inr ge ↦ omega arith
      ]
    ]

pub rows_few : (recipe : Recipe) → IsSized recipe.size → length (land_rows recipe) + length (ocean_rows recipe) ≤ 144960
unfolding land_rows ocean_rows
rows_few recipe sized =
    let are = counts recipe.size sized in
    let some = are.some in
    let airs_few = are.airs_few in
    let oceans_few = are.oceans_few in
    let all = rows_upto recipe 0 (air_count recipe.size) sized (omega arith) in
    let start : 0 + air_count recipe.size ≡ air_count recipe.size = omega arith in
    let last : first_under recipe.size (0 + air_count recipe.size) ≡ ocean_count recipe.size = ap (first_under recipe.size) start ∙ mul-div_own (air_count recipe.size) (ocean_count recipe.size) (omega arith) in
    omega arith

row_area : (size : ℕ) (other : List Tile) (row : XRow) → IsRow size other row → IsArea row.area
row_area size other row is =
    let least = is.least in
    let most = is.most in
    (omega (arith, ints, least), omega (arith, ints, most))

pub rows_are : (recipe : Recipe) → IsSized recipe.size → AreRows (land_rows recipe) (ocean_rows recipe)
rows_are recipe sized =
    let few = rows_few recipe sized in
    record {
      few = omega arith;
      land = All-weaker (IsRow recipe.size (sphere_tiles recipe.size)) (λ (row : XRow). IsArea row.area) (row_area recipe.size (sphere_tiles recipe.size)) (land_rows recipe) (land_rows_are recipe sized);
      ocean = All-weaker (IsRow recipe.size (ocean_tiles recipe.size)) (λ (row : XRow). IsArea row.area) (row_area recipe.size (ocean_tiles recipe.size)) (ocean_rows recipe) (ocean_rows_are recipe sized);
    }

-- SUMS OVER THE CELLS OF THE AIR

pub area_append : (cell : XRow → CellId) (own : CellId) (xs ys : List XRow) → area_of cell own (xs ++ ys) ≡ area_of cell own xs +ℤ area_of cell own ys
area_append cell own xs ys =
    let passes = λ (row : XRow). is_same_cell (cell row) own in
    let area = λ (row : XRow). row.area in
    ap (λ (l : List XRow). total_of (map area l)) (filter-append passes xs ys)
    ∙ ap total_of (map-append area (filter passes xs) (filter passes ys))
    ∙ total_append (map area (filter passes xs)) (map area (filter passes ys))

pub area_cons : (cell : XRow → CellId) (own : CellId) (row : XRow) (rows : List XRow) (b : Bool) → is_same_cell (cell row) own ≡ b
    → area_of cell own (row ∷ rows) ≡ cond b row.area (pos 0) +ℤ area_of cell own rows
area_cons cell own row rows true e = ap (λ (b : Bool). total_of (map (λ (r : XRow). r.area) (cond b (row ∷ filter (λ r. is_same_cell (cell r) own) rows) (filter (λ r. is_same_cell (cell r) own) rows)))) e
area_cons cell own row rows false e =
    let same : area_of cell own (row ∷ rows) ≡ area_of cell own rows = ap (λ (b : Bool). total_of (map (λ (r : XRow). r.area) (cond b (row ∷ filter (λ r. is_same_cell (cell r) own) rows) (filter (λ r. is_same_cell (cell r) own) rows)))) e in
    omega (arith, ints, same)

area_kept : (cell : XRow → CellId) (own : CellId) (f : ℕ → XRow) → ((o : ℕ) → is_same_cell (cell (f o)) own ≡ true) → (os : List ℕ) → area_of cell own (map f os) ≡ total_of (map (λ o. (f o).area) os)
area_kept cell own f same [] = refl
area_kept cell own f same (o ∷ os) =
    let first = area_cons cell own (f o) (map f os) true (same o) in
    let rest = area_kept cell own f same os in
    omega (arith, ints, first, rest)

area_none : (cell : XRow → CellId) (own : CellId) (f : ℕ → XRow) → ((o : ℕ) → is_same_cell (cell (f o)) own ≡ false) → (os : List ℕ) → area_of cell own (map f os) ≡ pos 0
area_none cell own f other [] = refl
area_none cell own f other (o ∷ os) =
    let first = area_cons cell own (f o) (map f os) false (other o) in
    let rest = area_none cell own f other os in
    omega (arith, ints, first, rest)

area_flat : (cell : XRow → CellId) (own : CellId) (f : ℕ → List XRow) (a n : ℕ) → area_of cell own (flat_map f (range_with_len a n)) ≡ total_of (map (λ k. area_of cell own (f k)) (range_with_len a n))
area_flat cell own f a zero = refl
area_flat cell own f a (suc n) = area_append cell own (f a) (flat_map f (range_with_len (a + 1) n)) ∙ ap (λ (z : ℤ). area_of cell own (f a) +ℤ z) (area_flat cell own f (a + 1) n)

module _ (recipe : Recipe) (sized : IsSized recipe.size) (n : ℕ) (n_in : n < air_count recipe.size) where
  abbrev tiles : List Tile
  tiles = sphere_tiles recipe.size

  abbrev length_at : ℕ → ℤ
  length_at o = pos (overlap recipe.size n o)

  land_part : area_of air_cell (cell_of tiles n) (land_rows recipe) ≡ total_of (map length_at (filter (is_land recipe n) (under recipe.size n)))
  unfolding land_rows land_rows_of
  land_part =
      area_flat air_cell (cell_of tiles n) (land_rows_of recipe) 0 (air_count recipe.size)
      ∙ total_one (λ a. area_of air_cell (cell_of tiles n) (land_rows_of recipe a)) 0 (air_count recipe.size) n (omega arith) (omega arith) (λ a le lt other.
      area_none air_cell (cell_of tiles n) (land_row recipe.size a) (λ o. other_cells recipe.size a n sized (omega arith) n_in other) (filter (is_land recipe a) (under recipe.size a)))
      ∙ area_kept air_cell (cell_of tiles n) (land_row recipe.size n) (λ o. own_cell (cell_of tiles n)) (filter (is_land recipe n) (under recipe.size n))

  ocean_part : area_of air_cell (cell_of tiles n) (ocean_rows recipe) ≡ total_of (map length_at (filter (λ o. not (is_land recipe n o)) (under recipe.size n)))
  unfolding ocean_rows ocean_rows_of
  ocean_part =
      area_flat air_cell (cell_of tiles n) (ocean_rows_of recipe) 0 (air_count recipe.size)
      ∙ total_one (λ a. area_of air_cell (cell_of tiles n) (ocean_rows_of recipe a)) 0 (air_count recipe.size) n (omega arith) (omega arith) (λ a le lt other.
      area_none air_cell (cell_of tiles n) (ocean_row recipe.size a) (λ o. other_cells recipe.size a n sized (omega arith) n_in other) (filter (λ o. not (is_land recipe a o)) (under recipe.size a)))
      ∙ area_kept air_cell (cell_of tiles n) (ocean_row recipe.size n) (λ o. own_cell (cell_of tiles n)) (filter (λ o. not (is_land recipe n o)) (under recipe.size n))

  -- the exchange cells of a cell of the air sum to its area
  pub air_sum : area_of air_cell (cell_of tiles n) (land_rows recipe) +ℤ area_of air_cell (cell_of tiles n) (ocean_rows recipe) ≡ pos (ocean_count recipe.size)
  air_sum =
      let land = land_part in
      let ocean = ocean_part in
      let both = total_split length_at (is_land recipe n) (under recipe.size n) in
      let all : total_of (map length_at (under recipe.size n)) ≡ pos (ocean_count recipe.size) =
      ap (λ (l : List ℕ). total_of (map length_at l)) (under_is recipe.size n sized n_in) ∙ parts_sum (air_count recipe.size) (ocean_count recipe.size) n (parts_at recipe.size n sized n_in) in
      omega (arith, ints, land, ocean, both, all)

-- WHAT THE CODE TAKES

-- the exchange cells of a cell of the air, by the cells of the ocean from the first to the last
pub land_rows_is : (recipe : Recipe) (a : ℕ) → IsSized recipe.size → a < air_count recipe.size
    → land_rows_of recipe a ≡ map (land_row recipe.size a) (filter (is_land recipe a) (range_with_len (first_under recipe.size a) (end_under (air_count recipe.size) (ocean_count recipe.size) a - first_under recipe.size a)))
unfolding land_rows_of
land_rows_is recipe a sized within = ap (λ (l : List ℕ). map (land_row recipe.size a) (filter (is_land recipe a) l)) (under_is recipe.size a sized within)

pub ocean_rows_is : (recipe : Recipe) (a : ℕ) → IsSized recipe.size → a < air_count recipe.size
    → ocean_rows_of recipe a ≡ map (ocean_row recipe.size a) (filter (λ o. not (is_land recipe a o)) (range_with_len (first_under recipe.size a) (end_under (air_count recipe.size) (ocean_count recipe.size) a - first_under recipe.size a)))
unfolding ocean_rows_of
ocean_rows_is recipe a sized within = ap (λ (l : List ℕ). map (ocean_row recipe.size a) (filter (λ o. not (is_land recipe a o)) l)) (under_is recipe.size a sized within)
