-- Made grids are lawful.
use Rattle.std.proofs.Common.{◌≡◌, refl, sym, ◌∙◌, ap, subst, Bool, true, false, cond, not, ◌&&◌, ltb, ℕ, zero, suc, ◌+◌, ◌*◌, ◌<◌, ◌≤◌, arith, List, [], ◌∷◌, map, length, get_or, Option, Some, None, inl, inr}
use Rattle.std.specs.Prelude.{ℤ, pos, ◌+ℤ◌, ◌≤ℤ◌, All, replicate}
use Rattle.std.specs.List.{filter, range_with_len, list_any}
use Rattle.std.specs.Ordering.{int_eq}
use Rattle.std.proofs.lemmas.Int.{ints}
use Rattle.std.proofs.lemmas.Bool.{false_from_ne_true, not_from_false, and_from, and_left, lt-ltb, cond-true, cond-false, cases_Bool}
use Rattle.std.proofs.lemmas.Bool.Decides.{Decides-int_eq}
use Rattle.std.proofs.lemmas.List.{length-replicate, length-map}
use Rattle.std.proofs.lemmas.List.Elements.{All-map, All-tail, All-weaker, All-replicate, All-from_get_or, All-filter}
use Rattle.std.proofs.lemmas.List.FromFn.{length-range_with_len}
use Rattle.cpl_fixed.specs.Amounts.{at}
use Rattle.cpl_fixed.specs.Ranges.{IsFromℤ}
use Rattle.cpl_fixed.specs.declared.limits.TheConstants.{MOST_AREA, MOST_EXCHANGE_CELLS, MOST_WEIGHT}
use Rattle.cpl_mosaic.specs.declared.parts.Tile.{Tile}
use Rattle.cpl_mosaic.specs.declared.parts.CellId.{CellId}
use Rattle.cpl_mosaic.specs.declared.mosaic.Mesh.{Mesh}
use Rattle.cpl_mosaic.specs.Sides.{IsCellOf, is_same_cell, tile_at}
use Rattle.cpl_mosaic.specs.Contacts.{cells_of}
use Rattle.cpl_mosaic.specs.Cells.{cell_of, number_of}
use Rattle.cpl_xgrid.specs.declared.parts.XRow.{XRow}
use Rattle.cpl_xgrid.specs.declared.parts.Outlet.{Outlet}
use Rattle.cpl_xgrid.specs.declared.parts.Surface.{Surface}
use Rattle.cpl_xgrid.specs.declared.parts.Surface.TheVariants as surface
use Rattle.cpl_xgrid.specs.declared.error.XGridError.{XGridError}
use Rattle.cpl_xgrid.specs.declared.error.XGridError.TheVariants as fault
use Rattle.cpl_xgrid.specs.Lists.{IsArea, IsMesh, AreOutlets}
use Rattle.cpl_xgrid.specs.Grids.{IsGrid}
use Rattle.cpl_xgrid.specs.Rows.{is_cell, air_cell, other_cell, area_of}
use Rattle.cpl_xgrid.specs.Rules.{or_else, first_fault, row_fault, sum_fault, outlet_fault, no_outlet_fault, air_fault, land_fault, ocean_fault, xgrid_fault, area_at, IsFirstFault}
use Rattle.cpl_xgrid.specs.Indexes.{AreCells}
use Rattle.cpl_xgrid.proofs.CellNumbers.{own_cell}
use Rattle.cpl_made_grid.specs.declared.recipe.Recipe.{Recipe}
use Rattle.cpl_made_grid.specs.Shapes.{sphere_tiles, ocean_tiles, air_count, ocean_count}
use Rattle.cpl_made_grid.specs.Shares.{IsSized}
use Rattle.cpl_made_grid.specs.Overlaps.{land_rows, ocean_rows}
use Rattle.cpl_made_grid.specs.Areas.{sums_of, land_areas, ocean_areas}
use Rattle.cpl_made_grid.specs.Outlets.{is_wet, wet_near, first_under, outlet_at, outlets_between, outlets}
use Rattle.cpl_made_grid.specs.Grids.{air_mesh, land_mesh, ocean_mesh, made_grid}
use Rattle.cpl_made_grid.proofs.Mosaics.{counts, sphere_cells, ocean_cells}
use Rattle.cpl_made_grid.proofs.Ranges.{All-range, any_in_range}
use Rattle.cpl_made_grid.proofs.RowLaws.{IsRow, area_cons, land_rows_are, ocean_rows_are, rows_are, rows_few, air_sum, ocean_numbers, sphere_cell, ocean_cell}
use Rattle.cpl_made_grid.proofs.AreaLaws.{HasArea, area_small, sums_at, sums_count}
use Rattle.cpl_made_grid.proofs.OutletLaws.{ocean_length, first_wet, near_wet}

-- FAULTS OF LISTS

none_each : {T : Type 0} (judge : ℕ → T → Option XGridError) (n : ℕ) (items : List T) → All (λ item. (m : ℕ) → judge m item ≡ None) items → first_fault judge n items ≡ None
none_each judge n [] each = refl
none_each {T} judge n (item ∷ items) each =
    let first = each 0 item (omega arith) n in
    let rest = none_each judge (n + 1) items (All-tail (λ (i : T). (m : ℕ) → judge m i ≡ None) item items each) in
    λ i. or_else (first i) (rest i)

none_at : {T : Type 0} (judge : ℕ → T → Option XGridError) (a : ℕ) (items : List T) (d : T) → ((k : ℕ) → k < length items → judge (a + k) (get_or items k d) ≡ None) → first_fault judge a items ≡ None
none_at judge a [] d each = refl
none_at judge a (item ∷ items) d each =
    let same : a + 0 ≡ a = omega arith in
    let first = ap (λ (n : ℕ). judge n item) (sym same) ∙ each 0 (omega arith) in
    let rest = none_at judge (a + 1) items d (λ k below. let next : a + 1 + k ≡ a + suc k = omega arith in ap (λ (n : ℕ). judge n (get_or items k d)) next ∙ each (suc k) (omega arith)) in
    λ i. or_else (first i) (rest i)

none_over : {T : Type 0} (judge : ℕ → T → Option XGridError) (f : ℕ → T) (a n : ℕ) → ((k : ℕ) → a ≤ k → k < a + n → judge k (f k) ≡ None) → first_fault judge a (map f (range_with_len a n)) ≡ None
none_over judge f a zero each = refl
none_over judge f a (suc n) each =
    let first = each a (omega arith) (omega arith) in
    let rest = none_over judge f (a + 1) n (λ k le lt. each k (omega arith) (omega arith)) in
    λ i. or_else (first i) (rest i)

none_same : {T : Type 0} (judge : ℕ → T → Option XGridError) (x : T) (a n : ℕ) → ((k : ℕ) → a ≤ k → k < a + n → judge k x ≡ None) → first_fault judge a (replicate n x) ≡ None
none_same judge x a zero each = refl
none_same judge x a (suc n) each =
    let first = each a (omega arith) (omega arith) in
    let rest = none_same judge x (a + 1) n (λ k le lt. each k (omega arith) (omega arith)) in
    λ i. or_else (first i) (rest i)

-- ROWS

cell_test : (tiles : List Tile) (cell : CellId) → IsCellOf tiles cell → is_cell tiles cell ≡ true
cell_test tiles cell is = and_from (ltb cell.i (tile_at tiles cell.tile).nx) (ltb cell.j (tile_at tiles cell.tile).ny) (lt-ltb cell.i (tile_at tiles cell.tile).nx is.column) (lt-ltb cell.j (tile_at tiles cell.tile).ny is.row)

not_zero : (x : ℤ) → pos 1 ≤ℤ x → int_eq x (pos 0) ≡ false
not_zero x least = false_from_ne_true (int_eq x (pos 0)) (λ e. let z = (Decides-int_eq x (pos 0)).0 e in absurd (omega (arith, ints, least, z)))

row_none : (list : Surface) (size : ℕ) (other : List Tile) (n : ℕ) (row : XRow) → IsRow size other row → row_fault list (sphere_tiles size) other n row ≡ None
row_none list size other n row is =
    let cells = and_from (is_cell (sphere_tiles size) row.air) (is_cell other row.other) (cell_test (sphere_tiles size) row.air is.air) (cell_test other row.other is.cell) in
    let some = not_zero row.area is.least in
    λ i. cond (not (cells i)) (Some (fault.BadIndex list n)) (cond (some i) (Some (fault.ZeroArea list n)) None)

-- SUMS

sum_none : (error : ℕ → ℤ → ℤ → XGridError) (sum : CellId → ℤ) (mesh : Mesh) (n : ℕ) (area : ℤ) → sum (cell_of mesh.mosaic.tiles n) ≡ area → sum_fault error sum mesh n area ≡ None
sum_none error sum mesh n area same =
    cond-true (int_eq (sum (cell_of mesh.mosaic.tiles n)) area) None (Some (error n (sum (cell_of mesh.mosaic.tiles n)) area)) ((Decides-int_eq (sum (cell_of mesh.mosaic.tiles n)) area).1 same)

air_none : (recipe : Recipe) → IsSized recipe.size → air_fault (air_mesh recipe.size) (land_rows recipe) (ocean_rows recipe) ≡ None
air_none recipe sized =
    none_same (sum_fault fault.AirSum (λ cell. area_of air_cell cell (land_rows recipe) +ℤ area_of air_cell cell (ocean_rows recipe)) (air_mesh recipe.size)) (pos (ocean_count recipe.size)) 0 (air_count recipe.size) (λ n le lt.
    sum_none fault.AirSum (λ cell. area_of air_cell cell (land_rows recipe) +ℤ area_of air_cell cell (ocean_rows recipe)) (air_mesh recipe.size) n (pos (ocean_count recipe.size)) (air_sum recipe sized n (omega arith)))

land_none : (recipe : Recipe) → land_fault (land_mesh recipe) (land_rows recipe) ≡ None
unfolding land_areas
land_none recipe =
    none_over (sum_fault fault.LandSum (λ cell. area_of other_cell cell (land_rows recipe)) (land_mesh recipe)) (λ n. area_of other_cell (cell_of (sphere_tiles recipe.size) n) (land_rows recipe)) 0 (cells_of (sphere_tiles recipe.size)) (λ n le lt.
    sum_none fault.LandSum (λ cell. area_of other_cell cell (land_rows recipe)) (land_mesh recipe) n (area_of other_cell (cell_of (sphere_tiles recipe.size) n) (land_rows recipe)) refl)

ocean_none : (recipe : Recipe) → ocean_fault (ocean_mesh recipe) (ocean_rows recipe) ≡ None
unfolding ocean_areas
ocean_none recipe =
    none_over (sum_fault fault.OceanSum (λ cell. area_of other_cell cell (ocean_rows recipe)) (ocean_mesh recipe)) (λ n. area_of other_cell (cell_of (ocean_tiles recipe.size) n) (ocean_rows recipe)) 0 (cells_of (ocean_tiles recipe.size)) (λ n le lt.
    sum_none fault.OceanSum (λ cell. area_of other_cell cell (ocean_rows recipe)) (ocean_mesh recipe) n (area_of other_cell (cell_of (ocean_tiles recipe.size) n) (ocean_rows recipe)) refl)

-- MESHES

pub air_is : (size : ℕ) → IsSized size → IsMesh (air_mesh size)
air_is size sized =
    let are = counts size sized in
    let few = are.oceans_few in
    let area : IsArea (pos (ocean_count size)) = (omega (arith, ints), omega (arith, ints, few)) in
    record { count = length-replicate (air_count size) (pos (ocean_count size)) ∙ sym (sphere_cells size); each = All-replicate IsArea (air_count size) (pos (ocean_count size)) area }

sums_are : (tiles : List Tile) (rows : List XRow) → All HasArea rows → length rows ≤ 144960 → ((n : ℕ) → n < cells_of tiles → area_of other_cell (cell_of tiles n) rows ≤ℤ pos MOST_AREA) → All IsArea (sums_of tiles rows)
sums_are tiles rows are few most =
    All-from_get_or IsArea (sums_of tiles rows) (pos 0) (λ n below.
    let count = sums_count tiles rows in
    let sum = area_small other_cell (cell_of tiles n) rows are (omega arith) in
    subst IsArea (sym (sums_at tiles rows n (pos 0) (omega arith))) (sum.0, most n (omega arith)))

-- each exchange cell has at most 24576, so that so few of them sum to less than the greatest area
record IsBelow (count : ℕ) (sum : ℤ) : Type 0 where
  most : sum ≤ℤ pos (24576 * count)

cond_below : (b : Bool) (x : ℤ) → x ≤ℤ pos 24576 → cond b x (pos 0) ≤ℤ pos 24576
cond_below true x is = is
cond_below false x is = omega (arith, ints)

sum_below : (size : ℕ) (other : List Tile) (own : CellId) (rows : List XRow) → All (IsRow size other) rows → IsBelow (length rows) (area_of other_cell own rows)
sum_below size other own [] are = record { most = omega (arith, ints) }
sum_below size other own (row ∷ rows) are =
    let first = cond_below (is_same_cell row.other own) row.area (are 0 row (omega arith)).most in
    let rest = (sum_below size other own rows (All-tail (IsRow size other) row rows are)).most in
    let sum = area_cons other_cell own row rows (is_same_cell row.other own) refl in
    record { most = omega (arith, ints, sum, first, rest) }

below_area : (count : ℕ) (sum : ℤ) → count ≤ 144960 → IsBelow count sum → sum ≤ℤ pos MOST_AREA
below_area count sum few is = let most = is.most in omega (arith, ints, most, few)

pub land_is : (recipe : Recipe) → IsSized recipe.size → IsMesh (land_mesh recipe)
unfolding land_areas
land_is recipe sized =
    let few = rows_few recipe sized in
    let short : length (land_rows recipe) ≤ 144960 = omega arith in
    record {
      count = sums_count (sphere_tiles recipe.size) (land_rows recipe);
      each = sums_are (sphere_tiles recipe.size) (land_rows recipe) (rows_are recipe sized).land short (λ n below.
          below_area (length (land_rows recipe)) (area_of other_cell (cell_of (sphere_tiles recipe.size) n) (land_rows recipe)) short (sum_below recipe.size (sphere_tiles recipe.size) (cell_of (sphere_tiles recipe.size) n) (land_rows recipe) (land_rows_are recipe sized)));
    }

pub ocean_is : (recipe : Recipe) → IsSized recipe.size → IsMesh (ocean_mesh recipe)
unfolding ocean_areas
ocean_is recipe sized =
    let few = rows_few recipe sized in
    let short : length (ocean_rows recipe) ≤ 144960 = omega arith in
    record {
      count = sums_count (ocean_tiles recipe.size) (ocean_rows recipe);
      each = sums_are (ocean_tiles recipe.size) (ocean_rows recipe) (rows_are recipe sized).ocean short (λ n below.
          below_area (length (ocean_rows recipe)) (area_of other_cell (cell_of (ocean_tiles recipe.size) n) (ocean_rows recipe)) short (sum_below recipe.size (ocean_tiles recipe.size) (cell_of (ocean_tiles recipe.size) n) (ocean_rows recipe) (ocean_rows_are recipe sized)));
    }

-- OUTLETS

pub land_length : (recipe : Recipe) → length (land_areas recipe) ≡ air_count recipe.size
unfolding land_areas
land_length recipe = sums_count (sphere_tiles recipe.size) (land_rows recipe) ∙ sphere_cells recipe.size

-- an outlet from a cell of the land to a cell of the ocean with an area
pub record IsOutlet (recipe : Recipe) (outlet : Outlet) : Type 0 where
  pub land : IsCellOf (sphere_tiles recipe.size) outlet.land
  pub ocean : IsCellOf (ocean_tiles recipe.size) outlet.ocean
  pub area : not (int_eq (area_at (ocean_mesh recipe) outlet.ocean) (pos 0)) ≡ true
  pub weight : outlet.weight ≡ pos 1

outlet_is : (recipe : Recipe) (a : ℕ) → IsSized recipe.size → a < air_count recipe.size → IsOutlet recipe (outlet_at recipe.size (ocean_areas recipe) a)
outlet_is recipe a sized a_in =
    let are = counts recipe.size sized in
    let some = are.some in
    let more = are.more in
    let count = ocean_length recipe in
    let near = near_wet (ocean_areas recipe) (first_under recipe.size a) (omega arith) (first_wet recipe sized) in
    let below = near.0 in
    let o_in : wet_near (ocean_areas recipe) (first_under recipe.size a) < ocean_count recipe.size = omega arith in
    let cells = ocean_cells recipe.size in
    let number : number_of (ocean_tiles recipe.size) (cell_of (ocean_tiles recipe.size) (wet_near (ocean_areas recipe) (first_under recipe.size a))) ≡ wet_near (ocean_areas recipe) (first_under recipe.size a) = (ocean_numbers recipe.size sized).number_cell (wet_near (ocean_areas recipe) (first_under recipe.size a)) (omega arith) in
    record {
      land = sphere_cell recipe.size a sized a_in;
      ocean = ocean_cell recipe.size (wet_near (ocean_areas recipe) (first_under recipe.size a)) sized o_in;
      area = ap (λ (n : ℕ). not (int_eq (get_or (ocean_areas recipe) n (pos 0)) (pos 0))) number ∙ near.1;
      weight = refl;
    }

pub outlets_are : (recipe : Recipe) → IsSized recipe.size → All (IsOutlet recipe) (outlets recipe)
unfolding outlets
outlets_are recipe sized =
    let count = land_length recipe in
    All-map (IsOutlet recipe) (outlet_at recipe.size (ocean_areas recipe)) (filter (is_wet (land_areas recipe)) (range_with_len 0 (length (land_areas recipe))))
    (All-filter (is_wet (land_areas recipe)) (λ a. IsOutlet recipe (outlet_at recipe.size (ocean_areas recipe) a)) (range_with_len 0 (length (land_areas recipe)))
    (All-range (λ a. IsOutlet recipe (outlet_at recipe.size (ocean_areas recipe) a)) 0 (length (land_areas recipe)) (λ a le lt. outlet_is recipe a sized (omega arith))))

outlet_none : (recipe : Recipe) (outlet : Outlet) (n : ℕ) → IsOutlet recipe outlet → outlet_fault (land_mesh recipe) (ocean_mesh recipe) n outlet ≡ None
outlet_none recipe outlet n is =
    let cells = and_from (is_cell (sphere_tiles recipe.size) outlet.land) (is_cell (ocean_tiles recipe.size) outlet.ocean) (cell_test (sphere_tiles recipe.size) outlet.land is.land) (cell_test (ocean_tiles recipe.size) outlet.ocean is.ocean) in
    let area = and_from _ _ cells is.area in
    let weight : not (int_eq outlet.weight (pos 0)) ≡ true = not_from_false (int_eq outlet.weight (pos 0)) (not_zero outlet.weight (let one = is.weight in omega (arith, ints, one))) in
    cond-true _ None (Some (fault.Outlet n)) (and_from _ _ area weight)

length_filter : {T : Type 0} (p : T → Bool) (xs : List T) → length (filter p xs) ≤ length xs
length_filter p [] = omega arith
length_filter p (x ∷ xs) =
    let rest = length_filter p xs in
    elim (cases_Bool (p x)) [
      | inl kept ↦ let e = ap (λ (b : Bool). length (cond b (x ∷ filter p xs) (filter p xs))) kept in omega arith
      | inr left ↦ let e = ap (λ (b : Bool). length (cond b (x ∷ filter p xs) (filter p xs))) left in omega arith
    ]

pub outlets_few : (recipe : Recipe) → IsSized recipe.size → length (outlets recipe) ≤ 24576
unfolding outlets
outlets_few recipe sized =
    let are = counts recipe.size sized in
    let few = are.airs_few in
    let count = land_length recipe in
    let numbers = length-range_with_len 0 (length (land_areas recipe)) in
    let kept = length_filter (is_wet (land_areas recipe)) (range_with_len 0 (length (land_areas recipe))) in
    let all = length-map (filter (is_wet (land_areas recipe)) (range_with_len 0 (length (land_areas recipe)))) (outlet_at recipe.size (ocean_areas recipe)) in
    omega arith

outlet_weight : (recipe : Recipe) (outlet : Outlet) → IsOutlet recipe outlet → IsFromℤ 0 MOST_WEIGHT outlet.weight
outlet_weight recipe outlet is = let one = is.weight in (omega (arith, ints, one), omega (arith, ints, one))

pub outlets_lawful : (recipe : Recipe) → IsSized recipe.size → AreOutlets (outlets recipe)
outlets_lawful recipe sized =
    let few = outlets_few recipe sized in
    record { few = omega arith; each = All-weaker (IsOutlet recipe) (λ (outlet : Outlet). IsFromℤ 0 MOST_WEIGHT outlet.weight) (outlet_weight recipe) (outlets recipe) (outlets_are recipe sized) }

-- a cell of the land with an area has an outlet
drained : (recipe : Recipe) (n : ℕ) → n < length (land_areas recipe) → no_outlet_fault (land_mesh recipe) (outlets recipe) n (at (land_areas recipe) n) ≡ None
unfolding outlets
drained recipe n below =
    let test = λ (outlet : Outlet). is_same_cell outlet.land (cell_of (sphere_tiles recipe.size) n) in
    elim (cases_Bool (is_wet (land_areas recipe) n)) [
      | inl wet ↦
          let any : list_any test (outlets_between recipe.size (land_areas recipe) (ocean_areas recipe)) ≡ true = any_in_range test (outlet_at recipe.size (ocean_areas recipe)) (is_wet (land_areas recipe)) 0 (length (land_areas recipe)) n (omega arith) (omega arith) wet (own_cell (cell_of (sphere_tiles recipe.size) n)) in
          λ i. cond (wet i && not (any i)) (Some (fault.NoOutlet n)) None
      | inr dry ↦ cond-false _ (Some (fault.NoOutlet n)) None (and_left (is_wet (land_areas recipe) n) _ dry)
    ]

drained_all : (recipe : Recipe) → first_fault (no_outlet_fault (land_mesh recipe) (outlets recipe)) 0 (land_areas recipe) ≡ None
drained_all recipe = none_at (no_outlet_fault (land_mesh recipe) (outlets recipe)) 0 (land_areas recipe) (pos 0) (λ k below. let same : 0 + k ≡ k = omega arith in ap (λ (n : ℕ). no_outlet_fault (land_mesh recipe) (outlets recipe) n (at (land_areas recipe) k)) same ∙ drained recipe k below)

-- ALL RULES

pub made_rules : (recipe : Recipe) → IsSized recipe.size → xgrid_fault (air_mesh recipe.size) (land_mesh recipe) (ocean_mesh recipe) (land_rows recipe) (ocean_rows recipe) (outlets recipe) ≡ None
made_rules recipe sized =
    let land_list = none_each (row_fault surface.Land (sphere_tiles recipe.size) (sphere_tiles recipe.size)) 0 (land_rows recipe) (All-weaker (IsRow recipe.size (sphere_tiles recipe.size)) (λ (row : XRow). (n : ℕ) → row_fault surface.Land (sphere_tiles recipe.size) (sphere_tiles recipe.size) n row ≡ None) (λ row is n. row_none surface.Land recipe.size (sphere_tiles recipe.size) n row is) (land_rows recipe) (land_rows_are recipe sized)) in
    let ocean_list = none_each (row_fault surface.Ocean (sphere_tiles recipe.size) (ocean_tiles recipe.size)) 0 (ocean_rows recipe) (All-weaker (IsRow recipe.size (ocean_tiles recipe.size)) (λ (row : XRow). (n : ℕ) → row_fault surface.Ocean (sphere_tiles recipe.size) (ocean_tiles recipe.size) n row ≡ None) (λ row is n. row_none surface.Ocean recipe.size (ocean_tiles recipe.size) n row is) (ocean_rows recipe) (ocean_rows_are recipe sized)) in
    let air = air_none recipe sized in
    let land = land_none recipe in
    let ocean = ocean_none recipe in
    let ways = none_each (outlet_fault (land_mesh recipe) (ocean_mesh recipe)) 0 (outlets recipe) (All-weaker (IsOutlet recipe) (λ (outlet : Outlet). (n : ℕ) → outlet_fault (land_mesh recipe) (ocean_mesh recipe) n outlet ≡ None) (λ outlet is n. outlet_none recipe outlet n is) (outlets recipe) (outlets_are recipe sized)) in
    let dry = drained_all recipe in
    λ i. or_else (land_list i) (or_else (ocean_list i) (or_else (air i) (or_else (land i) (or_else (ocean i) (or_else (ways i) (dry i))))))

-- the made grid is lawful
pub made_lawful : (recipe : Recipe) → IsSized recipe.size → IsGrid (made_grid recipe)
unfolding made_grid
made_lawful recipe sized = record {
  air = air_is recipe.size sized;
  land = land_is recipe sized;
  ocean = ocean_is recipe sized;
  lists = refl;
  rows = rows_are recipe sized;
  outlets = outlets_lawful recipe sized;
  column = record { layers = (omega arith, omega arith); categories = (omega arith, omega arith) };
  rules = made_rules recipe sized;
}

-- WHAT THE CODE TAKES

cells_are : (size : ℕ) (other : List Tile) (rows : List XRow) → All (IsRow size other) rows → AreCells other (map other_cell rows)
cells_are size other rows are = All-map (IsCellOf other) other_cell rows (All-weaker (IsRow size other) (λ (row : XRow). IsCellOf other row.other) (λ row is. is.cell) rows are)

-- exchange cells whose areas can be summed by the cells of a mosaic
pub record CanSum (tiles : List Tile) (rows : List XRow) : Type 0 where
  pub cells : AreCells tiles (map other_cell rows)
  pub areas : All HasArea rows
  pub few : length rows ≤ MOST_EXCHANGE_CELLS

pub land_sums : (recipe : Recipe) → IsSized recipe.size → CanSum (sphere_tiles recipe.size) (land_rows recipe)
land_sums recipe sized =
    let few = rows_few recipe sized in
    record { cells = cells_are recipe.size (sphere_tiles recipe.size) (land_rows recipe) (land_rows_are recipe sized); areas = (rows_are recipe sized).land; few = omega arith }

pub ocean_sums : (recipe : Recipe) → IsSized recipe.size → CanSum (ocean_tiles recipe.size) (ocean_rows recipe)
ocean_sums recipe sized =
    let few = rows_few recipe sized in
    record { cells = cells_are recipe.size (ocean_tiles recipe.size) (ocean_rows recipe) (ocean_rows_are recipe sized); areas = (rows_are recipe sized).ocean; few = omega arith }

pub sums_same : (tiles : List Tile) (rows : List XRow) (made_tiles : List Tile) (made_rows : List XRow) → tiles ≡ made_tiles → rows ≡ made_rows → CanSum made_tiles made_rows → CanSum tiles rows
sums_same tiles rows made_tiles made_rows same_tiles same_rows can =
    subst (λ (ts : List Tile). CanSum ts rows) (sym same_tiles) (subst (CanSum made_tiles) (sym same_rows) can)

-- no fault but want of memory comes
pub no_fault : (found : Option XGridError) (error : XGridError) → found ≡ None → IsFirstFault found error → (error ≡ fault.Memory → ⊥) → ⊥
no_fault found (fault.BadIndex list n) none is other = let e = sym none ∙ is in cc
no_fault found (fault.ZeroArea list n) none is other = let e = sym none ∙ is in cc
no_fault found (fault.AirSum n sum area) none is other = let e = sym none ∙ is in cc
no_fault found (fault.LandSum n sum area) none is other = let e = sym none ∙ is in cc
no_fault found (fault.OceanSum n sum area) none is other = let e = sym none ∙ is in cc
no_fault found (fault.Outlet n) none is other = let e = sym none ∙ is in cc
no_fault found (fault.NoOutlet n) none is other = let e = sym none ∙ is in cc
no_fault found fault.Memory none is other = other refl
