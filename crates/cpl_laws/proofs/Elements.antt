-- What is true of each element: where it lies, and that the areas of the elements of a cell are the cell's.
use Rattle.std.proofs.Common.{◌≡◌, ◌∙◌, refl, sym, ap, subst, Bool, true, false, cond, ℕ, ◌+◌, ◌<◌, arith, inl, inr, List, ◌++◌, map, length, get_or, Some, None}
use Rattle.std.specs.Prelude.{ℤ, pos, ◌≢◌, ◌+ℤ◌, ◌≤ℤ◌, All}
use Rattle.std.specs.List.{range_with_len}
use Rattle.std.specs.Ordering.{int_eq}
use Rattle.std.proofs.lemmas.Int.{ints}
use Rattle.std.proofs.lemmas.Bool.{cases_lt}
use Rattle.std.proofs.lemmas.Bool.Decides.{Decides-int_eq}
use Rattle.std.proofs.lemmas.List.{get_or_past, map-append}
use Rattle.std.proofs.lemmas.List.Elements.{All-map, All-get_or, All-append}
use Rattle.cpl_fixed.specs.Amounts.{at}
use Rattle.cpl_fixed.specs.Totals.{total_of}
use Rattle.cpl_fixed.specs.declared.limits.TheConstants.{MOST_AREA}
use Rattle.cpl_mosaic.specs.declared.parts.Tile.{Tile}
use Rattle.cpl_mosaic.specs.declared.parts.CellId.{CellId}
use Rattle.cpl_mosaic.specs.declared.mosaic.Mesh.{Mesh}
use Rattle.cpl_mosaic.specs.Sides.{IsCellOf, is_same_cell}
use Rattle.cpl_mosaic.specs.Contacts.{cells_of}
use Rattle.cpl_mosaic.specs.Cells.{number_of, cell_of, NumbersAgree}
use Rattle.cpl_xgrid.specs.declared.grid.Grid.{Grid}
use Rattle.cpl_xgrid.specs.declared.parts.XRow.{XRow}
use Rattle.cpl_xgrid.specs.declared.parts.XRef.{XRef}
use Rattle.cpl_xgrid.specs.declared.parts.Surface.{Surface}
use Rattle.cpl_xgrid.specs.declared.parts.Surface.TheVariants.{Land, Ocean}
use Rattle.cpl_xgrid.specs.declared.error.XGridError.{XGridError}
use Rattle.cpl_xgrid.specs.declared.error.XGridError.TheVariants.{AirSum, LandSum, OceanSum}
use Rattle.cpl_xgrid.specs.Lists.{IsArea, IsMesh}
use Rattle.cpl_xgrid.specs.Rows.{air_cell, other_cell, numbers_of, refs_to, rows_of, area_of}
use Rattle.cpl_xgrid.specs.Rules.{first_fault, sum_fault}
use Rattle.cpl_xgrid.specs.Indexes.{no_row, ref_area}
use Rattle.cpl_xgrid.proofs.CellNumbers.{same_cell, own_cell}
use Rattle.cpl_xgrid.proofs.Faults.{none_faulty}
use Rattle.cpl_xgrid.proofs.Sums.{list_sum}
use Rattle.cpl_state.specs.States.{air_cells}
use Rattle.cpl_state.specs.Elements.{row_at, tiles_of, air_number, surface_number, refs_of_air_cell, refs_between, refs_of_surface_cell}
use Rattle.cpl_diffusion.proofs.Sums.{sum_to, total_of-sum_to}
use Rattle.cpl_laws.specs.Once.{IsNumbered}
use Rattle.cpl_laws.specs.Cells.{mesh_of}
use Rattle.cpl_laws.proofs.Sums.{total_range, total_append}
use Rattle.cpl_laws.proofs.Once.{refs_total}
use Rattle.cpl_laws.proofs.Groups.{each_number, one_of_group}
use Rattle.cpl_laws.proofs.Rows.{IsRow, rows_are, air_sums, land_sums, ocean_sums}

-- an exchange cell of a list
abbrev pub ref_in : Surface → ℕ → XRef
ref_in list m = record { list = list; row = m }

-- a sum that is found to be the area is the area
sum_is : (error : ℕ → ℤ → ℤ → XGridError) (n : ℕ) (sum area : ℤ) (same : Bool) → int_eq sum area ≡ same → cond same None (Some (error n sum area)) ≡ None → sum ≡ area
sum_is error n sum area true e none = (Decides-int_eq sum area).0 e
sum_is error n sum area false e none = absurd (cc)

sums_are : (error : ℕ → ℤ → ℤ → XGridError) (sum : CellId → ℤ) (mesh : Mesh) → first_fault (sum_fault error sum mesh) 0 mesh.area ≡ None → (n : ℕ) → n < length mesh.area
    → sum (cell_of mesh.mosaic.tiles n) ≡ at mesh.area n
sums_are error sum mesh none n l =
    let here = none_faulty (sum_fault error sum mesh) 0 mesh.area none n (pos 0) l in
    let e : 0 + n ≡ n = omega arith in
    let judged : sum_fault error sum mesh n (at mesh.area n) ≡ None = subst (λ (k : ℕ). sum_fault error sum mesh k (at mesh.area n) ≡ None) e here in
    sum_is error n (sum (cell_of mesh.mosaic.tiles n)) (at mesh.area n) (int_eq (sum (cell_of mesh.mosaic.tiles n)) (at mesh.area n)) refl judged

-- numbers of which none is negative, read at any place
pub at_natural : (xs : List ℤ) → All (λ x. pos 0 ≤ℤ x) xs → (n : ℕ) → pos 0 ≤ℤ at xs n
at_natural xs all n = elim (cases_lt n (length xs)) [
  | inl l ↦ All-get_or (λ x. pos 0 ≤ℤ x) xs n (pos 0) l all
  | inr past ↦ subst (λ (x : ℤ). pos 0 ≤ℤ x) (sym (get_or_past xs n (pos 0) past)) (omega (arith, ints))
]

-- the sum of the numbers of a list, read at its places
pub sum_at : (xs : List ℤ) (n : ℕ) → length xs ≡ n → total_of (map (at xs) (range_with_len 0 n)) ≡ total_of xs
sum_at xs n e = total_range (at xs) n ∙ ap (sum_to (at xs)) (sym e) ∙ sym (total_of-sum_to xs)

module _ (grid : Grid) (is : IsNumbered grid) where
  -- ROWS

  surface_mesh : (list : Surface) → IsMesh (mesh_of grid list)
  surface_mesh Land = is.rules.land
  surface_mesh Ocean = is.rules.ocean

  pub surface_numbers : (list : Surface) → NumbersAgree (tiles_of grid list)
  surface_numbers Land = is.land
  surface_numbers Ocean = is.ocean

  abbrev pub rows_in : Surface → List XRow
  rows_in list = rows_of grid.xgrid list

  abbrev pub row_of : Surface → ℕ → XRow
  row_of list m = get_or (rows_of grid.xgrid list) m no_row

  pub row_is : (list : Surface) (m : ℕ) → m < length (rows_in list) → IsRow grid.air.mosaic.tiles (tiles_of grid list) (row_of list m)
  row_is list m l = rows_are grid is.rules list m no_row l

  areas_are : (list : Surface) → All (λ (row : XRow). IsArea row.area) (rows_in list)
  areas_are Land = is.rules.rows.land
  areas_are Ocean = is.rules.rows.ocean

  pub row_area : (list : Surface) (m : ℕ) → m < length (rows_in list) → (pos 1 ≤ℤ (row_of list m).area) × ((row_of list m).area ≤ℤ pos MOST_AREA)
  row_area list m l =
      let range = areas_are list m no_row l in
      let some = (row_is list m l).some in
      let not_none : (row_of list m).area ≢ pos 0 = λ e. absurd (let t = (Decides-int_eq (row_of list m).area (pos 0)).1 e in cc) in
      (omega (arith, ints, range.0, not_none), range.1)

  -- WHERE AN EXCHANGE CELL LIES

  pub air_below : (list : Surface) (m : ℕ) → m < length (rows_in list) → air_number grid (ref_in list m) < air_cells grid
  unfolding air_number
  air_below list m l = is.air.below (row_of list m).air (row_is list m l).air

  pub air_found : (list : Surface) (m : ℕ) → m < length (rows_in list) → cell_of grid.air.mosaic.tiles (air_number grid (ref_in list m)) ≡ (row_of list m).air
  unfolding air_number
  air_found list m l = is.air.cell_number (row_of list m).air (row_is list m l).air

  pub surface_below : (list : Surface) (m : ℕ) → m < length (rows_in list) → surface_number grid (ref_in list m) < cells_of (tiles_of grid list)
  unfolding surface_number
  surface_below list m l = (surface_numbers list).below (row_of list m).other (row_is list m l).other

  pub surface_found : (list : Surface) (m : ℕ) → m < length (rows_in list) → cell_of (tiles_of grid list) (surface_number grid (ref_in list m)) ≡ (row_of list m).other
  unfolding surface_number
  surface_found list m l = (surface_numbers list).cell_number (row_of list m).other (row_is list m l).other

  -- what holds of each exchange cell of a cell
  pub each_of_surface : (P : XRef → Type 0) (list : Surface) (n : ℕ) → n < cells_of (tiles_of grid list)
      → ((m : ℕ) → m < length (rows_in list) → surface_number grid (ref_in list m) ≡ n → P (ref_in list m))
      → All P (refs_of_surface_cell grid list n)
  unfolding refs_of_surface_cell surface_number
  each_of_surface P list n within h =
      All-map P (ref_in list) (numbers_of other_cell (cell_of (tiles_of grid list) n) (rows_in list))
      (each_number (λ m. P (ref_in list m)) (λ row. is_same_cell (other_cell row) (cell_of (tiles_of grid list) n)) no_row 0 (rows_in list) (λ m l e.
      let same : (row_of list m).other ≡ cell_of (tiles_of grid list) n = same_cell _ _ e in
      let here : m ≡ 0 + m = omega arith in
      subst (λ (k : ℕ). P (ref_in list k)) here
      (h m l (ap (number_of (tiles_of grid list)) same ∙ (surface_numbers list).number_cell n within))))

  pub each_between : (P : XRef → Type 0) (list : Surface) (n : ℕ) → n < air_cells grid
      → ((m : ℕ) → m < length (rows_in list) → air_number grid (ref_in list m) ≡ n → P (ref_in list m))
      → All P (refs_between grid list n)
  unfolding refs_between air_number
  each_between P list n within h =
      All-map P (ref_in list) (numbers_of air_cell (cell_of grid.air.mosaic.tiles n) (rows_in list))
      (each_number (λ m. P (ref_in list m)) (λ row. is_same_cell (air_cell row) (cell_of grid.air.mosaic.tiles n)) no_row 0 (rows_in list) (λ m l e.
      let same : (row_of list m).air ≡ cell_of grid.air.mosaic.tiles n = same_cell _ _ e in
      let here : m ≡ 0 + m = omega arith in
      subst (λ (k : ℕ). P (ref_in list k)) here
      (h m l (ap (number_of grid.air.mosaic.tiles) same ∙ is.air.number_cell n within))))

  -- the exchange cells of a cell of the air are those of the land list and those of the ocean list
  pub both_lists : (n : ℕ) → refs_of_air_cell grid n ≡ refs_between grid Land n ++ refs_between grid Ocean n
  unfolding refs_of_air_cell refs_between
  both_lists n = refl

  pub each_of_air : (P : XRef → Type 0) (n : ℕ) → n < air_cells grid
      → ((list : Surface) (m : ℕ) → m < length (rows_in list) → air_number grid (ref_in list m) ≡ n → P (ref_in list m))
      → All P (refs_of_air_cell grid n)
  each_of_air P n within h =
      subst (All P) (sym (both_lists n)) (All-append P (refs_between grid Land n) (refs_between grid Ocean n) (each_between P Land n within (h Land)) (each_between P Ocean n within (h Ocean)))

  -- one exchange cell has no more than all of its cell, where none has less than nothing
  one_of_cell : (key : XRow → CellId) (tiles : List Tile) (f : XRef → ℤ) (list : Surface) (m : ℕ) → m < length (rows_in list)
      → NumbersAgree tiles → IsCellOf tiles (key (row_of list m)) → ((k : ℕ) → k < length (rows_in list) → pos 0 ≤ℤ f (ref_in list k))
      → f (ref_in list m) ≤ℤ total_of (map f (refs_to list (numbers_of key (cell_of tiles (number_of tiles (key (row_of list m)))) (rows_in list))))
  one_of_cell key tiles f list m l agree cell least =
      let here = cell_of tiles (number_of tiles (key (row_of list m))) in
      let passes = λ (row : XRow). is_same_cell (key row) here in
      let own : is_same_cell (key (row_of list m)) here ≡ true = ap (is_same_cell (key (row_of list m))) (agree.cell_number (key (row_of list m)) cell) ∙ own_cell (key (row_of list m)) in
      let most = one_of_group (λ k. f (ref_in list k)) passes no_row 0 (rows_in list) (λ k h e. let z : k ≡ 0 + k = omega arith in subst (λ (j : ℕ). pos 0 ≤ℤ f (ref_in list j)) z (least k h)) m l own in
      let sum = refs_total f list (numbers_of key here (rows_in list)) in
      let first : f (ref_in list (0 + m)) ≡ f (ref_in list m) = ap (λ (j : ℕ). f (ref_in list j)) (let z : 0 + m ≡ m = omega arith in z) in
      omega (arith, ints, most, sum, first)

  pub one_of_surface : (f : XRef → ℤ) (list : Surface) (m : ℕ) → m < length (rows_in list)
      → ((k : ℕ) → k < length (rows_in list) → pos 0 ≤ℤ f (ref_in list k))
      → f (ref_in list m) ≤ℤ total_of (map f (refs_of_surface_cell grid list (surface_number grid (ref_in list m))))
  unfolding refs_of_surface_cell surface_number
  one_of_surface f list m l least = one_of_cell other_cell (tiles_of grid list) f list m l (surface_numbers list) (row_is list m l).other least

  pub one_between : (f : XRef → ℤ) (list : Surface) (m : ℕ) → m < length (rows_in list)
      → ((k : ℕ) → k < length (rows_in list) → pos 0 ≤ℤ f (ref_in list k))
      → f (ref_in list m) ≤ℤ total_of (map f (refs_between grid list (air_number grid (ref_in list m))))
  unfolding refs_between air_number
  one_between f list m l least = one_of_cell air_cell grid.air.mosaic.tiles f list m l is.air (row_is list m l).air least

  -- all exchange cells of a cell of the air
  pub air_total : (f : XRef → ℤ) (n : ℕ) → total_of (map f (refs_of_air_cell grid n)) ≡ total_of (map f (refs_between grid Land n)) +ℤ total_of (map f (refs_between grid Ocean n))
  air_total f n =
      ap (λ (refs : List XRef). total_of (map f refs)) (both_lists n)
      ∙ ap total_of (map-append f (refs_between grid Land n) (refs_between grid Ocean n))
      ∙ total_append (map f (refs_between grid Land n)) (map f (refs_between grid Ocean n))

  -- THE AREAS OF CELLS

  pub air_area : (n : ℕ) → n < air_cells grid → area_of air_cell (cell_of grid.air.mosaic.tiles n) grid.xgrid.land_rows +ℤ area_of air_cell (cell_of grid.air.mosaic.tiles n) grid.xgrid.ocean_rows ≡ at grid.air.area n
  air_area n l = sums_are AirSum (λ cell. area_of air_cell cell grid.xgrid.land_rows +ℤ area_of air_cell cell grid.xgrid.ocean_rows) grid.air (air_sums grid is.rules) n (omega (arith, is.rules.air.count))

  pub surface_area : (list : Surface) (n : ℕ) → n < cells_of (tiles_of grid list) → area_of other_cell (cell_of (tiles_of grid list) n) (rows_in list) ≡ at (mesh_of grid list).area n
  surface_area Land n l = sums_are LandSum (λ cell. area_of other_cell cell grid.xgrid.land_rows) grid.land (land_sums grid is.rules) n (omega (arith, is.rules.land.count))
  surface_area Ocean n l = sums_are OceanSum (λ cell. area_of other_cell cell grid.xgrid.ocean_rows) grid.ocean (ocean_sums grid is.rules) n (omega (arith, is.rules.ocean.count))

  -- the area of an exchange cell
  abbrev pub area_in : XRef → ℤ
  area_in ref = (row_at grid ref).area

  in_list : (list : Surface) (key : XRow → CellId) (cell : CellId) → total_of (map area_in (refs_to list (numbers_of key cell (rows_in list)))) ≡ area_of key cell (rows_in list)
  in_list Land key cell = refs_total area_in Land (numbers_of key cell grid.xgrid.land_rows) ∙ sym (refs_total (ref_area grid.xgrid.land_rows grid.xgrid.ocean_rows) Land (numbers_of key cell grid.xgrid.land_rows)) ∙ list_sum grid.xgrid.land_rows grid.xgrid.ocean_rows Land key cell
  in_list Ocean key cell = refs_total area_in Ocean (numbers_of key cell grid.xgrid.ocean_rows) ∙ sym (refs_total (ref_area grid.xgrid.land_rows grid.xgrid.ocean_rows) Ocean (numbers_of key cell grid.xgrid.ocean_rows)) ∙ list_sum grid.xgrid.land_rows grid.xgrid.ocean_rows Ocean key cell

  pub on_surface : (list : Surface) (n : ℕ) → n < cells_of (tiles_of grid list) → total_of (map area_in (refs_of_surface_cell grid list n)) ≡ at (mesh_of grid list).area n
  unfolding refs_of_surface_cell
  on_surface list n l = in_list list other_cell (cell_of (tiles_of grid list) n) ∙ surface_area list n l

  pub in_air : (n : ℕ) → n < air_cells grid → total_of (map area_in (refs_of_air_cell grid n)) ≡ at grid.air.area n
  unfolding refs_between
  in_air n l =
      air_total area_in n
      ∙ (λ i. in_list Land air_cell (cell_of grid.air.mosaic.tiles n) i +ℤ in_list Ocean air_cell (cell_of grid.air.mosaic.tiles n) i)
      ∙ air_area n l

  area_natural : (list : Surface) (m : ℕ) → m < length (rows_in list) → pos 0 ≤ℤ area_in (ref_in list m)
  area_natural list m l = let some = row_area list m l in omega (arith, ints, some.0)

  -- an exchange cell is no larger than its cells
  pub row_on_surface : (list : Surface) (m : ℕ) → m < length (rows_in list) → (row_of list m).area ≤ℤ at (mesh_of grid list).area (surface_number grid (ref_in list m))
  row_on_surface list m l =
      let n = surface_number grid (ref_in list m) in
      let most = one_of_surface area_in list m l (area_natural list) in
      let sum = on_surface list n (surface_below list m l) in
      omega (arith, ints, most, sum)
