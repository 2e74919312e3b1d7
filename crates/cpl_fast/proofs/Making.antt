-- What the tables hold is what the definitions have: the areas of elements and of parts, and the skies.
use Rattle.std.proofs.Common.{◌≡◌, ◌∙◌, sym, ap, subst, ℕ, ◌+◌, ◌-◌, ◌*◌, ◌<◌, ◌≤◌, arith, List, length, take, drop}
use Rattle.std.specs.Prelude.{ℤ, pos, ◌≤ℤ◌, All, slice_range}
use Rattle.std.proofs.lemmas.Int.{ints}
use Rattle.std.proofs.lemmas.Nat.{mul-le}
use Rattle.std.proofs.Math.Nat.{mul_comm}
use Rattle.std.proofs.lemmas.List.{ext_get_or, get_or-take, get_or-drop, length-take-le, length-drop}
use Rattle.std.proofs.lemmas.List.FromFn.{get_or-map-range_with_len, length-map-range_with_len}
use Rattle.cpl_fixed.specs.Amounts.{at}
use Rattle.cpl_fixed.specs.Shares.{CanShare, share}
use Rattle.cpl_fixed.specs.Totals.{total_of}
use Rattle.cpl_fixed.specs.declared.limits.TheConstants.{MOST_AREA, PARTS}
use Rattle.cpl_fixed.proofs.ShareLaws.{shares_agree}
use Rattle.cpl_mosaic.specs.Contacts.{cells_of}
use Rattle.cpl_xgrid.specs.declared.grid.Grid.{Grid}
use Rattle.cpl_xgrid.specs.Lists.{XGridLists}
use Rattle.cpl_xgrid.specs.declared.parts.XRef.{XRef}
use Rattle.cpl_xgrid.specs.declared.parts.XRow.{XRow}
use Rattle.cpl_xgrid.specs.declared.parts.Surface.{Surface}
use Rattle.cpl_xgrid.specs.declared.parts.Surface.TheVariants.{Land, Ocean}
use Rattle.cpl_xgrid.specs.Rows.{refs_of_other, rows_of}
use Rattle.cpl_mosaic.specs.Cells.{cell_of}
use Rattle.cpl_state.specs.declared.whole.Whole.{Whole}
use Rattle.cpl_state.specs.States.{air_cells, all_of_cell, of_cell, ocean_cells, part_count, IsWhole}
use Rattle.cpl_state.specs.Elements.{tiles_of, surface_number, element_count, element_area, areas_in, part_area, refs_of_surface_cell}
use Rattle.cpl_state.specs.FastStep.{Before}
use Rattle.cpl_laws.specs.Once.{IsNumbered}
use Rattle.cpl_laws.specs.Cells.{mesh_of}
use Rattle.cpl_laws.proofs.Groups.{total_same}
use Rattle.cpl_laws.proofs.Elements.{ref_in, row_area, surface_below, each_of_surface}
use Rattle.cpl_laws.proofs.Areas.{parts_natural, part_most, wet}
use Rattle.cpl_fast.specs.declared.flows.Link.{Link}
use Rattle.cpl_fast.specs.declared.flows.Sky.{Sky}
use Rattle.cpl_fast.specs.Flows.{link_at, sky_at}
use Rattle.cpl_fast.specs.Places.{place_in}
use Rattle.cpl_fast.specs.Sums.{reaches}
use Rattle.cpl_fast.specs.Tables.{AreLinks, CanSumAreas, area_over, cells_on, parts_of, row_in, sky_by}
use Rattle.cpl_fast.specs.Filled.{AreElementAreas, AreSkies}

-- so many numbers of a list stand together
pub block_long : (first width : ℕ) (xs : List ℤ) → first + width ≤ length xs → length (slice_range xs first (first + width)) ≡ width
block_long first width xs within =
    let long = length-drop first xs in
    let size : first + width - first ≡ width = omega arith in
    ap (λ (k : ℕ). length (take k (drop first xs))) size ∙ length-take-le width (drop first xs) (omega (arith, long))

-- the numbers of a cell stand together in the list
pub block_is : (width n : ℕ) (xs : List ℤ) → n * width + width ≤ length xs → slice_range xs (n * width) (n * width + width) ≡ all_of_cell width n xs
block_is width n xs within =
    let size : n * width + width - n * width ≡ width = omega arith in
    let taken : slice_range xs (n * width) (n * width + width) ≡ take width (drop (n * width) xs) = ap (λ (k : ℕ). take k (drop (n * width) xs)) size in
    let count = ap length (sym taken) ∙ block_long (n * width) width xs within in
    taken ∙ ext_get_or (pos 0) (take width (drop (n * width) xs)) (all_of_cell width n xs)
    (count ∙ sym (length-map-range_with_len (λ k. of_cell width n k xs) 0 width))
    (λ i l. (let below : i < width = omega (arith, count) in
    get_or-take width (drop (n * width) xs) i (pos 0) below
    ∙ get_or-drop (n * width) xs i (pos 0)
    ∙ sym (get_or-map-range_with_len (λ k. of_cell width n k xs) 0 width i i (pos 0) below (omega arith))))

-- whole blocks before the end of as many
pub all_below : (m rows width : ℕ) → m < rows → m * width + width ≤ rows * width
all_below m rows width l = let e = mul-le (m + 1) width rows width (omega arith) (omega arith) in omega (arith, e)

-- what is read of an exchange grid can be summed as the grid's own can
pub can_sum_read : (refs own_refs : List XRef) (rows own_rows : List XRow) (areas : List ℤ) (width : ℕ) → refs ≡ own_refs → rows ≡ own_rows → CanSumAreas own_refs areas (length own_rows) width → CanSumAreas refs areas (length rows) width
can_sum_read refs own_refs rows own_rows areas width refs_are rows_are can =
    subst (λ (r : List XRow). CanSumAreas refs areas (length r) width) (sym rows_are) (subst (λ (r : List XRef). CanSumAreas r areas (length own_rows) width) (sym refs_are) can)

module _ (grid : Grid) (is : IsNumbered grid) (whole : Whole) (lawful : IsWhole grid whole) where
  -- AREAS OF ELEMENTS

  pub land_areas_are : (areas : List ℤ) → length areas ≡ length grid.xgrid.land_rows
      → ((m : ℕ) → m < length grid.xgrid.land_rows → at areas m ≡ (row_in grid.xgrid.land_rows m).area) → AreElementAreas grid whole Land areas
  unfolding areas_in
  land_areas_are areas count value = record {
    count = omega (arith, count);
    each = λ m k l h. (
        let first : k ≡ 0 = omega (arith, h) in
        let place : place_in (length grid.xgrid.land_rows) m k ≡ m = ap (place_in (length grid.xgrid.land_rows) m) first ∙ omega arith in
        ap (at areas) place ∙ value m l ∙ sym (ap (element_area grid whole (record { list = Land; row = m })) first));
  }

  module _ (links : List Link) (are : AreLinks grid Ocean links) where
    -- the parts of the cell of a row stand in the list
    pub cell_within : (m : ℕ) → m < length grid.xgrid.ocean_rows → (link_at links m).surface * part_count grid + part_count grid ≤ length whole.parts
    cell_within m l =
        let below = surface_below grid is Ocean m l in
        let link = (are.each m l).surface in
        let n = surface_number grid (ref_in Ocean m) in
        let long = lawful.lengths.parts in
        let most : n * part_count grid + part_count grid ≤ ocean_cells grid * part_count grid = all_below n (ocean_cells grid) (part_count grid) below in
        let same = ap (λ (s : ℕ). s * part_count grid) link in
        let turn = mul_comm (part_count grid) (ocean_cells grid) in
        omega (arith, long, most, same, turn)

    pub parts_are : (m : ℕ) → m < length grid.xgrid.ocean_rows → parts_of links whole.parts (part_count grid) m ≡ all_of_cell (part_count grid) (surface_number grid (ref_in Ocean m)) whole.parts
    parts_are m l = block_is (part_count grid) (link_at links m).surface whole.parts (cell_within m l) ∙ ap (λ (n : ℕ). all_of_cell (part_count grid) n whole.parts) (are.each m l).surface

    pub parts_whole : (m : ℕ) → m < length grid.xgrid.ocean_rows → total_of (parts_of links whole.parts (part_count grid) m) ≡ PARTS
    parts_whole m l = ap total_of (parts_are m l) ∙ lawful.parts (surface_number grid (ref_in Ocean m)) (wet grid is whole lawful m l)

    pub ocean_areas_are : (areas : List ℤ) → length areas ≡ length grid.xgrid.ocean_rows * part_count grid
        → ((m k : ℕ) → m < length grid.xgrid.ocean_rows → k < part_count grid → at areas (place_in (length grid.xgrid.ocean_rows) m k)
        ≡ share (row_in grid.xgrid.ocean_rows m).area (total_of (take k (parts_of links whole.parts (part_count grid) m))) (total_of (take (k + 1) (parts_of links whole.parts (part_count grid) m))) PARTS)
        → AreElementAreas grid whole Ocean areas
    unfolding areas_in
    ocean_areas_are areas count value = record {
      count = count;
      each = λ m k l h. (
          let parts = all_of_cell (part_count grid) (surface_number grid (ref_in Ocean m)) whole.parts in
          let area = (row_in grid.xgrid.ocean_rows m).area in
          let some = row_area grid is Ocean m l in
          let all = lawful.parts (surface_number grid (ref_in Ocean m)) (wet grid is whole lawful m l) in
          let can : CanShare area parts = record { amount_least = omega (arith, ints, some.0); each = parts_natural grid is whole lawful (surface_number grid (ref_in Ocean m)); some = omega (arith, ints, all) } in
          let long = length-map-range_with_len (λ k. of_cell (part_count grid) (surface_number grid (ref_in Ocean m)) k whole.parts) 0 (part_count grid) in
          let own = (shares_agree area parts can).each k (omega (arith, h, long)) in
          value m k l h
          ∙ ap (λ (xs : List ℤ). share area (total_of (take k xs)) (total_of (take (k + 1) xs)) PARTS) (parts_are m l)
          ∙ ap (λ (w : ℤ). share area (total_of (take k parts)) (total_of (take (k + 1) parts)) w) (sym all)
          ∙ sym own);
    }

  -- AREAS OF PARTS

  cells_by : (list : Surface) (n : ℕ) → cells_on grid.xgrid list n ≡ refs_of_surface_cell grid list n
  unfolding refs_of_surface_cell
  cells_by Land n = ap (λ (xgrid : XGridLists). refs_of_other Land grid.xgrid.land_rows (cell_of xgrid.land n)) is.rules.lists
  cells_by Ocean n = ap (λ (xgrid : XGridLists). refs_of_other Ocean grid.xgrid.ocean_rows (cell_of xgrid.ocean n)) is.rules.lists

  pub mesh_most : (list : Surface) (n : ℕ) → n < cells_of (tiles_of grid list) → at (mesh_of grid list).area n ≤ℤ pos MOST_AREA
  mesh_most Land n l = (is.rules.land.each n (pos 0) (let e = is.rules.land.count in omega arith)).1
  mesh_most Ocean n l = (is.rules.ocean.each n (pos 0) (let e = is.rules.ocean.count in omega arith)).1

  module _ (list : Surface) (areas : List ℤ) (are : AreElementAreas grid whole list areas) (n : ℕ) (below : n < cells_of (tiles_of grid list)) where
    refs_reach : All (reaches (length (rows_of grid.xgrid list))) (refs_of_surface_cell grid list n)
    refs_reach = each_of_surface grid is (reaches (length (rows_of grid.xgrid list))) list n below (λ m l e. l)

    part_area_is : (k : ℕ) → k < element_count grid list → area_over (refs_of_surface_cell grid list n) areas (length (rows_of grid.xgrid list)) k ≡ part_area grid whole list n k
    unfolding area_over part_area
    part_area_is k h =
        let rows = length (rows_of grid.xgrid list) in
        total_same (λ (ref : XRef). at areas (place_in rows ref.row k)) (λ (ref : XRef). element_area grid whole ref k) (refs_of_surface_cell grid list n)
        (each_of_surface grid is (λ ref. at areas (place_in rows ref.row k) ≡ element_area grid whole ref k) list n below (λ m l e. are.each m k l h))

    -- as the exchange grid keeps them
    cells_are : cells_on grid.xgrid list n ≡ refs_of_surface_cell grid list n
    cells_are = cells_by list n

    pub can_sum : CanSumAreas (cells_on grid.xgrid list n) areas (length (rows_of grid.xgrid list)) (element_count grid list)
    can_sum = subst (λ (refs : List XRef). CanSumAreas refs areas (length (rows_of grid.xgrid list)) (element_count grid list)) (sym cells_are) (record {
      reach = refs_reach;
      long = are.count;
      most = λ k h. (
          let own = part_area_is k h in
          let most = part_most grid is whole lawful list n k below h in
          let all = mesh_most list n below in
          omega (arith, ints, own, most, all));
    })

    pub sum_is : (k : ℕ) → k < element_count grid list → area_over (cells_on grid.xgrid list n) areas (length (rows_of grid.xgrid list)) k ≡ part_area grid whole list n k
    sum_is k h = ap (λ (refs : List XRef). area_over refs areas (length (rows_of grid.xgrid list)) k) cells_are ∙ part_area_is k h

-- SKIES

module _ (s : Before) where
  pub skies_are : (skies : List Sky) → length skies ≡ air_cells s.grid
      → ((n : ℕ) → n < air_cells s.grid → sky_at skies n ≡ sky_by s.rates s.mid.whole.air_heat s.mid.whole.air_vapour s.grid.air.area n)
      → AreSkies s skies
  skies_are skies count value = record { count = count; each = value }
