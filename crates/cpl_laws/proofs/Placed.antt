-- Where an element lies among the elements of its cell of the air.
use Rattle.std.proofs.Common.{◌≡◌, ◌∙◌, sym, ap, ℕ, ◌+◌, ◌<◌, arith, List, length, get_or, take}
use Rattle.std.specs.Prelude.{pos, ◌+ℤ◌, ◌≤ℤ◌, All}
use Rattle.std.proofs.lemmas.Int.{ints}
use Rattle.cpl_fixed.specs.Amounts.{at}
use Rattle.cpl_fixed.proofs.ShareLaws.{total_more, total_front}
use Rattle.cpl_mosaic.specs.declared.parts.CellId.{CellId}
use Rattle.cpl_mosaic.specs.Sides.{is_same_cell}
use Rattle.cpl_xgrid.specs.declared.grid.Grid.{Grid}
use Rattle.cpl_xgrid.specs.declared.parts.XRow.{XRow}
use Rattle.cpl_xgrid.specs.declared.parts.Surface.{Surface}
use Rattle.cpl_xgrid.specs.declared.parts.Surface.TheVariants.{Land, Ocean}
use Rattle.cpl_xgrid.specs.Lists.{IsArea}
use Rattle.cpl_xgrid.specs.Rows.{air_cell, area_of}
use Rattle.cpl_xgrid.specs.Indexes.{no_row}
use Rattle.cpl_xgrid.proofs.CellNumbers.{own_cell}
use Rattle.cpl_state.specs.declared.whole.Whole.{Whole}
use Rattle.cpl_state.specs.States.{IsWhole}
use Rattle.cpl_state.specs.Elements.{air_number, element_count, areas_in, element_area, rows_before, area_before}
use Rattle.cpl_laws.specs.Once.{IsNumbered}
use Rattle.cpl_laws.proofs.Elements.{ref_in, rows_in, row_of, air_below, air_found, air_area}
use Rattle.cpl_laws.proofs.Areas.{areas_are}
use Rattle.cpl_laws.proofs.Weights.{with_own, measured_all}
use Rattle.cpl_laws.proofs.Shares.{rows_natural}

-- an exchange cell, with those before it, comes within all of its cell
own_within : (key : XRow → CellId) (rows : List XRow) (k : ℕ) → All (λ (row : XRow). IsArea row.area) rows → k < length rows
    → (area_of key (key (get_or rows k no_row)) (take k rows) +ℤ (get_or rows k no_row).area) ≤ℤ area_of key (key (get_or rows k no_row)) rows
own_within key rows k are l =
    let cell = key (get_or rows k no_row) in
    with_own (λ (row : XRow). is_same_cell (key row) cell) (λ row. row.area) rows k no_row (λ j d h. (are j d h).0) l (own_cell cell)

module _ (grid : Grid) (is : IsNumbered grid) (whole : Whole) (lawful : IsWhole grid whole) where
  row_in : (list : Surface) (m : ℕ) → m < length (rows_in grid is list) → (n : ℕ)
      → area_of air_cell (row_of grid is list m).air grid.xgrid.land_rows +ℤ area_of air_cell (row_of grid is list m).air grid.xgrid.ocean_rows ≡ at grid.air.area n
      → (rows_before grid (ref_in list m) list +ℤ (row_of grid is list m).area) ≤ℤ at grid.air.area n
  row_in Land m l n all =
      let own = own_within air_cell grid.xgrid.land_rows m is.rules.rows.land l in
      let rest = measured_all (λ (row : XRow). is_same_cell (air_cell row) (row_of grid is Land m).air) (λ row. row.area) grid.xgrid.ocean_rows (λ j d h. (is.rules.rows.ocean j d h).0) in
      omega (arith, ints, own, rest, all)
  row_in Ocean m l n all =
      let own = own_within air_cell grid.xgrid.ocean_rows m is.rules.rows.ocean l in
      omega (arith, ints, own, all)

  -- an exchange cell with those before it lies in its cell
  row_within : (list : Surface) (m : ℕ) → m < length (rows_in grid is list) → (rows_before grid (ref_in list m) list +ℤ (row_of grid is list m).area) ≤ℤ at grid.air.area (air_number grid (ref_in list m))
  row_within list m l =
      let n = air_number grid (ref_in list m) in
      let below = air_below grid is list m l in
      let found = air_found grid is list m l in
      let all : area_of air_cell (row_of grid is list m).air grid.xgrid.land_rows +ℤ area_of air_cell (row_of grid is list m).air grid.xgrid.ocean_rows ≡ at grid.air.area n =
      ap (λ (c : CellId). area_of air_cell c grid.xgrid.land_rows +ℤ area_of air_cell c grid.xgrid.ocean_rows) (sym found) ∙ air_area grid is n below in
      row_in list m l n all

  pub within_air : (list : Surface) (m k : ℕ) → m < length (rows_in grid is list) → k < element_count grid list
      → (area_before grid whole (ref_in list m) k +ℤ element_area grid whole (ref_in list m) k) ≤ℤ at grid.air.area (air_number grid (ref_in list m))
  unfolding area_before
  within_air list m k l h =
      let are = areas_are grid is whole lawful list m l in
      let areas = areas_in grid whole (ref_in list m) in
      let count = are.count in
      let more = total_more areas k (omega arith) in
      let most = total_front areas (k + 1) are.least in
      let row = row_within list m l in
      omega (arith, ints, more, most.1, row, are.total)

  pub before_natural : (list : Surface) (m k : ℕ) → m < length (rows_in grid is list) → pos 0 ≤ℤ area_before grid whole (ref_in list m) k
  unfolding area_before
  before_natural list m k l =
      let a = rows_natural grid is whole lawful list (ref_in list m) in
      let b = total_front (areas_in grid whole (ref_in list m)) k (areas_are grid is whole lawful list m l).least in
      omega (arith, ints, a, b.0)
