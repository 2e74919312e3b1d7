-- What the rules of an exchange grid say of each exchange cell.
use Rattle.std.proofs.Common.{◌≡◌, refl, Bool, true, false, not, ◌&&◌, cond, ℕ, ◌+◌, List, map, get_or, Some, None}
use Rattle.std.specs.Prelude.{pos, All}
use Rattle.std.specs.Ordering.{int_eq}
use Rattle.std.proofs.lemmas.Bool.{and_parts}
use Rattle.std.proofs.lemmas.List.Elements.{All-map}
use Rattle.cpl_mosaic.specs.declared.parts.Tile.{Tile}
use Rattle.cpl_mosaic.specs.Sides.{IsCellOf}
use Rattle.cpl_xgrid.specs.declared.grid.Grid.{Grid}
use Rattle.cpl_xgrid.specs.declared.parts.XRow.{XRow}
use Rattle.cpl_xgrid.specs.declared.parts.Surface.{Surface}
use Rattle.cpl_xgrid.specs.declared.parts.Surface.TheVariants.{Land, Ocean}
use Rattle.cpl_xgrid.specs.declared.error.XGridError.TheVariants.{BadIndex, ZeroArea}
use Rattle.cpl_xgrid.specs.Grids.{IsGrid}
use Rattle.cpl_xgrid.specs.Rows.{is_cell, air_cell, other_cell, rows_of}
use Rattle.cpl_xgrid.specs.Rules.{row_fault, first_fault, or_else, air_fault, land_fault, ocean_fault, outlet_fault, no_outlet_fault}
use Rattle.cpl_xgrid.specs.Indexes.{AreCells}
use Rattle.cpl_state.specs.Elements.{tiles_of}
use Rattle.cpl_xgrid.proofs.CellNumbers.{cell_is}
use Rattle.cpl_xgrid.proofs.Faults.{first_none, rest_none, none_faulty}

-- an exchange cell of which nothing is wrong: its cells are cells, and its area isn't 0
pub record IsRow (air_tiles tiles : List Tile) (row : XRow) : Type 0 where
  pub air : IsCellOf air_tiles row.air
  pub other : IsCellOf tiles row.other
  pub some : int_eq row.area (pos 0) ≡ false

-- the tests of a row
row_tests : (list : Surface) (n : ℕ) (inside bare : Bool) → cond (not inside) (Some (BadIndex list n)) (cond bare (Some (ZeroArea list n)) None) ≡ None → (inside ≡ true) × (bare ≡ false)
row_tests list n true false e = (refl, refl)
row_tests list n true true e = absurd (cc)
row_tests list n false bare e = absurd (cc)

row_is : (list : Surface) (air other : List Tile) (n : ℕ) (row : XRow) → row_fault list air other n row ≡ None → IsRow air other row
row_is list air other n row none =
    let tests = row_tests list n (is_cell air row.air && is_cell other row.other) (int_eq row.area (pos 0)) none in
    let cells = and_parts _ _ tests.0 in
    record { air = cell_is air row.air cells.0; other = cell_is other row.other cells.1; some = tests.1 }

-- the rules one by one
module _ (grid : Grid) (is : IsGrid grid) where
  after_land : or_else (first_fault (row_fault Ocean grid.air.mosaic.tiles grid.ocean.mosaic.tiles) 0 grid.xgrid.ocean_rows)
      (or_else (air_fault grid.air grid.xgrid.land_rows grid.xgrid.ocean_rows)
      (or_else (land_fault grid.land grid.xgrid.land_rows)
      (or_else (ocean_fault grid.ocean grid.xgrid.ocean_rows)
      (or_else (first_fault (outlet_fault grid.land grid.ocean) 0 grid.xgrid.outlets)
      (first_fault (no_outlet_fault grid.land grid.xgrid.outlets) 0 grid.land.area))))) ≡ None
  after_land = rest_none _ _ is.rules

  rows_none : (list : Surface) → first_fault (row_fault list grid.air.mosaic.tiles (tiles_of grid list)) 0 (rows_of grid.xgrid list) ≡ None
  rows_none Land = first_none _ _ is.rules
  rows_none Ocean = first_none _ _ after_land

  after_air : or_else (land_fault grid.land grid.xgrid.land_rows)
      (or_else (ocean_fault grid.ocean grid.xgrid.ocean_rows)
      (or_else (first_fault (outlet_fault grid.land grid.ocean) 0 grid.xgrid.outlets)
      (first_fault (no_outlet_fault grid.land grid.xgrid.outlets) 0 grid.land.area))) ≡ None
  after_air = rest_none (air_fault grid.air grid.xgrid.land_rows grid.xgrid.ocean_rows) _ (rest_none _ _ after_land)

  after_sums : or_else (first_fault (outlet_fault grid.land grid.ocean) 0 grid.xgrid.outlets)
      (first_fault (no_outlet_fault grid.land grid.xgrid.outlets) 0 grid.land.area) ≡ None
  after_sums = rest_none (ocean_fault grid.ocean grid.xgrid.ocean_rows) _ (rest_none (land_fault grid.land grid.xgrid.land_rows) _ after_air)

  pub air_sums : air_fault grid.air grid.xgrid.land_rows grid.xgrid.ocean_rows ≡ None
  air_sums = first_none _ _ (rest_none _ _ after_land)

  pub land_sums : land_fault grid.land grid.xgrid.land_rows ≡ None
  land_sums = first_none _ _ after_air

  pub ocean_sums : ocean_fault grid.ocean grid.xgrid.ocean_rows ≡ None
  ocean_sums = first_none _ _ (rest_none (land_fault grid.land grid.xgrid.land_rows) _ after_air)

  pub outlets_none : first_fault (outlet_fault grid.land grid.ocean) 0 grid.xgrid.outlets ≡ None
  outlets_none = first_none _ _ after_sums

  pub no_dry_land : first_fault (no_outlet_fault grid.land grid.xgrid.outlets) 0 grid.land.area ≡ None
  no_dry_land = rest_none _ _ after_sums

  pub rows_are : (list : Surface) → All (IsRow grid.air.mosaic.tiles (tiles_of grid list)) (rows_of grid.xgrid list)
  rows_are list = λ k d h. row_is list grid.air.mosaic.tiles (tiles_of grid list) (0 + k) (get_or (rows_of grid.xgrid list) k d) (none_faulty (row_fault list grid.air.mosaic.tiles (tiles_of grid list)) 0 (rows_of grid.xgrid list) (rows_none list) k d h)

  pub air_cells_are : (list : Surface) → AreCells grid.air.mosaic.tiles (map air_cell (rows_of grid.xgrid list))
  air_cells_are list = All-map (IsCellOf grid.air.mosaic.tiles) air_cell (rows_of grid.xgrid list) (λ k d h. (rows_are list k d h).air)

  pub other_cells_are : (list : Surface) → AreCells (tiles_of grid list) (map other_cell (rows_of grid.xgrid list))
  other_cells_are list = All-map (IsCellOf (tiles_of grid list)) other_cell (rows_of grid.xgrid list) (λ k d h. (rows_are list k d h).other)
