-- Where the exchange cells and outlets of a piece's cells stand in the lists that pieces hand to each other.
use Rattle.std.specs.Prelude.{◌≡◌, ℕ, ◌-◌, ◌<◌, List, [], map, length, slice_index_or}
use Rattle.cpl_mosaic.specs.Cells.{cell_of}
use Rattle.cpl_layout.specs.Own.{own_cells}
use Rattle.cpl_xgrid.specs.declared.grid.Grid.{Grid}
use Rattle.cpl_xgrid.specs.Rows.{numbers_of, air_cell, other_cell}
use Rattle.cpl_state.specs.Elements.{air_number, surface_number}
use Rattle.cpl_state.specs.Slow.{drained_cell, outlets_to}
use Rattle.cpl_wires.specs.Settings.{Setting, layout_of, base_of, component_of}
use Rattle.cpl_wires.specs.declared.parts.Purpose.{Purpose}
use Rattle.cpl_wires.specs.declared.parts.Purpose.TheVariants.{LandToAir, IceToAir, AirToLand, AirToIce, LandToIce, IceToOcean, OceanToIce}
use Rattle.cpl_wires.specs.Pairs.{carried}
use Rattle.cpl_wires.specs.Edges.{edge_at, taken_by}
use Rattle.cpl_rounds.specs.Values.{on_land, on_ocean}
use Rattle.cpl_rows.specs.declared.place.RowPlace.{RowPlace}

-- the numbers of the cells of a piece, row by row, and that of one of them
abbrev pub own_of : Setting → (piece : ℕ) → List ℕ
own_of setting piece =
    let own = component_of setting piece in own_cells (layout_of setting own) (piece - base_of setting own)

abbrev pub own_at : Setting → (piece q : ℕ) → ℕ
own_at setting piece q = slice_index_or (own_of setting piece) q 0

-- what an edge carries
abbrev pub items_on : Setting → (edge : ℕ) → List ℕ
items_on setting edge = carried setting (edge_at setting edge).purpose (edge_at setting edge).from (edge_at setting edge).to

-- what each edge of a purpose carries that a piece takes, in order
abbrev pub items_taken : Setting → (piece : ℕ) → Purpose → List (List ℕ)
items_taken setting piece purpose = map (items_on setting) (taken_by setting piece purpose)

-- the exchange cell or outlet at a place of these lists
abbrev pub item_at : (lists : List (List ℕ)) → RowPlace → ℕ
item_at lists it = slice_index_or (slice_index_or lists it.edge []) it.place 0

-- a place that these lists have
abbrev pub IsPlaceIn : (lists : List (List ℕ)) → RowPlace → Type 0
IsPlaceIn lists it = (it.edge < length lists) × (it.place < length (slice_index_or lists it.edge []))

-- a purpose whose edges carry exchange cells or outlets, and one whose edges carry cells
abbrev pub TakesRows : Purpose → Type 0
TakesRows LandToAir = Unit {0}
TakesRows IceToAir = Unit {0}
TakesRows AirToLand = Unit {0}
TakesRows AirToIce = Unit {0}
TakesRows LandToIce = Unit {0}
TakesRows purpose = ⊥

abbrev pub CarriesCells : Purpose → Type 0
CarriesCells IceToOcean = Unit {0}
CarriesCells OceanToIce = Unit {0}
CarriesCells purpose = ⊥

-- the exchange cells or outlets of a cell of the taker, in the order of the file
abbrev pub items_of_cell : Grid → Purpose → (cell : ℕ) → List ℕ
items_of_cell grid LandToAir cell = numbers_of air_cell (cell_of grid.air.mosaic.tiles cell) grid.xgrid.land_rows
items_of_cell grid IceToAir cell = numbers_of air_cell (cell_of grid.air.mosaic.tiles cell) grid.xgrid.ocean_rows
items_of_cell grid AirToLand cell = numbers_of other_cell (cell_of grid.land.mosaic.tiles cell) grid.xgrid.land_rows
items_of_cell grid AirToIce cell = numbers_of other_cell (cell_of grid.ocean.mosaic.tiles cell) grid.xgrid.ocean_rows
items_of_cell grid LandToIce cell = outlets_to grid cell
items_of_cell grid purpose cell = []

-- Of each cell of a piece, in order, where its exchange cells or outlets stand in the lists of a purpose that the piece takes, in
-- the order of the file.
pub record AreRowPlaces (setting : Setting) (piece : ℕ) (purpose : Purpose) (cells : List (List RowPlace)) : Type 0 where
  pub size : length cells ≡ length (own_of setting piece)
  pub places : (q t : ℕ) (other : RowPlace) → q < length cells → t < length (slice_index_or cells q [])
      → IsPlaceIn (items_taken setting piece purpose) (slice_index_or (slice_index_or cells q []) t other)
  pub items : (q : ℕ) → q < length cells
      → map (item_at (items_taken setting piece purpose)) (slice_index_or cells q []) ≡ items_of_cell setting.grid purpose (own_at setting piece q)

-- the cell of the giver that an exchange cell or an outlet is of; a cell is itself
abbrev pub giver_cell : Grid → Purpose → (item : ℕ) → ℕ
giver_cell grid LandToAir row = surface_number grid (on_land row)
giver_cell grid IceToAir row = surface_number grid (on_ocean row)
giver_cell grid AirToLand row = air_number grid (on_land row)
giver_cell grid AirToIce row = air_number grid (on_ocean row)
giver_cell grid LandToIce outlet = drained_cell grid outlet
giver_cell grid purpose cell = cell

-- the cells of the giver that an edge carries numbers of, in order
abbrev pub cells_on : Setting → (edge : ℕ) → List ℕ
cells_on setting edge = map (giver_cell setting.grid (edge_at setting edge).purpose) (items_on setting edge)

-- where cells stand among those of a piece
pub record AreOwnPlaces (setting : Setting) (piece : ℕ) (cells places : List ℕ) : Type 0 where
  pub size : length places ≡ length cells
  pub within : (t : ℕ) → t < length cells → slice_index_or places t 0 < length (own_of setting piece)
  pub each : (t : ℕ) → t < length cells → own_at setting piece (slice_index_or places t 0) ≡ slice_index_or cells t 0
