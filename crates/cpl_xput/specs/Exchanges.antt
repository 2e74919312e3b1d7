-- What crosses between pieces.
use Rattle.std.specs.Prelude.{◌≡◌, ℕ, ◌+◌, List, ◌++◌, map, ℤ}
use Rattle.std.specs.List.{filter, sum_by}
use Rattle.cpl_mosaic.specs.declared.parts.CellId.{CellId}
use Rattle.cpl_mosaic.specs.Sides.{is_same_cell}
use Rattle.cpl_layout.specs.Layouts.{Cuts}
use Rattle.cpl_xgrid.specs.declared.grid.Grid.{Grid}
use Rattle.cpl_xgrid.specs.declared.parts.Outlet.{Outlet}
use Rattle.cpl_xgrid.specs.declared.parts.XRef.{XRef}
use Rattle.cpl_xgrid.specs.declared.parts.Surface.{Surface}
use Rattle.cpl_xgrid.specs.declared.parts.Surface.TheVariants.{Land, Ocean}
use Rattle.cpl_xgrid.specs.Rows.{air_cell, other_cell, land_cell, refs_of_air}
use Rattle.cpl_xgrid.specs.Rules.{tiles_of}
use Rattle.cpl_xgrid.specs.Indexes.{for_cells}
use Rattle.cpl_xput.specs.Places.{for_pieces}

-- For each piece of the air, the land and the ocean the places of its exchange cells, in element order. For each cell of the
-- air the number of its elements, and for each cell of the land the weights of its outlets, in the order of the file.
pub record Exchange : Type 0 where
  pub air : List (List ℕ)
  pub land : List (List ℕ)
  pub ocean : List (List ℕ)
  pub elements : List ℕ
  pub weights : List (List ℤ)

-- those of the pieces of a surface
abbrev pub surface_of : Exchange → Surface → List (List ℕ)
surface_of exchange Land = exchange.land
surface_of exchange Ocean = exchange.ocean

-- how many elements an exchange cell has: one on land, and on the ocean one for open water and one for each category of ice
abbrev pub elements_on : ℕ → Surface → ℕ
elements_on categories Land = 1
elements_on categories Ocean = categories + 1

-- how many elements exchange cells have, and how many a cell of the air
abbrev pub elements_in : ℕ → List XRef → ℕ
elements_in categories refs = sum_by (λ (ref : XRef). elements_on categories ref.list) refs

abbrev pub elements_of : Grid → CellId → ℕ
elements_of grid cell = elements_in grid.column.categories (refs_of_air grid.xgrid.land_rows grid.xgrid.ocean_rows cell)

-- the weight of an outlet, and those of the outlets of a land cell
abbrev pub weight : Outlet → ℤ
weight outlet = outlet.weight

abbrev pub weights_of : List Outlet → CellId → List ℤ
weights_of outlets cell = map weight (filter (λ outlet. is_same_cell (land_cell outlet) cell) outlets)

-- what crosses between the pieces of three layouts of a grid
abbrev pub exchange_of : Grid → Cuts → Cuts → Cuts → Exchange
exchange_of grid air land ocean = record {
  air = for_pieces air (map air_cell grid.xgrid.land_rows ++ map air_cell grid.xgrid.ocean_rows);
  land = for_pieces land (map other_cell grid.xgrid.land_rows);
  ocean = for_pieces ocean (map other_cell grid.xgrid.ocean_rows);
  elements = for_cells (tiles_of grid.air) (elements_of grid);
  weights = for_cells (tiles_of grid.land) (weights_of grid.xgrid.outlets);
}

-- layouts of the mosaics of a grid
pub record AreLayouts (grid : Grid) (air land ocean : Cuts) : Type 0 where
  pub of_air : air.tiles ≡ tiles_of grid.air
  pub of_land : land.tiles ≡ tiles_of grid.land
  pub of_ocean : ocean.tiles ≡ tiles_of grid.ocean
