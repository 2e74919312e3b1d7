-- Coupled grids: their text and their rules.
use Rattle.std.specs.Prelude.{◌≡◌, ℕ, List, [], ◌∷◌, ◌++◌, length, map, codes, Option, Some, None}
use Rattle.std.specs.List.{flat_map}
use Rattle.cpl_xgrid.specs.declared.parts.XRow.{XRow}
use Rattle.cpl_xgrid.specs.declared.parts.Outlet.{Outlet}
use Rattle.cpl_xgrid.specs.declared.parts.Column.{Column}
use Rattle.cpl_xgrid.specs.declared.grid.Grid.{Grid}
use Rattle.cpl_xgrid.specs.declared.error.XGridError.{XGridError}
use Rattle.cpl_xgrid.specs.Lists.{lists_of}
use Rattle.cpl_xgrid.specs.Rules.{xgrid_fault}
use Rattle.cpl_fixed.specs.declared.words.Component.TheVariants.{Land, Ocean}
use Rattle.cpl_lines.specs.Lines.{Line, row, line_text}
use Rattle.cpl_gridfile.specs.declared.next_line.GridKind.TheVariants as kind
use Rattle.cpl_gridfile.specs.declared.next_line.GridMesh.TheVariants as mesh
use Rattle.cpl_gridfile.specs.declared.next_line.GridList.{GridList}
use Rattle.cpl_gridfile.specs.declared.next_line.GridList.TheVariants as list
use Rattle.cpl_gridfile.specs.declared.fault.GridError.{GridError}
use Rattle.cpl_gridfile.specs.MeshFormat.{magnitude, mesh_lines}
use Rattle.cpl_gridfile.specs.Within.{AreWithinLimits}
use Rattle.cpl_gridfile.specs.Faults.{of_xgrid}
use Rattle.cpl_gridfile.specs.Rules.{◌then◌, mosaic_fault}
use Rattle.cpl_gridfile.specs.AirGrid.{air_fault}
use Rattle.cpl_gridfile.specs.Grids.{Kind, IsGrid}
use Rattle.cpl_gridfile.specs.GridFormat.{Parts, head_word, count_word}

abbrev pub column_line : Column → Line
column_line column = row (codes "column") (column.layers ∷ column.categories ∷ [])

-- an exchange cell: the air's cell, the other cell and their area
abbrev pub row_line : XRow → Line
row_line x =
    row (codes "x") (x.air.tile ∷ x.air.i ∷ x.air.j ∷ x.other.tile ∷ x.other.i ∷ x.other.j ∷ magnitude x.area ∷ [])

-- an outlet: the land's cell, the ocean's cell and the weight
abbrev pub outlet_line : Outlet → Line
outlet_line o =
    row (codes "o") (o.land.tile ∷ o.land.i ∷ o.land.j ∷ o.ocean.tile ∷ o.ocean.i ∷ o.ocean.j ∷ magnitude o.weight ∷ [])

-- the number of items, and the items
abbrev pub list_lines : GridList → List Line → List Line
list_lines list items = row (count_word list) (length items ∷ []) ∷ items

-- the three lists and the end
abbrev pub lists_lines : Parts → List Line
lists_lines grid =
    list_lines list.Land (map row_line grid.land_rows)
    ++ (list_lines list.Ocean (map row_line grid.ocean_rows)
    ++ (list_lines list.Outlets (map outlet_line grid.outlets) ++ row (codes "end") [] ∷ []))

-- the lines of a coupled grid
abbrev pub grid_lines : Parts → List Line
grid_lines grid =
    row (head_word kind.Coupled) []
    ∷ (mesh_lines mesh.Atmos grid.air
    ++ (mesh_lines mesh.Land grid.land ++ (mesh_lines mesh.Ocean grid.ocean ++ column_line grid.column ∷ lists_lines grid)))

-- the one spelling of a coupled grid
abbrev pub parts_text : Parts → List ℕ
parts_text grid = flat_map line_text (grid_lines grid)

-- ---- the grid of the parts that a text tells, and the parts of a grid

abbrev pub grid_of : Parts → Grid
grid_of parts = record {
  air = parts.air;
  land = parts.land;
  ocean = parts.ocean;
  xgrid = lists_of parts.air parts.land parts.ocean parts.land_rows parts.ocean_rows parts.outlets;
  column = parts.column;
}

abbrev pub parts_of_grid : Grid → Parts
parts_of_grid grid = record {
  air = grid.air;
  land = grid.land;
  ocean = grid.ocean;
  column = grid.column;
  land_rows = grid.xgrid.land_rows;
  ocean_rows = grid.xgrid.ocean_rows;
  outlets = grid.xgrid.outlets;
}

-- all numbers are within the limits, and the exchange grid is of the three meshes
pub record GridIsWithin (grid : Grid) : Type 0 where
  pub limits : AreWithinLimits (parts_of_grid grid)
  pub whole : grid_of (parts_of_grid grid) ≡ grid

-- the one spelling of a coupled grid
abbrev pub grid_text : Grid → List ℕ
grid_text grid = parts_text (parts_of_grid grid)

-- ---- rules

abbrev pub at_xgrid : Option XGridError → Option GridError
at_xgrid (Some fault) = Some (of_xgrid fault)
at_xgrid None = None

abbrev pub exchange_fault : Parts → Option GridError
exchange_fault parts = at_xgrid (xgrid_fault parts.air parts.land parts.ocean parts.land_rows parts.ocean_rows parts.outlets)

-- the first broken rule of a coupled grid: those of the air's mesh, the contacts of the land's and of the ocean's, and those of
-- the exchange grid
abbrev pub coupled_fault : Parts → Option GridError
coupled_fault parts = air_fault parts.air then mosaic_fault Land parts.land then mosaic_fault Ocean parts.ocean then exchange_fault parts

abbrev pub coupled_grids : Kind Grid
coupled_grids = record {
  kind = kind.Coupled;
  of_parts = grid_of;
  IsWithin = GridIsWithin;
  text = grid_text;
  broken_rule = λ grid. coupled_fault (parts_of_grid grid);
}

-- a coupled grid: within the limits, and no rule is broken
abbrev pub IsCoupledGrid : Grid → Type 0
IsCoupledGrid grid = IsGrid coupled_grids grid
