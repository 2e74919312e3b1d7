-- The exchange cells of a parent: the air, the land or the ocean.
use Rattle.std.specs.Prelude.{ℕ, ◌+ℤ◌, List, ◌++◌, length, map, Option, ℤ}
use Rattle.cpl_mosaic.specs.declared.parts.CellId.{CellId}
use Rattle.cpl_mosaic.specs.declared.mosaic.Mesh.{Mesh}
use Rattle.cpl_xgrid.specs.declared.parts.XRow.{XRow}
use Rattle.cpl_xgrid.specs.declared.parts.XRef.{XRef}
use Rattle.cpl_xgrid.specs.declared.parts.Surface.TheVariants.{Land, Ocean}
use Rattle.cpl_xgrid.specs.declared.rules.Parent.{Parent}
use Rattle.cpl_xgrid.specs.declared.rules.Parent.TheVariants as parent
use Rattle.cpl_xgrid.specs.declared.error.XGridError.{XGridError}
use Rattle.cpl_xgrid.specs.Rows.{air_cell, other_cell, area_of, refs_of_air, refs_of_other}
use Rattle.cpl_xgrid.specs.Rules.{first_fault, sum_fault}
use Rattle.cpl_xgrid.specs.Indexes.{sum_error}

-- the cells that its exchange cells are of, one after another
abbrev pub parent_cells : Parent → List XRow → List XRow → List CellId
parent_cells parent.Air land_rows ocean_rows = map air_cell land_rows ++ map air_cell ocean_rows
parent_cells parent.Land land_rows ocean_rows = map other_cell land_rows
parent_cells parent.Ocean land_rows ocean_rows = map other_cell ocean_rows

-- how many of them are of the land list
abbrev pub lands_of : Parent → List XRow → ℕ
lands_of parent.Air land_rows = length land_rows
lands_of parent.Land land_rows = length land_rows
lands_of parent.Ocean land_rows = 0

-- the exchange cells of a cell
abbrev pub parent_refs : Parent → List XRow → List XRow → CellId → List XRef
parent_refs parent.Air land_rows ocean_rows cell = refs_of_air land_rows ocean_rows cell
parent_refs parent.Land land_rows ocean_rows cell = refs_of_other Land land_rows cell
parent_refs parent.Ocean land_rows ocean_rows cell = refs_of_other Ocean ocean_rows cell

-- the sum of their areas
abbrev pub parent_sum : Parent → List XRow → List XRow → CellId → ℤ
parent_sum parent.Air land_rows ocean_rows cell = area_of air_cell cell land_rows +ℤ area_of air_cell cell ocean_rows
parent_sum parent.Land land_rows ocean_rows cell = area_of other_cell cell land_rows
parent_sum parent.Ocean land_rows ocean_rows cell = area_of other_cell cell ocean_rows

-- the least cell whose exchange cells don't sum to its area: `air_fault`, `land_fault` or `ocean_fault`
abbrev pub parent_fault : Parent → Mesh → List XRow → List XRow → Option XGridError
parent_fault of mesh land_rows ocean_rows = first_fault (sum_fault (sum_error of) (parent_sum of land_rows ocean_rows) mesh) 0 mesh.area
