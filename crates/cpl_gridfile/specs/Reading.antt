-- Reading grids: what bytes spell, or their first fault.
use Rattle.std.specs.Prelude.{ℕ, List, Result}
use Rattle.cpl_mosaic.specs.declared.mosaic.Mesh.{Mesh}
use Rattle.cpl_gridfile.specs.declared.fault.GridError.{GridError}
use Rattle.cpl_gridfile.specs.Grids.{grid_in}
use Rattle.cpl_gridfile.specs.AirGrid.{air_grids}
use Rattle.cpl_gridfile.specs.CoupledGrid.{coupled_grids}
use Rattle.cpl_xgrid.specs.declared.grid.Grid.{Grid}

-- the air grid that bytes spell, or their first fault
unfoldable pub air_grid_of : List ℕ → Result Mesh GridError
air_grid_of bytes = grid_in air_grids bytes

-- the coupled grid that bytes spell, or their first fault
unfoldable pub coupled_grid_of : List ℕ → Result Grid GridError
coupled_grid_of bytes = grid_in coupled_grids bytes
