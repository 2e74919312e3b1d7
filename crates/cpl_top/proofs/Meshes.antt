-- What a grid and a start that were read are to the run.
use Rattle.std.proofs.Common.{◌≡◌, ℕ, List, length, Ok}
use Rattle.std.specs.Prelude.{ℤ, pos, ◌≤ℤ◌, All}
use Rattle.cpl_fixed.specs.Totals.{total_of}
use Rattle.cpl_fixed.specs.declared.limits.TheConstants.{MOST_TOTAL}
use Rattle.cpl_mosaic.specs.declared.mosaic.Mesh.{Mesh}
use Rattle.cpl_xgrid.specs.declared.grid.Grid.{Grid}
use Rattle.cpl_xgrid.specs.Grids.{IsGrid}
use Rattle.cpl_gridfile.specs.AirGrid.{IsAirGrid}
use Rattle.cpl_gridfile.specs.CoupledGrid.{IsCoupledGrid}
use Rattle.cpl_gridfile.proofs.WholeGrids.{air_has_areas, whole_grid}
use Rattle.cpl_state.specs.Stored.{IsStored}
use Rattle.cpl_state.specs.Diffusion.{IsAirMesh, IsAirArea, AreAmounts}

-- an air grid that was read is a mesh for the run
pub air_mesh : (mesh : Mesh) → IsAirGrid mesh → All IsAirArea mesh.area → IsAirMesh mesh
air_mesh mesh grid areas = record { areas = grid.limits.count; each = areas }

-- a coupled grid that was read is a grid for the run, and so is the mesh of its air
pub coupled_is : (grid : Grid) → IsCoupledGrid grid → IsGrid grid
coupled_is grid is = whole_grid (Ok grid) is

pub coupled_air : (grid : Grid) → IsCoupledGrid grid → IsAirMesh grid.air
coupled_air grid is = record { areas = is.limits.limits.air.count; each = air_has_areas grid is }

-- amounts that were read, within the budget, are amounts for the run
pub amounts : (cells : ℕ) (xs : List ℤ) → length xs ≡ cells → All IsStored xs → total_of xs ≤ℤ pos MOST_TOTAL → AreAmounts cells xs
amounts cells xs count each total = record { count = count; each = λ i d lt. (each i d lt).0; total = total }
