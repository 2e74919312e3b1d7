-- Coupled grids.
use Rattle.std.specs.Prelude.{◌≡◌, None}
use Rattle.cpl_xgrid.specs.declared.grid.Grid.{Grid}
use Rattle.cpl_xgrid.specs.Lists.{lists_of, IsMesh, AreRows, AreOutlets, IsColumn}
use Rattle.cpl_xgrid.specs.Rules.{xgrid_fault}

-- A coupled grid: its exchange grid is of its meshes, all is within the limits, and no rule is broken.
pub record IsGrid (grid : Grid) : Type 0 where
  pub air : IsMesh grid.air
  pub land : IsMesh grid.land
  pub ocean : IsMesh grid.ocean
  pub lists : grid.xgrid ≡ lists_of grid.air grid.land grid.ocean grid.xgrid.land_rows grid.xgrid.ocean_rows grid.xgrid.outlets
  pub rows : AreRows grid.xgrid.land_rows grid.xgrid.ocean_rows
  pub outlets : AreOutlets grid.xgrid.outlets
  pub column : IsColumn grid.column
  pub rules : xgrid_fault grid.air grid.land grid.ocean grid.xgrid.land_rows grid.xgrid.ocean_rows grid.xgrid.outlets ≡ None
