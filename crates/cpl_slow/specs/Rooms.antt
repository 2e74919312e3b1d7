-- Room for the slow part, and lists for the flights.
use Rattle.std.specs.Prelude.{◌≡◌, ◌*◌, length}
use Rattle.cpl_xgrid.specs.declared.grid.Grid.{Grid}
use Rattle.cpl_state.specs.declared.whole.Mid.{Mid}
use Rattle.cpl_state.specs.States.{land_cells, ocean_cells}
use Rattle.cpl_slow.specs.declared.room.SlowRoom.{SlowRoom}
use Rattle.cpl_slow.specs.Drains.{AreDrains}

-- it is of this grid
pub record IsSlowRoom (grid : Grid) (room : SlowRoom) : Type 0 where
  pub drains : AreDrains grid room.drains
  pub runoffs : length room.runoffs.items ≡ land_cells grid
  pub arrived : length room.arrived.items ≡ ocean_cells grid

-- the flights of a state have a grid's lengths, and so have the lists for skin and frazil
pub record CanTake (grid : Grid) (mid : Mid) : Type 0 where
  pub to_ice : length mid.whole.to_ice ≡ 5 * ocean_cells grid
  pub to_ocean : length mid.whole.to_ocean ≡ 3 * ocean_cells grid
  pub skin_water : length mid.skin_water ≡ ocean_cells grid
  pub skin_heat : length mid.skin_heat ≡ ocean_cells grid
  pub skin_salt : length mid.skin_salt ≡ ocean_cells grid
  pub frazil_water : length mid.frazil_water ≡ ocean_cells grid
  pub frazil_heat : length mid.frazil_heat ≡ ocean_cells grid
