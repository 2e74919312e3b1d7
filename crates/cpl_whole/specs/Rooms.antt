-- Room for coupling steps, and when one can be made.
use Rattle.std.specs.Prelude.{◌≡◌, ℕ, ◌*◌, List, length, ℤ, unsigned_abs}
use Rattle.cpl_namelist.specs.declared.names.Names.{Names}
use Rattle.cpl_namelist.specs.Civil.{Fits}
use Rattle.cpl_xgrid.specs.declared.grid.Grid.{Grid}
use Rattle.cpl_state.specs.declared.whole.Whole.{Whole}
use Rattle.cpl_state.specs.declared.whole.Mid.{Mid}
use Rattle.cpl_state.specs.States.{layers, ocean_cells}
use Rattle.cpl_fast.specs.Rooms.{IsFastRoom}
use Rattle.cpl_slow.specs.Rooms.{IsSlowRoom}
use Rattle.cpl_sea.specs.Rooms.{IsSeaRoom}
use Rattle.cpl_course.specs.Course.{CanRun, IsGround}
use Rattle.cpl_whole.specs.declared.room.StepRoom.{StepRoom}

abbrev pub HasLength : ℕ → List ℤ → Type 0
HasLength count xs = length xs ≡ count

-- lists for the skin and the frazil of each cell of the ocean's mosaic
pub record HasSkins (grid : Grid) (mid : Mid) : Type 0 where
  pub skin_water : HasLength (ocean_cells grid) mid.skin_water
  pub skin_heat : HasLength (ocean_cells grid) mid.skin_heat
  pub skin_salt : HasLength (ocean_cells grid) mid.skin_salt
  pub frazil_water : HasLength (ocean_cells grid) mid.frazil_water
  pub frazil_heat : HasLength (ocean_cells grid) mid.frazil_heat

-- room for the coupling steps of a grid
pub record IsStepRoom (grid : Grid) (room : StepRoom) : Type 0 where
  pub fast : IsFastRoom grid room.fast
  pub slow : IsSlowRoom grid room.slow
  pub sea : IsSeaRoom grid.ocean (layers grid) room.sea
  pub skins : HasSkins grid room.mid
  pub flight : length room.flight.items ≡ 3 * ocean_cells grid

-- A coupling step can be made from this state, and it begins in year 9999 at the latest.
pub record CanCoupleOn (grid : Grid) (names : Names) (whole : Whole) : Type 0 where
  pub ground : IsGround grid
  pub run : CanRun 1 grid names whole
  pub date : Fits names.start (unsigned_abs whole.elapsed)
