use Rattle.std.specs.Prelude.{◌≡◌, ◌*◌, length}
use Rattle.cpl_state.specs.CouplingStep.{sea_of}
use Rattle.cpl_state.specs.States.{layers, ocean_cells}
use Rattle.cpl_sea.specs.Rooms.{IsSeaRoom}
use Rattle.cpl_sea.specs.Seas.{IsSea}
use Rattle.cpl_ocean_tests.proofs.sea.go.Given as goal

abbrev pub invariant-loop-n : goal.invariant-loop-n
invariant-loop-n l = record {
  room : IsSeaRoom l.grid.ocean (layers l.grid) l.room;
  sea : IsSea l.grid.ocean (layers l.grid) (sea_of l.whole);
  to_ice : length l.whole.to_ice ≡ 5 * ocean_cells l.grid;
}
