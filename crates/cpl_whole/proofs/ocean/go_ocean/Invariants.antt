use Rattle.std.proofs.Common.{◌≡◌}
use Rattle.cpl_state.specs.CouplingStep.{sea_of}
use Rattle.cpl_state.specs.States.{layers}
use Rattle.cpl_sea.specs.Rooms.{IsSeaRoom, with_sea}
use Rattle.cpl_whole.specs.Seas.{flown_by}
use Rattle.cpl_whole.proofs.ocean.go_ocean.Given as goal

-- the state with the ocean after its steps so far
abbrev pub invariant-loop-done : goal.invariant-loop-done
invariant-loop-done l = record {
  value : l.whole ≡ with_sea l.fn.whole (flown_by l._done l.grid l.names (sea_of l.fn.whole) l.fn.flight.items);
  is_room : IsSeaRoom l.grid.ocean (layers l.grid) l.room;
}
