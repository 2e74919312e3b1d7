use Rattle.std.proofs.Common.{◌≡◌}
use Rattle.cpl_state.specs.CouplingStep.{before, fast_by}
use Rattle.cpl_fast.specs.Rooms.{IsDivided}
use Rattle.cpl_whole.specs.Tallies.{fast_sums}
use Rattle.cpl_whole.proofs.surface.go_fast.Given as goal

-- the state after the fast steps so far, and what they moved
abbrev pub invariant-loop-done : goal.invariant-loop-done
invariant-loop-done l = record {
  value : l.mid ≡ fast_by l._done l.grid l.names l.month l.initial.mid;
  tally : l.sum ≡ fast_sums l._done l.grid l.names l.month l.initial.mid;
  divided : IsDivided (before l.grid l.names l.month l.mid) l.room;
}
