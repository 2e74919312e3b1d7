use Rattle.cpl_core.specs.Run.{IsReached}
use Rattle.cpl_core_tests.specs.Tiny.{tiny}
use Rattle.cpl_core_tests.proofs.tests.a_run_goes_event_by_event.Given as goal

abbrev pub invariant-loop-event : goal.invariant-loop-event
invariant-loop-event g l = IsReached tiny l.core
