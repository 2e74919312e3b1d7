use Rattle.std.proofs.Common.{arith}
use Rattle.cpl_plan_tests.proofs.fast.can_step.Goals as goal

pub returns : goal.returns
returns c = let some = c.grid.ensures.lawful.names_are.fast in c.in_ok-go.ensures.surface.can_fast 0 (omega (arith, some.0))
