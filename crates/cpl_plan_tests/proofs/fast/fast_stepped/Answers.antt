use Rattle.std.proofs.Common.{sym, subst}
use Rattle.cpl_state.specs.declared.whole.Mid.{Mid}
use Rattle.cpl_state.specs.CouplingStep.{before, month_of}
use Rattle.cpl_state.specs.FastLaws.{CanStep}
use Rattle.cpl_plan_tests.proofs.fast.fast_stepped.Goals as goal

pub step_fast-requires : goal.step_fast-requires
step_fast-requires c =
    let plan = c.args.plan.now in
    subst (λ (m : Mid). CanStep (before plan.grid plan.names (month_of plan.names plan.start) m)) (sym c.in_ok-mid.ensures) c.in_ok-can_step.ensures
