use Rattle.std.proofs.Common.{subst}
use Rattle.cpl_top.specs.Causes.{Answers}
use Rattle.cpl_top.specs.Summary.{made_plan}
use Rattle.cpl_top.proofs.Made.{plan_read}
use Rattle.cpl_top.proofs.summary.made_plan.Goals as goal

pub returns : goal.returns
returns c =
    let is = c.in_ok-grid.ensures in
    let read = plan_read (made_plan c.args.recipe c.args.steps) _ _ _ is.grid_read is.names_read is.start_read is.lawful in
    subst (Answers (λ plan. plan) c.plan_of.result) read c.plan_of.ensures
