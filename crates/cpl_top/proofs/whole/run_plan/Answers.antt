use Rattle.std.proofs.Common.{◌≡◌, subst}
use Rattle.std.specs.Prelude.{IfOk}
use Rattle.cpl_whole.specs.declared.run.Outcome.{Outcome}
use Rattle.cpl_top.specs.Runs.{run_reply}
use Rattle.cpl_top.proofs.Outcomes.{outcome_is}
use Rattle.cpl_top.proofs.whole.run_plan.Goals as goal

pub returns : goal.returns
returns c =
    let plan = c.args.plan.now in
    let outcome = c.in_ok-outcome.outcome in
    let is = outcome_is plan outcome c.in_ok-outcome.ensures.stocks c.in_ok-outcome.ensures.exchanges c.in_ok-outcome.ensures.last in
    subst (λ (outcome : Outcome). IfOk c.run_reply.result (λ reply. reply ≡ run_reply c.args.out.now plan outcome)) is c.run_reply.ensures
