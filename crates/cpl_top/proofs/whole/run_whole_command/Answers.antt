use Rattle.std.proofs.Common.{ap, sym, Ok}
use Rattle.std.proofs.lemmas.Result.{err_from_is_err_and}
use Rattle.cpl_top.specs.Whole.{outcome_of, whole_answer}
use Rattle.cpl_top.specs.declared.output.Reply.{Reply}
use Rattle.cpl_top.proofs.Judging.{goes_on, refuses_on}
use Rattle.cpl_top.proofs.Outcomes.{reply_apart}
use Rattle.cpl_top.proofs.whole.run_whole_command.Goals as goal

pub returns-in_err-plan-clause-answer : goal.returns-in_err-plan-clause-answer
unfolding whole_answer
returns-in_err-plan-clause-answer c =
    let p = err_from_is_err_and c.from_residual.result c.from_residual.ensures.1 in
    rw (p.1, p.2) (refuses_on c.in_err-plan.field-0.0 _ _ c.in_err-plan.ensures)

pub returns-in_err-run_last-clause-answer : goal.returns-in_err-run_last-clause-answer
returns-in_err-run_last-clause-answer c =
    let p = err_from_is_err_and c.from_residual-in_err-run_last.result c.from_residual-in_err-run_last.ensures.1 in rw (p.1, p.2) tt

pub returns-clause-answer : goal.returns-clause-answer
unfolding whole_answer
returns-clause-answer c = goes_on _ _ c.in_ok-plan.plan _ c.in_ok-plan.ensures (ap (λ (reply : Reply). Ok reply) (sym c.in_ok-run_last.ensures))

pub returns-clause-apart : goal.returns-clause-apart
returns-clause-apart c =
    let plan = c.in_ok-plan.plan in reply_apart c.args.out.now plan (outcome_of plan) c.in_ok-run_last.field-0 c.in_ok-run_last.ensures
