use Rattle.cpl_plan.proofs.Lawful.{is_plan}
use Rattle.cpl_plan.proofs.plan.Plan.new.Goals as goal

pub invariant_of-result : goal.invariant_of-result
invariant_of-result c = is_plan c.args.grid c.args.names c.args.start c.requires.grid c.requires.air c.requires.names c.requires.start c.in_ok-judge_layouts.ensures.fits c.in_ok-judge_layouts.ensures.fault c.in_ok-judge_date.ensures c.in_ok-judge_budget.ensures

pub returns-clause-lawful : goal.returns-clause-lawful
returns-clause-lawful c = is_plan c.args.grid c.args.names c.args.start c.requires.grid c.requires.air c.requires.names c.requires.start c.in_ok-judge_layouts.ensures.fits c.in_ok-judge_layouts.ensures.fault c.in_ok-judge_date.ensures c.in_ok-judge_budget.ensures
