use Rattle.cpl_plan_tests.proofs.Months.{month_same, word_fits}
use Rattle.cpl_plan_tests.proofs.fast.start_month.Goals as goal

pub month_of-requires-clause-fits : goal.month_of-requires-clause-fits
month_of-requires-clause-fits c = word_fits c.args.plan.now c.names.ensures.lawful c.names.result.now c.start.result.now c.names.ensures.names c.start.ensures.start

pub returns : goal.returns
returns c = month_same c.args.plan.now c.names.ensures.lawful c.names.result.now c.start.result.now c.names.ensures.names c.start.ensures.start c.month_of.result c.month_of.ensures
