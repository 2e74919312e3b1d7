use Rattle.cpl_plan.proofs.Held.{held_is, held_small, with_ocean, with_to_ice, with_to_ocean}
use Rattle.cpl_plan.proofs.budget.held.Goals as goal

pub overflow_add-result-3 : goal.overflow_add-result-3
overflow_add-result-3 c = (with_ocean c.args.stocks.now c.requires).fits

pub overflow_add-result-4 : goal.overflow_add-result-4
overflow_add-result-4 c = (with_to_ice c.args.stocks.now c.requires).fits

pub overflow_add-result-5 : goal.overflow_add-result-5
overflow_add-result-5 c = (with_to_ocean c.args.stocks.now c.requires).fits

pub returns-clause-value : goal.returns-clause-value
returns-clause-value c = held_is c.args.stocks.now c.requires

pub returns-clause-small : goal.returns-clause-small
returns-clause-small c = held_small c.args.stocks.now c.requires
