use Rattle.cpl_course.proofs.Totals.{states_up_to, ways_up_to}
use Rattle.cpl_course.proofs.laws.totals_law.Goals as goal

pub returns-clause-states : goal.returns-clause-states
returns-clause-states c = states_up_to

pub returns-clause-way : goal.returns-clause-way
returns-clause-way c = ways_up_to
