use Rattle.cpl_course.proofs.Course.{goes_on}
use Rattle.cpl_course.proofs.laws.restart_law.Goals as goal

pub returns : goal.returns
returns c = goes_on
