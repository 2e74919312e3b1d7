use Rattle.cpl_course.proofs.Course.{coupling_of}
use Rattle.cpl_course.proofs.laws.coupling_law.Goals as goal

pub returns : goal.returns
returns c = coupling_of
