use Rattle.cpl_course.proofs.Course.{on_course}
use Rattle.cpl_course.proofs.laws.course_law.Goals as goal

pub returns : goal.returns
returns c = on_course
