use Rattle.cpl_plan.proofs.Gathered.{gathered}
use Rattle.cpl_plan.proofs.laws.sums_law.Goals as goal

pub returns : goal.returns
returns c = λ plan n is. gathered plan is n
