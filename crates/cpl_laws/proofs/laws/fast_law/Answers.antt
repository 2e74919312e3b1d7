use Rattle.cpl_laws.proofs.FastKept.{keeps_all}
use Rattle.cpl_laws.proofs.laws.fast_law.Goals as goal

pub returns : goal.returns
returns c = λ s is mates can. keeps_all s is can.air mates can
