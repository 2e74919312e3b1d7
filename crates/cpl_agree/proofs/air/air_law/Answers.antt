use Rattle.cpl_agree.proofs.Airs.{agrees}
use Rattle.cpl_agree.proofs.air.air_law.Goals as goal

pub returns : goal.returns
returns c = λ mesh piece air mates numbers is. agrees mesh air mates numbers piece is
