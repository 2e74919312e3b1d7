use Rattle.cpl_agree.proofs.Steps.{agrees}
use Rattle.cpl_agree.proofs.ocean.ocean_law.Goals as goal

pub returns : goal.returns
returns c = λ mesh layers rates sea piece ocean is. agrees mesh layers rates sea piece ocean is
