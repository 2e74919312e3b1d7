use Rattle.cpl_laws.proofs.Once.{counted_once}
use Rattle.cpl_laws.proofs.laws.once_law.Goals as goal

pub returns : goal.returns
returns c = counted_once
