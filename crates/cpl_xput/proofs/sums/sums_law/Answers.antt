use Rattle.cpl_xput.proofs.Fitting.{sums_fit}
use Rattle.cpl_xput.proofs.sums.sums_law.Goals as goal

pub returns : goal.returns
returns c = sums_fit
