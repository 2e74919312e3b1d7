use Rattle.cpl_laws.proofs.SlowKept.{keeps_slow}
use Rattle.cpl_laws.proofs.laws.slow_law.Goals as goal

pub returns : goal.returns
returns c = keeps_slow
