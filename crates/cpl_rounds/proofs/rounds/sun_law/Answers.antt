use Rattle.cpl_rounds.proofs.Airs.{sun_is}
use Rattle.cpl_rounds.proofs.rounds.sun_law.Goals as goal

pub returns : goal.returns
returns c = sun_is
