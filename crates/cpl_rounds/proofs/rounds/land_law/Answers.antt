use Rattle.cpl_rounds.proofs.Airs.{land_next}
use Rattle.cpl_rounds.proofs.rounds.land_law.Goals as goal

pub returns : goal.returns
returns c = land_next
