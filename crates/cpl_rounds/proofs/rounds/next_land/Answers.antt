use Rattle.cpl_rounds.proofs.Airs.{land_runoff, land_last}
use Rattle.cpl_rounds.proofs.rounds.next_land.Goals as goal

pub returns : goal.returns
returns c = record { runoff = land_runoff; next = land_last }
