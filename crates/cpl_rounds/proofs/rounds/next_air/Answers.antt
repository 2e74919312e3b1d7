use Rattle.cpl_rounds.proofs.Airs.{air_last}
use Rattle.cpl_rounds.proofs.rounds.next_air.Goals as goal

pub returns : goal.returns
returns c = air_last
