use Rattle.cpl_rounds.proofs.Ices.{ice_flight, ice_fast}
use Rattle.cpl_rounds.proofs.rounds.ice_law.Goals as goal

pub returns : goal.returns
returns c = record { flight = ice_flight; fast = ice_fast }
