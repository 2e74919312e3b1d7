use Rattle.cpl_rounds.proofs.Ices.{ice_last, ice_wet, ice_back, flight_back}
use Rattle.cpl_rounds.proofs.rounds.next_ice.Goals as goal

pub returns : goal.returns
returns c = record { next = ice_last; wet = ice_wet; back = ice_back; flight = flight_back }
