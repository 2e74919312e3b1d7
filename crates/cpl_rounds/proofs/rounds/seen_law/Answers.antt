use Rattle.cpl_rounds.proofs.Seen.{land_is_seen, ice_is_seen}
use Rattle.cpl_rounds.proofs.rounds.seen_law.Goals as goal

pub returns : goal.returns
returns c = record { land = land_is_seen; ice = ice_is_seen }
