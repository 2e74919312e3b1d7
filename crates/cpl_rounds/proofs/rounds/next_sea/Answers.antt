use Rattle.cpl_rounds.proofs.Seas.{sea_last, last_top, last_below, last_faces, sea_cut}
use Rattle.cpl_rounds.proofs.rounds.next_sea.Goals as goal

pub returns : goal.returns
returns c = record { next = sea_last; top = last_top; below = last_below; faces = last_faces; flight = sea_cut }
