use Rattle.cpl_rounds.proofs.Seas.{sea_flight, sea_top, sea_below, sea_faces, sea_next, sea_cell, sea_face}
use Rattle.cpl_rounds.proofs.rounds.sea_law.Goals as goal

pub returns : goal.returns
returns c = record {
  flight = sea_flight;
  top = sea_top;
  below = sea_below;
  faces = sea_faces;
  step = sea_next;
  cell = sea_cell;
  face = sea_face;
}
