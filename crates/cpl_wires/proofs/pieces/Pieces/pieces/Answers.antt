use Rattle.std.proofs.Common.{◌∙◌, ap}
use Rattle.cpl_layout.specs.Pieces.{pieces_of}
use Rattle.cpl_wires.specs.Settings.{pieces_in}
use Rattle.cpl_wires.proofs.pieces.Pieces.pieces.Goals as goal

pub returns-clause-count : goal.returns-clause-count
unfolding pieces_in
returns-clause-count c = c.pieces.ensures.count ∙ ap pieces_of c.layout.ensures.layout
