use Rattle.cpl_divided.proofs.Parts.{IsLoadedTo}
use Rattle.cpl_divided.proofs.load.load_piece.Given as goal

abbrev pub invariant-loop-j : goal.invariant-loop-j
invariant-loop-j l = IsLoadedTo l.mosaic.tiles l.xs l.piece l.j l.field
