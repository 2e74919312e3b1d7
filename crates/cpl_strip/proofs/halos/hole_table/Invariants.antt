use Rattle.cpl_layout.specs.Pieces.{pieces_of}
use Rattle.cpl_strip.specs.Tables.{IsFilled}
use Rattle.cpl_strip.specs.Taken.{hole_takes, holes_in}
use Rattle.cpl_strip.proofs.halos.hole_table.Given as goal

abbrev pub invariant-loop-to : goal.invariant-loop-to
invariant-loop-to l = IsFilled (hole_takes l.mosaic l.layout) (holes_in l.layout l.width) (pieces_of l.layout) l.to 0 l.table
