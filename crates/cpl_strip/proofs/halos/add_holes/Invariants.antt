use Rattle.cpl_layout.specs.Pieces.{pieces_of}
use Rattle.cpl_strip.specs.Tables.{IsFilled}
use Rattle.cpl_strip.specs.Taken.{hole_takes, holes_in}
use Rattle.cpl_strip.proofs.halos.add_holes.Given as goal

abbrev pub invariant-loop-m : goal.invariant-loop-m
invariant-loop-m l = IsFilled (hole_takes l.mosaic l.layout) (holes_in l.layout l.width) (pieces_of l.layout) l.to l.m l.table
