use Rattle.std.proofs.Common.{◌∙◌, ap}
use Rattle.cpl_wires.specs.Tables.{face_strips_by_pieces}
use Rattle.cpl_wires.proofs.halos.Seams.new.Goals as goal

pub invariant_of-result : goal.invariant_of-result
invariant_of-result c = record { pieces = c.requires.pieces; numbers_are = c.in_ok-numbers.ensures ∙ ap face_strips_by_pieces c.deref.ensures.value }
