use Rattle.std.proofs.Common.{◌≡◌}
use Rattle.cpl_strip.specs.Tables.{picks, made_at}
use Rattle.cpl_strip.specs.Taken.{face_strip_made}
use Rattle.cpl_strip.proofs.faces.strips_in.Given as goal

abbrev pub invariant-loop-pair : goal.invariant-loop-pair
invariant-loop-pair l = l.strips.items ≡ picks (made_at face_strip_made l.pieces l.table) l.pair
