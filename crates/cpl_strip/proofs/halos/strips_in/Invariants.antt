use Rattle.std.proofs.Common.{◌≡◌}
use Rattle.cpl_strip.specs.Tables.{picks, made_at}
use Rattle.cpl_strip.specs.Taken.{strip_made}
use Rattle.cpl_strip.proofs.halos.strips_in.Given as goal

abbrev pub invariant-loop-pair : goal.invariant-loop-pair
invariant-loop-pair l = l.strips.items ≡ picks (made_at strip_made l.pieces l.table) l.pair
