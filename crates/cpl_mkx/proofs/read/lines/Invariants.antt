use Rattle.std.proofs.Common.{length}
use Rattle.cpl_mkx.specs.Readers.{pair_of}
use Rattle.cpl_mkx.proofs.Turns.{Far}
use Rattle.cpl_mkx.proofs.read.lines.Given as goal

abbrev pub invariant-turns : goal.invariant-turns
invariant-turns l = Far l.bytes l.reader.next (pair_of l.reader) l.number l.rest

abbrev pub decreases-turns : goal.decreases-turns
decreases-turns l = length l.rest
