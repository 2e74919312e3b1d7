use Rattle.std.proofs.Common.{length}
use Rattle.cpl_gridfile.specs.Readers.{parts_of}
use Rattle.cpl_gridfile.proofs.Turns.{Far}
use Rattle.cpl_gridfile.proofs.read.lines.Given as goal

abbrev pub invariant-loop-reader : goal.invariant-loop-reader
invariant-loop-reader l = Far l.fn.kind l.reader.kind l.bytes l.reader.next (parts_of l.reader) l.number l.rest

abbrev pub decreases-loop-reader : goal.decreases-loop-reader
decreases-loop-reader l = length l.rest
