use Rattle.std.proofs.Common.{length}
use Rattle.cpl_xput.proofs.Added.{AreAdded}
use Rattle.cpl_xput.proofs.sums.add_values.Given as goal

abbrev pub invariant-loop-k : goal.invariant-loop-k
invariant-loop-k l = AreAdded (length l.fn.to) l.k l.places l.values l.to
