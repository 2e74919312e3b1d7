use Rattle.cpl_fixed.specs.Shares.{shares_of}
use Rattle.cpl_xput.proofs.Shared.{AreWritten}
use Rattle.cpl_xput.proofs.shares.share_out.Given as goal

abbrev pub invariant-loop-k : goal.invariant-loop-k
invariant-loop-k l = AreWritten (shares_of l.amount l.weights) l.k l.to l.rest
