use Rattle.std.proofs.Common.{length}
use Rattle.cpl_fast.specs.Flows.{no_flow}
use Rattle.cpl_fast.proofs.Written.{IsWritten}
use Rattle.cpl_fast.proofs.suns.row_still.Given as goal

abbrev pub invariant-loop-k : goal.invariant-loop-k
invariant-loop-k l = IsWritten l.initial.flows l.flows (length l.tables.links.items) l.row l.k (λ j. no_flow)
