use Rattle.std.proofs.Common.{length}
use Rattle.cpl_fast.specs.Flows.{flow_again}
use Rattle.cpl_fast.proofs.Written.{IsWritten}
use Rattle.cpl_fast.proofs.flows.row_flows.Given as goal

abbrev pub invariant-loop-k : goal.invariant-loop-k
invariant-loop-k l = IsWritten l.initial.flows l.flows (length l.tables.links.items) l.row l.k (flow_again l.rates l.sky l.tables l.parts l.initial.flows l.row)
