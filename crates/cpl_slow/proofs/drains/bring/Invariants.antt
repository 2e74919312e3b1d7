use Rattle.std.proofs.Common.{length}
use Rattle.cpl_slow.specs.Drains.{IsGained}
use Rattle.cpl_slow.proofs.drains.bring.Given as goal

abbrev pub invariant-loop-drain : goal.invariant-loop-drain
invariant-loop-drain l = IsGained l.each l.weights l.runoffs l.drain-index (length l.initial.arrived) l.arrived
