use Rattle.std.proofs.Common.{◌≡◌, take}
use Rattle.cpl_fixed.specs.Totals.{total_of}
use Rattle.cpl_fixed.proofs.sharing.total.Given as goal

abbrev pub invariant-loop-weight : goal.invariant-loop-weight
invariant-loop-weight l = l.sum ≡ total_of (take l.weight-index l.weights)
