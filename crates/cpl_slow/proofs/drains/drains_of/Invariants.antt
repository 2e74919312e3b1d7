use Rattle.cpl_slow.specs.Drains.{AreDrainsTo}
use Rattle.cpl_slow.proofs.drains.drains_of.Given as goal

abbrev pub invariant-loop-outlet : goal.invariant-loop-outlet
invariant-loop-outlet l = AreDrainsTo l.grid l.outlet-index l.each.items l.weights.items
