use Rattle.std.proofs.Common.{◌≡◌, ◌+◌, ◌*◌}
use Rattle.cpl_fixed.specs.Amounts.{at}
use Rattle.cpl_transport.specs.Mixing.{sum_of}
use Rattle.cpl_sea.proofs.columns.column_water.Given as goal

abbrev pub invariant-loop-layer : goal.invariant-loop-layer
invariant-loop-layer l = l.sum ≡ sum_of l.layer (λ layer. at l.water (layer * l.count + l.n))
