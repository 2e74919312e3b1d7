use Rattle.cpl_ocean.specs.Mixed.{IsMixedBelow, Mixes}
use Rattle.cpl_ocean.proofs.mixing.store_layer.Given as goal

abbrev pub invariant-loop-j : goal.invariant-loop-j
invariant-loop-j l = Mixes l.area l.mix (IsMixedBelow l.l l.j) l.fn.layers l.layers
