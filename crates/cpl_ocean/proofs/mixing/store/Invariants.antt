use Rattle.cpl_ocean.specs.Mixed.{IsMixedAbove, Mixes}
use Rattle.cpl_ocean.proofs.mixing.store.Given as goal

abbrev pub invariant-loop-l : goal.invariant-loop-l
invariant-loop-l l = Mixes l.area l.mix (IsMixedAbove l.l) l.fn.layers l.layers
