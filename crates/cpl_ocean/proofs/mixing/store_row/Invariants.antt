use Rattle.cpl_ocean.specs.Mixed.{IsMixedBefore, Mixes}
use Rattle.cpl_ocean.proofs.mixing.store_row.Given as goal

abbrev pub invariant-loop-i : goal.invariant-loop-i
invariant-loop-i l = Mixes l.area l.mix (IsMixedBefore l.l l.i l.j) l.fn.layers l.layers
