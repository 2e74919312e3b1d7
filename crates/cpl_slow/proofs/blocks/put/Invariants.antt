use Rattle.cpl_slow.specs.Blocks.{IsPut}
use Rattle.cpl_slow.proofs.blocks.put.Given as goal

abbrev pub invariant-loop-k : goal.invariant-loop-k
invariant-loop-k l = IsPut l.start l.k l.block l.initial.xs l.xs
