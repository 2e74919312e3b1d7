use Rattle.cpl_atmos.specs.Sweeps.{Computes}
use Rattle.cpl_field.proofs.Swept.{IsRimBefore}
use Rattle.cpl_atmos.proofs.edge.sweep_edge.Given as goal

abbrev pub invariant-loop-j : goal.invariant-loop-j
invariant-loop-j l = Computes l.areas l.x (IsRimBefore 1 l.areas l.j) l.fn.values l.values
