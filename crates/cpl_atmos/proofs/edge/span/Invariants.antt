use Rattle.cpl_atmos.specs.Sweeps.{Computes}
use Rattle.cpl_field.specs.Sweeps.{IsInSpan}
use Rattle.cpl_atmos.proofs.edge.span.Given as goal

abbrev pub invariant-loop-i : goal.invariant-loop-i
invariant-loop-i l = Computes l.areas l.x (IsInSpan l.from l.i l.j) l.fn.values l.values
