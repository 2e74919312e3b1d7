use Rattle.cpl_field.specs.Sweeps.{IsInSpan}
use Rattle.cpl_ocean.specs.Sweeps.{Computes, left_in}
use Rattle.cpl_ocean.proofs.sweep.span.Given as goal

abbrev pub invariant-loop-i : goal.invariant-loop-i
invariant-loop-i l = Computes l.basin.area (left_in l.basin l.slope l.fields) (IsInSpan l.from l.i l.j) l.fn.left l.left
