use Rattle.cpl_atmos.specs.Sweeps.{Computes}
use Rattle.cpl_atmos.specs.Rows.{AreSouths}
use Rattle.cpl_field.proofs.Swept.{IsInsideBefore}
use Rattle.cpl_atmos.proofs.inner.sweep_inner.Given as goal

abbrev pub invariant-loop-j : goal.invariant-loop-j
invariant-loop-j l = record {
  souths : AreSouths l.areas l.x l.j l.souths;
  values : Computes l.areas l.x (IsInsideBefore 1 l.areas l.j) l.fn.values l.values;
}
