use Rattle.cpl_field.proofs.Swept.{IsInsideBefore}
use Rattle.cpl_ocean.specs.Rows.{AreSouths}
use Rattle.cpl_ocean.specs.Sweeps.{Computes, left_in}
use Rattle.cpl_ocean.proofs.inner.sweep_inner.Given as goal

abbrev pub invariant-loop-j : goal.invariant-loop-j
invariant-loop-j l = record {
  souths : AreSouths l.basin l.slope l.fields l.j l.souths;
  left : Computes l.basin.area (left_in l.basin l.slope l.fields) (IsInsideBefore 2 l.basin.area l.j) l.fn.left l.left;
}
