use Rattle.cpl_field.proofs.Swept.{IsRimBefore}
use Rattle.cpl_ocean.specs.Sweeps.{Computes, left_in}
use Rattle.cpl_ocean.proofs.sweep.sweep_rim.Given as goal

abbrev pub invariant-loop-j : goal.invariant-loop-j
invariant-loop-j l = Computes l.basin.area (left_in l.basin l.slope l.fields) (IsRimBefore 2 l.basin.area l.j) l.fn.left l.left
