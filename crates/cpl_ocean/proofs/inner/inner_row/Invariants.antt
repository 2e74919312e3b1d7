use Rattle.cpl_mosaic.specs.declared.parts.Side.TheVariants.{W}
use Rattle.cpl_field.specs.Sweeps.{IsInSpan}
use Rattle.cpl_ocean.specs.Rows.{IsFlow, out_in}
use Rattle.cpl_ocean.specs.Sweeps.{Computes, left_in}
use Rattle.cpl_ocean.proofs.Carried.{AreCarried}
use Rattle.cpl_ocean.proofs.inner.inner_row.Given as goal

abbrev pub invariant-loop-i : goal.invariant-loop-i
invariant-loop-i l = record {
  west : IsFlow l.west (out_in l.basin l.slope l.fields W l.i l.j);
  souths : AreCarried l.basin l.slope l.fields l.j l.i l.souths;
  left : Computes l.basin.area (left_in l.basin l.slope l.fields) (IsInSpan 2 l.i l.j) l.fn.left l.left;
}
