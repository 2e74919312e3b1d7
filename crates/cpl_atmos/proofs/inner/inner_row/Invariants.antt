use Rattle.cpl_mosaic.specs.declared.parts.Side.TheVariants.{W}
use Rattle.cpl_atmos.specs.Sweeps.{Computes, flow_out}
use Rattle.cpl_atmos.specs.Rows.{IsLoss}
use Rattle.cpl_field.specs.Sweeps.{IsInSpan}
use Rattle.cpl_atmos.proofs.Carried.{AreCarried}
use Rattle.cpl_atmos.proofs.inner.inner_row.Given as goal

abbrev pub invariant-loop-i : goal.invariant-loop-i
invariant-loop-i l = record {
  west : IsLoss l.west (flow_out l.areas l.x l.i l.j W);
  souths : AreCarried l.areas l.x l.j l.i l.souths;
  values : Computes l.areas l.x (IsInSpan 1 l.i l.j) l.fn.values l.values;
}
