use Rattle.std.proofs.Common.{arith, pos}
use Rattle.cpl_field.proofs.Swept.{rim_rows, rim_all}
use Rattle.cpl_atmos.specs.Sweeps.{next_at}
use Rattle.cpl_atmos.proofs.Divisors.{kept_by}
use Rattle.cpl_atmos.proofs.edge.sweep_edge.Goals as goal

pub loop-j-preserved : goal.loop-j-preserved
loop-j-preserved c = rim_rows (pos 0) c.args.areas.now (next_at c.args.areas.now c.args.x.now) 1 c.loop-j.j c.args.values.now c.loop-j.values c.edge_row.new.values c.loop-j.invariant c.edge_row.ensures

pub returns : goal.returns
returns c =
    let has = kept_by _ _ _ c.args.areas.now _ _ c.areas.invariant c.areas.view_is in
    rim_all (pos 0) c.args.areas.now (next_at c.args.areas.now c.args.x.now) 1 c.loop-j.j c.args.values.now c.loop-j.values (omega arith) c.loop-j.invariant
