use Rattle.std.proofs.Common.{arith}
use Rattle.cpl_ocean.proofs.Carried.{souths_all, souths_more}
use Rattle.cpl_ocean.proofs.inner.south_flows.Goals as goal

pub loop-i-preserved : goal.loop-i-preserved
loop-i-preserved c =
    souths_more c.args.basin.now c.args.slope c.args.fields.now c.args.j c.loop-i.i c.loop-i.souths c.loop-i.invariant (omega arith) c.flow_out.result (record { is = c.flow_out.ensures.value; small = c.flow_out.ensures.small })

pub returns : goal.returns
returns c = souths_all c.args.basin.now c.args.slope c.args.fields.now c.args.j c.loop-i.i c.loop-i.souths (omega arith) c.loop-i.invariant
