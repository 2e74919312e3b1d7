use Rattle.std.proofs.Common.{arith}
use Rattle.cpl_ocean.specs.Sweeps.{CanSweep, SweepsLayer}
use Rattle.cpl_ocean.specs.Zones.{IsIn}
use Rattle.cpl_ocean.proofs.Each.{each_here, each_more}
use Rattle.cpl_ocean.proofs.sweeps.transport.Goals as goal

pub transport-requires : goal.transport-requires
transport-requires c =
    let basin = c.args.basin.now in
    let more = c.loop-l-test.true in
    let count = c.loop-l.invariant.count in
    each_here (SweepsLayer basin c.args.slope (IsIn c.args.zone basin.area)) c.loop-l.l c.args.layers.now c.loop-l.layers c.loop-l.invariant (omega arith) (CanSweep basin c.args.slope) c.index-layers-l.result (c.requires c.loop-l.l (omega arith))

pub loop-l-preserved : goal.loop-l-preserved
loop-l-preserved c =
    let basin = c.args.basin.now in
    let more = c.loop-l-test.true in
    let count = c.loop-l.invariant.count in
    each_more (SweepsLayer basin c.args.slope (IsIn c.args.zone basin.area)) c.loop-l.l c.args.layers.now c.loop-l.layers c.loop-l.invariant (omega arith) c.index-layers-l.result c.transport.new.self c.transport.ensures
