use Rattle.std.proofs.Common.{arith}
use Rattle.cpl_field.specs.Spots.{number_at}
use Rattle.cpl_ocean.specs.Layers.{IsLayerOf}
use Rattle.cpl_ocean.specs.Numbers.{DrivesLayer}
use Rattle.cpl_ocean.proofs.Each.{each_here, each_more}
use Rattle.cpl_ocean.proofs.sweeps.drive_layers.Goals as goal

pub drive-requires-clause-layer : goal.drive-requires-clause-layer
drive-requires-clause-layer c =
    let basin = c.args.basin.now in
    let more = c.loop-l-test.true in
    let count = c.loop-l.invariant.count in
    each_here (DrivesLayer basin.area (number_at basin.heights) c.args.slope) c.loop-l.l c.args.layers.now c.loop-l.layers c.loop-l.invariant (omega arith) (IsLayerOf basin.area) c.index-layers-l.result (c.requires.layers c.loop-l.l (omega arith))

pub loop-l-preserved : goal.loop-l-preserved
loop-l-preserved c =
    let basin = c.args.basin.now in
    let more = c.loop-l-test.true in
    let count = c.loop-l.invariant.count in
    each_more (DrivesLayer basin.area (number_at basin.heights) c.args.slope) c.loop-l.l c.args.layers.now c.loop-l.layers c.loop-l.invariant (omega arith) c.index-layers-l.result c.drive.new.self c.drive.ensures
