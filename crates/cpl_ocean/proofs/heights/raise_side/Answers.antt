use Rattle.std.proofs.Common.{◌∙◌, refl, arith}
use Rattle.cpl_field.specs.Spots.{HoleAt}
use Rattle.cpl_transport.proofs.Bounds.{read}
use Rattle.cpl_ocean.specs.Columns.{height_at}
use Rattle.cpl_ocean.proofs.Raised.{filled_hole, own_height}
use Rattle.cpl_ocean.proofs.heights.raise_side.Goals as goal

pub height_of_hole-requires-clause-column : goal.height_of_hole-requires-clause-column
height_of_hole-requires-clause-column c =
    let width = c.requires.width in
    let count = c.requires.count in
    let more = c.loop-at-test.true in
    c.requires.holes (HoleAt c.args.side c.loop-at.at 1) (omega arith, omega arith, omega arith) (c.args.side, c.loop-at.at, refl)

pub loop-at-preserved : goal.loop-at-preserved
loop-at-preserved c =
    filled_hole c.args.area.now (height_at c.args.area.now c.args.layers.now) c.args.side 1 c.loop-at.at c.args.heights.now c.loop-at.heights c.set_halo.new.self c.requires.shape c.loop-at.invariant (read c.height_of_hole.result) c.set_halo.ensures
    (own_height c.height_of_hole.result c.height_of_hole.ensures.range ∙ c.height_of_hole.ensures.value)
