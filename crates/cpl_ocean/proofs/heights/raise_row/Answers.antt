use Rattle.std.proofs.Common.{◌∙◌, refl, arith}
use Rattle.cpl_field.specs.Spots.{CellAt}
use Rattle.cpl_transport.proofs.Bounds.{read}
use Rattle.cpl_ocean.specs.Columns.{height_at}
use Rattle.cpl_ocean.proofs.Raised.{filled_cell, own_height}
use Rattle.cpl_ocean.proofs.heights.raise_row.Goals as goal

pub height_of_cell-requires-clause-column : goal.height_of_cell-requires-clause-column
height_of_cell-requires-clause-column c = c.requires.cells (CellAt c.loop-i.i c.args.j) (omega arith, omega arith) (c.loop-i.i, c.args.j, refl)

pub loop-i-preserved : goal.loop-i-preserved
loop-i-preserved c =
    filled_cell c.args.area.now (height_at c.args.area.now c.args.layers.now) c.loop-i.i c.args.j c.args.heights.now c.loop-i.heights c.set.new.self c.requires.shape c.loop-i.invariant (read c.height_of_cell.result) c.set.ensures
    (own_height c.height_of_cell.result c.height_of_cell.ensures.range ∙ c.height_of_cell.ensures.value)
