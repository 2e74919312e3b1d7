use Rattle.cpl_ocean.specs.Columns.{height_at}
use Rattle.cpl_ocean.proofs.Raised.{sides_all}
use Rattle.cpl_ocean.proofs.heights.raise_sides.Goals as goal

pub returns : goal.returns
returns c =
    sides_all c.args.area.now (height_at c.args.area.now c.args.layers.now) 1 c.args.heights.now c.raise_side.new.heights c.raise_side-2.new.heights c.raise_side-3.new.heights c.raise_side-4.new.heights c.args.nx c.args.ny c.requires.columns c.requires.rows
    c.raise_side.ensures c.raise_side-2.ensures c.raise_side-3.ensures c.raise_side-4.ensures
