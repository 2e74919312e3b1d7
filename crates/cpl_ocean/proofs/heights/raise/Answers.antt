use Rattle.cpl_ocean.specs.Columns.{height_at}
use Rattle.cpl_ocean.specs.declared.zone.Zone.TheVariants.{Inner, Rim}
use Rattle.cpl_ocean.proofs.Raised.{close_filled, raised_kept}
use Rattle.cpl_ocean.proofs.heights.raise.Goals as goal

pub returns-in-Inner-clause-basin : goal.returns-in-Inner-clause-basin
returns-in-Inner-clause-basin c = raised_kept Inner c.args.basin.now c.args.layers.now c.raise_rows.new.heights c.requires.basin c.raise_rows.ensures

pub returns-in-Rim-clause-basin : goal.returns-in-Rim-clause-basin
returns-in-Rim-clause-basin c =
    let basin = c.args.basin.now in
    raised_kept Rim basin c.args.layers.now c.raise_sides.new.heights c.requires.basin
    (close_filled basin.area (height_at basin.area c.args.layers.now) basin.heights c.raise_rows.new.heights c.raise_sides.new.heights c.raise_rows.ensures c.raise_sides.ensures)
