use Rattle.std.proofs.Common.{arith, ◌<◌}
use Rattle.cpl_mosaic.specs.Contacts.{cells_of}
use Rattle.cpl_fast.proofs.Making.{can_sum_read}
use Rattle.cpl_fast.proofs.tables.sum_ocean_areas.Goals as goal

pub fill_cell_areas-requires-clause-can : goal.fill_cell_areas-requires-clause-can
fill_cell_areas-requires-clause-can c =
    let l : c.loop-n.n < cells_of c.args.xgrid.now.ocean = omega (arith, c.loop-n-test.true) in
    can_sum_read c.cells_of_ocean-refs.result.now _ c.rows-rows.result.now _ c.args.areas.now c.args.width c.cells_of_ocean-refs.ensures c.rows-rows.ensures (c.requires.can c.loop-n.n l)
