use Rattle.std.proofs.Common.{arith, ◌<◌}
use Rattle.cpl_mosaic.specs.Contacts.{cells_of}
use Rattle.cpl_fast.proofs.Making.{can_sum_read}
use Rattle.cpl_fast.proofs.tables.sum_land_areas.Goals as goal

pub part_area-requires-clause-reach : goal.part_area-requires-clause-reach
part_area-requires-clause-reach c =
    let l : c.loop-n.n < cells_of c.args.xgrid.now.land = omega (arith, c.loop-n-test.true) in
    (can_sum_read c.cells_of_land.result.now _ c.rows-rows.result.now _ c.args.areas.now 1 c.cells_of_land.ensures c.rows-rows.ensures (c.requires.can c.loop-n.n l)).reach

pub part_area-requires-clause-most : goal.part_area-requires-clause-most
part_area-requires-clause-most c =
    let l : c.loop-n.n < cells_of c.args.xgrid.now.land = omega (arith, c.loop-n-test.true) in
    (can_sum_read c.cells_of_land.result.now _ c.rows-rows.result.now _ c.args.areas.now 1 c.cells_of_land.ensures c.rows-rows.ensures (c.requires.can c.loop-n.n l)).most 0 (omega arith)
