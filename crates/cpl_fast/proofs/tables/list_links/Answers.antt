use Rattle.std.proofs.Common.{sym, ap, subst, ◌+◌, ◌<◌, arith, ℕ, List, length, w64, to_z, of_z}
use Rattle.std.specs.Prelude.{pos, ◌+ℤ◌, slice_index_or, slice_set}
use Rattle.std.proofs.lemmas.Int.{ints}
use Rattle.cpl_xgrid.specs.Rows.{air_cell, other_cell}
use Rattle.cpl_fast.specs.declared.flows.Link.{Link}
use Rattle.cpl_fast.specs.Tables.{AreLinked, row_in}
use Rattle.cpl_fast.proofs.Linked.{cells_at, number_below, before_range, linked_more}
use Rattle.cpl_fast.proofs.tables.list_links.Goals as goal

pub number-cell-requires : goal.number-cell-requires
number-cell-requires c = cells_at c.args.air.now.tiles air_cell c.args.rows.now c.loop-row.row-index (omega arith) c.requires.airs

pub number-requires : goal.number-requires
number-requires c = cells_at c.args.surface.now.tiles other_cell c.args.rows.now c.loop-row.row-index (omega arith) c.requires.others

pub slice_copy_out-before : goal.slice_copy_out-before
slice_copy_out-before c =
    let below = number_below c.args.air.now.tiles c.args.surface.now.tiles c.args.rows.now c.args.areas.now c.requires c.cells-cells.ensures.numbers c.loop-row.row-index (omega arith) c.loop-row.links.items c.loop-row.areas c.loop-row.invariant in
    omega (arith, below, c.number-cell.ensures, c.loop-row.invariant.cells, c.requires.cells)

pub bounds-areas-cell : goal.bounds-areas-cell
bounds-areas-cell c =
    let below = number_below c.args.air.now.tiles c.args.surface.now.tiles c.args.rows.now c.args.areas.now c.requires c.cells-cells.ensures.numbers c.loop-row.row-index (omega arith) c.loop-row.links.items c.loop-row.areas c.loop-row.invariant in
    omega (arith, below, c.number-cell.ensures, c.loop-row.invariant.cells, c.requires.cells)

pub overflow_add-areas : goal.overflow_add-areas
overflow_add-areas c =
    let range = before_range c.args.air.now.tiles c.args.surface.now.tiles c.args.rows.now c.args.areas.now c.requires c.cells-cells.ensures.numbers c.loop-row.row-index (omega arith) c.loop-row.links.items c.loop-row.areas c.loop-row.invariant in
    let read = ap (λ (k : ℕ). slice_index_or c.loop-row.areas k (pos 0)) c.number-cell.ensures in
    let least = range.0 in
    let own = range.1 in
    let most = range.2 in
    omega (arith, ints, read, least, own, most)

pub loop-row-preserved : goal.loop-row-preserved
loop-row-preserved c =
    let n = c.loop-row.row-index in
    let l : n < length c.args.rows.now = omega arith in
    let areas = c.loop-row.areas in
    let row = row_in c.args.rows.now n in
    let range = before_range c.args.air.now.tiles c.args.surface.now.tiles c.args.rows.now c.args.areas.now c.requires c.cells-cells.ensures.numbers n l c.loop-row.links.items areas c.loop-row.invariant in
    let read = ap (λ (k : ℕ). slice_index_or areas k (pos 0)) c.number-cell.ensures in
    let least = range.0 in
    let own = range.1 in
    let most = range.2 in
    let before = to_z w64 (of_z w64 (slice_index_or areas c.number-cell.result (pos 0))) in
    let to = to_z w64 (of_z w64 (to_z w64 (of_z w64 (slice_index_or areas c.number-cell.result (pos 0))) +ℤ to_z w64 (of_z w64 row.area))) in
    subst (λ (links : List Link). AreLinked c.args.air.now.tiles c.args.surface.now.tiles c.args.rows.now (n + 1) c.args.areas.now links (slice_set areas c.number-cell.result to)) (sym c.in_ok-push.ensures.items)
    (linked_more c.args.air.now.tiles c.args.surface.now.tiles c.args.rows.now c.args.areas.now c.requires c.cells-cells.ensures.numbers n l c.loop-row.links.items areas c.loop-row.invariant
    c.number-cell.result c.number.result before to c.number-cell.ensures c.number.ensures
    (omega (arith, ints, read, least, own, most)) (omega (arith, ints, read, least, own, most)))
