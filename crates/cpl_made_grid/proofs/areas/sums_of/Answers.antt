-- One exchange cell more.
use Rattle.std.proofs.Common.{◌≡◌, ◌∙◌, ap, ℕ, arith, length, get_or, take, w64, to_z, of_z}
use Rattle.std.specs.Prelude.{pos, ◌+ℤ◌, replicate}
use Rattle.std.proofs.Math.ListN.{set}
use Rattle.std.proofs.lemmas.Int.{ints}
use Rattle.std.proofs.lemmas.List.{get_or_read, get_or_default, take_all}
use Rattle.cpl_mosaic.specs.Contacts.{cells_of}
use Rattle.cpl_xgrid.specs.Indexes.{no_row}
use Rattle.cpl_made_grid.specs.Areas.{sums_of}
use Rattle.cpl_made_grid.proofs.AreaLaws.{sums_more, sums_none, sums_count, cell_at, sum_small}
use Rattle.cpl_made_grid.proofs.areas.sums_of.Goals as goal

pub loop-row-init : goal.loop-row-init
loop-row-init c =
    let made = c.in_ok-sums.ensures.items_if_clones_equal (λ y q. q) in
    made ∙ ap (λ (n : ℕ). replicate n (pos 0)) c.cells.ensures.count ∙ sums_none c.args.mosaic.now.tiles c.args.rows.now

pub number-requires : goal.number-requires
number-requires c = cell_at c.args.mosaic.now.tiles c.args.rows.now c.loop-row.row-index no_row c.requires.cells c.loop-row-test.true

pub index_mut-requires : goal.index_mut-requires
index_mut-requires c =
    let tiles = c.args.mosaic.now.tiles in
    let cell = cell_at tiles c.args.rows.now c.loop-row.row-index no_row c.requires.cells c.loop-row-test.true in
    let below = c.cells.ensures.numbers.below (get_or c.args.rows.now c.loop-row.row-index no_row).other cell in
    let count : length c.loop-row.sums.items ≡ cells_of tiles = ap length c.loop-row.invariant ∙ sums_count tiles (take c.loop-row.row-index c.args.rows.now) in
    let number = c.number.ensures in
    omega arith

pub overflow_add-index_mut : goal.overflow_add-index_mut
overflow_add-index_mut c =
    let tiles = c.args.mosaic.now.tiles in
    let rows = c.args.rows.now in
    let k = c.loop-row.row-index in
    let cell = cell_at tiles rows k no_row c.requires.cells c.loop-row-test.true in
    let below = c.cells.ensures.numbers.below (get_or rows k no_row).other cell in
    let count : length c.loop-row.sums.items ≡ cells_of tiles = ap length c.loop-row.invariant ∙ sums_count tiles (take k rows) in
    let number = c.number.ensures in
    let read = get_or_read c.loop-row.sums.items c.number.result c.index_mut.result.now (omega arith) c.index_mut.ensures.value (pos 0) in
    let area = c.requires.areas k no_row c.loop-row-test.true in
    let sum = sum_small tiles rows k c.loop-row.sums.items c.number.result c.loop-row.invariant c.requires.areas c.requires.few (omega arith) in
    omega (arith, ints, read, area.0, area.1, sum.0, sum.1)

pub loop-row-preserved : goal.loop-row-preserved
loop-row-preserved c =
    let tiles = c.args.mosaic.now.tiles in
    let rows = c.args.rows.now in
    let k = c.loop-row.row-index in
    let cell = cell_at tiles rows k no_row c.requires.cells c.loop-row-test.true in
    let below = c.cells.ensures.numbers.below (get_or rows k no_row).other cell in
    let count : length c.loop-row.sums.items ≡ cells_of tiles = ap length c.loop-row.invariant ∙ sums_count tiles (take k rows) in
    let number = c.number.ensures in
    let read = get_or_read c.loop-row.sums.items c.number.result c.index_mut.result.now (omega arith) c.index_mut.ensures.value (pos 0) in
    let area = c.requires.areas k no_row c.loop-row-test.true in
    let sum = sum_small tiles rows k c.loop-row.sums.items c.number.result c.loop-row.invariant c.requires.areas c.requires.few (omega arith) in
    let value : to_z w64 (of_z w64 (to_z w64 (of_z w64 c.index_mut.result.now) +ℤ to_z w64 (of_z w64 (get_or rows k no_row).area))) ≡ get_or c.loop-row.sums.items c.number.result (pos 0) +ℤ (get_or rows k no_row).area = omega (arith, ints, read, area.0, area.1, sum.0, sum.1) in
    ap (set c.loop-row.sums.items c.number.result) value
    ∙ (λ i. set (c.loop-row.invariant i) (c.number.ensures i) (get_or (c.loop-row.invariant i) (c.number.ensures i) (pos 0) +ℤ (get_or rows k no_row).area))
    ∙ sums_more tiles rows k (get_or rows k no_row) c.cells.ensures.numbers c.loop-row-test.true (get_or_default rows k no_row (get_or rows k no_row) c.loop-row-test.true) cell

pub returns : goal.returns
returns c =
    let past = c.loop-row-test.false in
    c.loop-row.invariant ∙ ap (sums_of c.args.mosaic.now.tiles) (take_all c.loop-row.row-index c.args.rows.now past)
