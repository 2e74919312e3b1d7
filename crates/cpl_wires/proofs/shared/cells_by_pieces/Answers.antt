use Rattle.std.proofs.Common.{◌≡◌, sym, ◌∙◌, ap, List, arith, length, map}
use Rattle.std.specs.List.{range_with_len}
use Rattle.std.proofs.lemmas.Result.{IfOk-weaker}
use Rattle.std.proofs.lemmas.List.FromFn.{length-map-range_with_len}
use Rattle.std.proofs.lemmas.Simd.{map-map}
use Rattle.cpl_fixed.specs.declared.words.Component.TheVariants.{Ice, Ocean}
use Rattle.cpl_mosaic.specs.Contacts.{cells_of}
use Rattle.cpl_mosaic.specs.Cells.{cell_of}
use Rattle.cpl_xgrid.specs.declared.grid.Grid.{Grid}
use Rattle.cpl_wires.specs.Settings.{layout_of}
use Rattle.cpl_wires.specs.Pairs.{sea_cells}
use Rattle.cpl_wires.specs.Tables.{Pair, by_pieces, same_pair, cells_by_pieces}
use Rattle.cpl_wires.proofs.Celled.{cell_pairs_are, same_groups, same_pairs}
use Rattle.cpl_wires.proofs.shared.cells_by_pieces.Goals as goal

pub by_pieces-requires-clause-pairs : goal.by_pieces-requires-clause-pairs
by_pieces-requires-clause-pairs c =
    let setting = c.args.pieces.now in
    let tiles = setting.grid.ocean.mosaic.tiles in
    let pairs : c.deref.result.now ≡ map same_pair (sea_cells setting) =
    c.deref.ensures.value ∙ c.in_ok-pairs.ensures
    ∙ ap (λ (grid : Grid). map (λ n. same_pair (cell_of grid.ocean.mosaic.tiles n)) (range_with_len 0 (cells_of grid.ocean.mosaic.tiles))) c.grid.ensures.grid
    ∙ sym (map-map same_pair (cell_of tiles) (range_with_len 0 (cells_of tiles))) in
    same_pairs c.layout-ice.result.now c.layout-ocean.result.now (layout_of setting Ice) (layout_of setting Ocean) c.deref.result.now (map same_pair (sea_cells setting))
    c.layout-ice.ensures.layout c.layout-ocean.ensures.layout pairs (cell_pairs_are tiles c.layout-ocean.ensures.lawful.sizes)

pub by_pieces-requires-clause-few : goal.by_pieces-requires-clause-few
by_pieces-requires-clause-few c =
    let setting = c.args.pieces.now in
    let tiles = setting.grid.ocean.mosaic.tiles in
    let pairs = ap (λ (l : List Pair). length l) (c.deref.ensures.value ∙ c.in_ok-pairs.ensures
    ∙ ap (λ (grid : Grid). map (λ n. same_pair (cell_of grid.ocean.mosaic.tiles n)) (range_with_len 0 (cells_of grid.ocean.mosaic.tiles))) c.grid.ensures.grid) in
    let long = length-map-range_with_len (λ n. same_pair (cell_of tiles n)) 0 (cells_of tiles) in
    let few = c.layout-ocean.ensures.lawful.sizes.cells in omega arith

pub returns : goal.returns
returns c =
    let setting = c.args.pieces.now in
    let tiles = setting.grid.ocean.mosaic.tiles in
    let pairs : c.deref.result.now ≡ map same_pair (sea_cells setting) =
    c.deref.ensures.value ∙ c.in_ok-pairs.ensures
    ∙ ap (λ (grid : Grid). map (λ n. same_pair (cell_of grid.ocean.mosaic.tiles n)) (range_with_len 0 (cells_of grid.ocean.mosaic.tiles))) c.grid.ensures.grid
    ∙ sym (map-map same_pair (cell_of tiles) (range_with_len 0 (cells_of tiles))) in
    IfOk-weaker c.by_pieces.result (λ groups. groups ≡ by_pieces c.layout-ice.result.now c.layout-ocean.result.now c.deref.result.now) (λ groups. groups ≡ cells_by_pieces setting)
    (λ groups is. is ∙ same_groups c.layout-ice.result.now c.layout-ocean.result.now (layout_of setting Ice) (layout_of setting Ocean) c.deref.result.now (map same_pair (sea_cells setting)) c.layout-ice.ensures.layout c.layout-ocean.ensures.layout pairs)
    c.by_pieces.ensures
