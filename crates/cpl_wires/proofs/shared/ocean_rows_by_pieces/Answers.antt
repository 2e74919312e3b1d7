use Rattle.std.proofs.Common.{◌≡◌, ◌∙◌, ap, map}
use Rattle.std.proofs.lemmas.Result.{IfOk-weaker}
use Rattle.cpl_fixed.specs.declared.words.Component.TheVariants.{Atmos, Ice}
use Rattle.cpl_xgrid.specs.declared.grid.Grid.{Grid}
use Rattle.cpl_xgrid.specs.declared.parts.Surface.TheVariants as surface
use Rattle.cpl_wires.specs.Settings.{layout_of}
use Rattle.cpl_wires.specs.Tables.{by_pieces, row_pair, rows_by_pieces}
use Rattle.cpl_wires.proofs.Celled.{sea_pairs, same_groups, same_pairs}
use Rattle.cpl_wires.proofs.shared.ocean_rows_by_pieces.Goals as goal

pub by_pieces-requires-clause-pairs : goal.by_pieces-requires-clause-pairs
by_pieces-requires-clause-pairs c =
    let setting = c.args.pieces.now in
    let pairs : c.deref.result.now ≡ map row_pair setting.grid.xgrid.ocean_rows = c.deref.ensures.value ∙ c.in_ok-pairs.ensures ∙ ap (map row_pair) (c.rows.ensures ∙ ap (λ (grid : Grid). grid.xgrid.ocean_rows) c.grid.ensures.grid) in
    same_pairs c.layout-air.result.now c.layout-ice.result.now (layout_of setting Atmos) (layout_of setting Ice) c.deref.result.now (map row_pair setting.grid.xgrid.ocean_rows)
    c.layout-air.ensures.layout c.layout-ice.ensures.layout pairs (sea_pairs setting.grid c.grid.ensures.lawful)

pub returns : goal.returns
returns c =
    let setting = c.args.pieces.now in
    let pairs : c.deref.result.now ≡ map row_pair setting.grid.xgrid.ocean_rows = c.deref.ensures.value ∙ c.in_ok-pairs.ensures ∙ ap (map row_pair) (c.rows.ensures ∙ ap (λ (grid : Grid). grid.xgrid.ocean_rows) c.grid.ensures.grid) in
    IfOk-weaker c.by_pieces.result (λ groups. groups ≡ by_pieces c.layout-air.result.now c.layout-ice.result.now c.deref.result.now) (λ groups. groups ≡ rows_by_pieces setting surface.Ocean)
    (λ groups is. is ∙ same_groups c.layout-air.result.now c.layout-ice.result.now (layout_of setting Atmos) (layout_of setting Ice) c.deref.result.now (map row_pair setting.grid.xgrid.ocean_rows) c.layout-air.ensures.layout c.layout-ice.ensures.layout pairs)
    c.by_pieces.ensures
