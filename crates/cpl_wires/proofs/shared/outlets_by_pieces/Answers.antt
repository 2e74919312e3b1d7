use Rattle.std.proofs.Common.{◌≡◌, ◌∙◌, ap, map}
use Rattle.std.proofs.lemmas.Result.{IfOk-weaker}
use Rattle.cpl_fixed.specs.declared.words.Component.TheVariants.{Land, Ice}
use Rattle.cpl_xgrid.specs.declared.grid.Grid.{Grid}
use Rattle.cpl_wires.specs.Settings.{layout_of}
use Rattle.cpl_wires.specs.Tables.{by_pieces, outlet_pair, outlets_by_pieces}
use Rattle.cpl_wires.proofs.Celled.{way_pairs, same_groups, same_pairs}
use Rattle.cpl_wires.proofs.shared.outlets_by_pieces.Goals as goal

pub by_pieces-requires-clause-pairs : goal.by_pieces-requires-clause-pairs
by_pieces-requires-clause-pairs c =
    let setting = c.args.pieces.now in
    let pairs : c.deref.result.now ≡ map outlet_pair setting.grid.xgrid.outlets = c.deref.ensures.value ∙ c.in_ok-pairs.ensures ∙ ap (map outlet_pair) (c.outlets.ensures ∙ ap (λ (grid : Grid). grid.xgrid.outlets) c.grid.ensures.grid) in
    same_pairs c.layout-land.result.now c.layout-ice.result.now (layout_of setting Land) (layout_of setting Ice) c.deref.result.now (map outlet_pair setting.grid.xgrid.outlets)
    c.layout-land.ensures.layout c.layout-ice.ensures.layout pairs (way_pairs setting.grid c.grid.ensures.lawful)

pub returns : goal.returns
returns c =
    let setting = c.args.pieces.now in
    let pairs : c.deref.result.now ≡ map outlet_pair setting.grid.xgrid.outlets = c.deref.ensures.value ∙ c.in_ok-pairs.ensures ∙ ap (map outlet_pair) (c.outlets.ensures ∙ ap (λ (grid : Grid). grid.xgrid.outlets) c.grid.ensures.grid) in
    IfOk-weaker c.by_pieces.result (λ groups. groups ≡ by_pieces c.layout-land.result.now c.layout-ice.result.now c.deref.result.now) (λ groups. groups ≡ outlets_by_pieces setting)
    (λ groups is. is ∙ same_groups c.layout-land.result.now c.layout-ice.result.now (layout_of setting Land) (layout_of setting Ice) c.deref.result.now (map outlet_pair setting.grid.xgrid.outlets) c.layout-land.ensures.layout c.layout-ice.ensures.layout pairs)
    c.by_pieces.ensures
