use Rattle.std.proofs.Common.{◌≡◌, ◌∙◌, sym, ap, subst}
use Rattle.std.specs.Prelude.{All}
use Rattle.cpl_mosaic.specs.Sides.{IsCellOf}
use Rattle.cpl_layout.specs.Layouts.{Cuts}
use Rattle.cpl_xgrid.specs.declared.grid.Grid.{Grid}
use Rattle.cpl_wires.specs.Settings.{layout_of, component_of}
use Rattle.cpl_rows.specs.declared.ends.End.TheVariants.{To}
use Rattle.cpl_rows.specs.Ends.{cells_by}
use Rattle.cpl_rows.proofs.Linked.{taker_of}
use Rattle.cpl_rows.proofs.Owned.{cells_inside}
use Rattle.cpl_rows.proofs.places.own_items.Goals as goal

pub items_in-requires-clause-cells : goal.items_in-requires-clause-cells
items_in-requires-clause-cells c =
    let setting = c.args.exchanges.now in
    let piece = c.args.piece in
    let layout : c.layout-layout.result.now ≡ layout_of setting (component_of setting piece) = c.layout-layout.ensures ∙ ap (layout_of setting) c.component-component.ensures in
    let taker = taker_of setting c.names-names.ensures.lawful c.grid-grid.ensures.lawful c.args.purpose piece c.requires.purpose c.requires.piece in
    subst (λ (l : Cuts). All (IsCellOf l.tiles) (cells_by c.grid-grid.result.now c.args.purpose To)) (sym layout)
    (subst (λ (grid : Grid). All (IsCellOf (layout_of setting (component_of setting piece)).tiles) (cells_by grid c.args.purpose To)) (sym c.grid-grid.ensures.grid)
    (cells_inside setting c.names-names.ensures.lawful c.args.purpose piece taker))
