use Rattle.std.proofs.Common.{◌≡◌, ◌∙◌, sym, ap, subst, ℕ, ◌-◌, ◌<◌}
use Rattle.cpl_layout.specs.Layouts.{Cuts}
use Rattle.cpl_layout.specs.Pieces.{pieces_of}
use Rattle.cpl_wires.specs.Settings.{layout_of, base_of, component_of}
use Rattle.cpl_rows.proofs.Owned.{of_component, number_below}
use Rattle.cpl_rows.proofs.places.cells_of.Goals as goal

pub piece-requires : goal.piece-requires
piece-requires c =
    let setting = c.args.exchanges.now in
    let piece = c.args.piece in
    let own = c.component-component.ensures in
    let layout : c.layout-layout.result.now ≡ layout_of setting (component_of setting piece) = c.layout-layout.ensures ∙ ap (layout_of setting) own in
    let base : c.base.result ≡ base_of setting (component_of setting piece) = c.base.ensures ∙ ap (base_of setting) own in
    let below = number_below setting piece (of_component setting piece c.requires) in
    subst (λ (l : Cuts). piece - c.base.result < pieces_of l) (sym layout) (subst (λ (b : ℕ). piece - b < pieces_of (layout_of setting (component_of setting piece))) (sym base) below)
