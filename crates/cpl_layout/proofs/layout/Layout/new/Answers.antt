use Rattle.std.proofs.Common.{◌≡◌, sym, ◌∙◌, ap, subst, ◌*◌, ◌≤◌, List, length, None}
use Rattle.std.specs.Prelude.{position}
use Rattle.cpl_mosaic.specs.declared.parts.Tile.{Tile}
use Rattle.cpl_layout.specs.Layouts.{is_too_fine, IsLayout}
use Rattle.cpl_layout.proofs.Fits.{layout_is}
use Rattle.cpl_layout.proofs.layout.Layout.new.Goals as goal

pub invariant_of-result : goal.invariant_of-result
invariant_of-result c =
    let few = subst (λ (l : List Tile). length l * c.args.px * c.args.py ≤ 64) c.tiles-tiles.ensures c.if-count-gt-MOST_PIECES.false in
    let fine : position (is_too_fine c.args.px c.args.py) c.args.mosaic.now.tiles ≡ None = ap (position (is_too_fine c.args.px c.args.py)) (sym c.tiles-tiles.ensures) ∙ sym c.in_default.ensures in
    subst (λ (l : List Tile). IsLayout (record { tiles = l; px = c.args.px; py = c.args.py })) (sym (c.in-Ok.ensures.items ∙ c.tiles-tiles.ensures))
    (layout_is c.args.mosaic.now.tiles c.args.px c.args.py c.cells-cells.ensures.rules.sizes c.requires.columns.0 c.requires.rows.0 few fine)
