use Rattle.std.proofs.Common.{sym, ◌∙◌, ap, subst, ◌<◌, ◌≤◌}
use Rattle.std.specs.Prelude.{◌/◌}
use Rattle.std.proofs.lemmas.List.{get_or_default}
use Rattle.cpl_mosaic.specs.declared.parts.Tile.{Tile}
use Rattle.cpl_layout.specs.declared.piece.Piece.{Piece}
use Rattle.cpl_layout.specs.Layouts.{Cuts, IsLayout}
use Rattle.cpl_layout.specs.Pieces.{pieces_of, piece_of}
use Rattle.cpl_layout.specs.Owners.{IsPieceOf}
use Rattle.cpl_layout.proofs.Numbered.{placed, is_cut, piece_is, piece_inside}
use Rattle.cpl_layout.proofs.layout.Layout.piece.Goals as goal

pub extent-j0-requires-clause-enough : goal.extent-j0-requires-clause-enough
extent-j0-requires-clause-enough c =
    let below = subst (λ (m : Cuts). c.args.p < pieces_of m) (sym c.self.view_is) c.requires in
    let layout : Cuts = record { tiles = c.self.inside.tiles.items; px = c.self.inside.px; py = c.self.inside.py } in
    let tile = (placed layout c.args.p c.self.invariant below).tile in
    let cut = is_cut layout (c.args.p / c.self.inside.px / c.self.inside.py) c.self.invariant tile in
    let same = c.index-tile.ensures ∙ get_or_default c.self.inside.tiles.items (c.args.p / c.self.inside.px / c.self.inside.py) c.index-tile.result.now (record { nx = 0; ny = 0 }) tile in
    subst (λ (t : Tile). c.self.inside.py ≤ t.ny) (sym same) cut.high

pub returns-clause-piece : goal.returns-clause-piece
returns-clause-piece c =
    let below = subst (λ (m : Cuts). c.args.p < pieces_of m) (sym c.self.view_is) c.requires in
    let layout : Cuts = record { tiles = c.self.inside.tiles.items; px = c.self.inside.px; py = c.self.inside.py } in
    let tile = (placed layout c.args.p c.self.invariant below).tile in
    let same = c.index-tile.ensures ∙ get_or_default c.self.inside.tiles.items (c.args.p / c.self.inside.px / c.self.inside.py) c.index-tile.result.now (record { nx = 0; ny = 0 }) tile in
    piece_is layout c.args.p c.index-tile.result.now c.extent-i0.result c.extent-j0.result same c.extent-i0.ensures.start c.extent-i0.ensures.length c.extent-j0.ensures.start c.extent-j0.ensures.length
    ∙ ap (λ (m : Cuts). piece_of m c.args.p) c.self.view_is

pub returns-clause-inside : goal.returns-clause-inside
returns-clause-inside c =
    let rules = subst IsLayout c.self.view_is c.self.invariant in
    subst (λ (piece : Piece). IsPieceOf c.args.self.now.tiles piece) (sym (returns-clause-piece c)) (piece_inside c.args.self.now c.args.p rules c.requires)
