use Rattle.std.proofs.Common.{◌≡◌, sym, ◌∙◌, ap, subst, ℕ, ◌+◌, ◌*◌, ◌<◌}
use Rattle.std.proofs.lemmas.List.{get_or_default}
use Rattle.cpl_mosaic.specs.declared.parts.Tile.{Tile}
use Rattle.cpl_mosaic.specs.Sides.{IsCellOf}
use Rattle.cpl_mosaic.proofs.Places.{tile_in}
use Rattle.cpl_layout.specs.Extents.{part_of}
use Rattle.cpl_layout.specs.Layouts.{Cuts, IsLayout}
use Rattle.cpl_layout.specs.Pieces.{pieces_of, piece_of, owner_of}
use Rattle.cpl_layout.specs.Owners.{Holds}
use Rattle.cpl_layout.proofs.Numbered.{owner_is, owner_below, owner_holds}
use Rattle.cpl_layout.proofs.layout.Layout.owner.Goals as goal

is_owner : (c : goal.After-struct_known-2-1) → (c.args.cell.tile * c.self.inside.py + c.part_of-row.result) * c.self.inside.px + c.part_of-column.result ≡ owner_of c.args.self.now c.args.cell
is_owner c =
    let cell = subst (λ (m : Cuts). IsCellOf m.tiles c.args.cell) (sym c.self.view_is) c.requires in
    let tile = c.index-tile.ensures ∙ get_or_default c.self.inside.tiles.items c.args.cell.tile c.index-tile.result.now (record { nx = 0; ny = 0 }) (tile_in c.self.inside.tiles.items c.args.cell cell) in
    owner_is (record { tiles = c.self.inside.tiles.items; px = c.self.inside.px; py = c.self.inside.py }) c.args.cell c.part_of-row.result c.part_of-column.result
    (c.part_of-row.ensures.part ∙ ap (λ (t : Tile). part_of t.ny c.self.inside.py c.args.cell.j) tile)
    (c.part_of-column.ensures.part ∙ ap (λ (t : Tile). part_of t.nx c.self.inside.px c.args.cell.i) tile)
    ∙ ap (λ (m : Cuts). owner_of m c.args.cell) c.self.view_is

pub returns-clause-owner : goal.returns-clause-owner
returns-clause-owner c = is_owner c

pub returns-clause-within : goal.returns-clause-within
returns-clause-within c =
    let rules = subst IsLayout c.self.view_is c.self.invariant in
    subst (λ (p : ℕ). p < pieces_of c.args.self.now) (sym (is_owner c)) (owner_below c.args.self.now c.args.cell rules c.requires)

pub returns-clause-holds : goal.returns-clause-holds
returns-clause-holds c =
    let rules = subst IsLayout c.self.view_is c.self.invariant in
    subst (λ (p : ℕ). Holds (piece_of c.args.self.now p) c.args.cell) (sym (is_owner c)) (owner_holds c.args.self.now c.args.cell rules c.requires)
