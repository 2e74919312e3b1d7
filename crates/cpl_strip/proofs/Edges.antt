-- Sides along the edges of pieces, and faces between them.
use Rattle.std.proofs.Common.{◌≡◌, refl, sym, ◌∙◌, ap, subst, Bool, true, eqb, ltb, ℕ, ◌+◌, ◌-◌, ◌<◌, ◌≤◌, arith, List, Option, Some, None, inl, inr, ◌⊎◌}
use Rattle.std.proofs.lemmas.Bool.{cond-true, cond-false, eq-eqb, ne_eqb, lt-ltb, ltb-true, cases_eq}
use Rattle.cpl_mosaic.specs.declared.parts.Side.{Side}
use Rattle.cpl_mosaic.specs.declared.parts.Side.TheVariants.{W, E, S, N}
use Rattle.cpl_mosaic.specs.declared.parts.CellId.{CellId}
use Rattle.cpl_mosaic.specs.declared.parts.Tile.{Tile}
use Rattle.cpl_mosaic.specs.Lists.{MosaicLists}
use Rattle.cpl_mosaic.specs.Sides.{CellSide, tile_at, opposite, neighbour}
use Rattle.cpl_mosaic.specs.Contacts.{all_joins}
use Rattle.cpl_mosaic.specs.Mates.{or_joined, mate_of}
use Rattle.cpl_layout.specs.declared.piece.Piece.{Piece}
use Rattle.cpl_layout.specs.Owners.{Holds, IsPieceOf, cell_in, place_in}
use Rattle.cpl_strip.specs.declared.parts.Hole.{Hole}
use Rattle.cpl_faces.specs.Orders.{LessThen, less_then}
use Rattle.cpl_strip.specs.Holes.{edge_of, edge_place, side_at, IsHoleOf}
use Rattle.cpl_faces.specs.Faces.{rank, Comes}
use Rattle.cpl_strip.specs.Faces.{IsAlong}
use Rattle.cpl_strip.specs.Taken.{comes}
use Rattle.cpl_strip.proofs.Bundles.{some_same}

-- the test of an order is the order
less_from : (x y : ℕ) (test : Bool) (Follows : Type 0) → (test ≡ true → Follows) → less_then x y test ≡ true → LessThen x y Follows
less_from x y test Follows follows is = elim (cases_eq x y) [
  | inl same ↦ inr (same, follows (sym (cond-true (eqb x y) test (ltb x y) (eq-eqb x y same)) ∙ is))
  | inr other ↦ inl (ltb-true x y (sym (cond-false (eqb x y) test (ltb x y) (ne_eqb x y other)) ∙ is))
]

from_less : (x y : ℕ) (test : Bool) (Follows : Type 0) → (Follows → test ≡ true) → LessThen x y Follows → less_then x y test ≡ true
from_less x y test Follows follows (inl less) = cond-false (eqb x y) test (ltb x y) (ne_eqb x y (λ e. omega arith)) ∙ lt-ltb x y less
from_less x y test Follows follows (inr (same, then)) = cond-true (eqb x y) test (ltb x y) (eq-eqb x y same) ∙ follows then

pub comes_from : (a b : CellSide) → comes a b ≡ true → Comes a b
comes_from a b is =
    less_from a.0.tile b.0.tile _ _
    (λ is. less_from a.0.j b.0.j _ _ (λ is. less_from a.0.i b.0.i _ _ (λ is. ltb-true (rank a.1) (rank b.1) is) is) is)
    is

pub comes_is : (a b : CellSide) → Comes a b → comes a b ≡ true
comes_is a b is =
    from_less a.0.tile b.0.tile _ _
    (λ is. from_less a.0.j b.0.j _ _ (λ is. from_less a.0.i b.0.i _ _ (λ is. lt-ltb (rank a.1) (rank b.1) is) is) is)
    is

-- a side lies along the edge of a piece, or not
pub along_cases : (piece : Piece) (a : CellSide) → IsAlong piece a ⊎ (IsAlong piece a → ⊥)
along_cases piece (cell, W) = cases_eq cell.i piece.i0
along_cases piece (cell, E) = cases_eq (cell.i + 1) (piece.i0 + piece.nx)
along_cases piece (cell, S) = cases_eq cell.j piece.j0
along_cases piece (cell, N) = cases_eq (cell.j + 1) (piece.j0 + piece.ny)

-- the sides out of which holes lie are of the piece, along its edge
pub hole_held : (tiles : List Tile) (piece : Piece) (side : Side) (k : ℕ) → IsPieceOf tiles piece → k < edge_of piece side → Holds piece (cell_in piece (edge_place piece side k))
hole_held tiles piece W k is below = let nx = is.shape.nx_least in record { tile = refl; west = omega arith; east = omega arith; south = omega arith; north = omega arith }
hole_held tiles piece E k is below = let nx = is.shape.nx_least in record { tile = refl; west = omega arith; east = omega arith; south = omega arith; north = omega arith }
hole_held tiles piece S k is below = let ny = is.shape.ny_least in record { tile = refl; west = omega arith; east = omega arith; south = omega arith; north = omega arith }
hole_held tiles piece N k is below = let ny = is.shape.ny_least in record { tile = refl; west = omega arith; east = omega arith; south = omega arith; north = omega arith }

pub hole_along : (tiles : List Tile) (piece : Piece) (side : Side) (k : ℕ) → IsPieceOf tiles piece → IsAlong piece (cell_in piece (edge_place piece side k), side)
hole_along tiles piece W k is = omega arith
hole_along tiles piece E k is = let nx = is.shape.nx_least in omega arith
hole_along tiles piece S k is = omega arith
hole_along tiles piece N k is = let ny = is.shape.ny_least in omega arith

-- where a side lies along the edge
abbrev pub along_at : Piece → CellSide → ℕ
along_at piece (cell, W) = cell.j - piece.j0
along_at piece (cell, E) = cell.j - piece.j0
along_at piece (cell, S) = cell.i - piece.i0
along_at piece (cell, N) = cell.i - piece.i0

-- a side along the edge of its piece is the one out of which a hole lies
pub record IsOut (piece : Piece) (a : CellSide) : Type 0 where
  pub hole : IsHoleOf piece 1 (record { side = a.1; at = along_at piece a; depth = 1 })
  pub is : side_at piece (record { side = a.1; at = along_at piece a; depth = 1 }) ≡ a

pub out_of : (piece : Piece) (a : CellSide) → Holds piece a.0 → IsAlong piece a → IsOut piece a
out_of piece (cell, W) held along =
    let west = held.west in let east = held.east in let south = held.south in let north = held.north in
    let tile = held.tile in
    let i : piece.i0 + 0 ≡ cell.i = omega arith in
    let j : piece.j0 + (cell.j - piece.j0) ≡ cell.j = omega arith in
    record { hole = record { at = omega arith; least = omega arith; most = omega arith }; is = λ s. (record { tile = sym tile s; i = i s; j = j s }, W) }
out_of piece (cell, E) held along =
    let west = held.west in let east = held.east in let south = held.south in let north = held.north in
    let tile = held.tile in
    let i : piece.i0 + (piece.nx - 1) ≡ cell.i = omega arith in
    let j : piece.j0 + (cell.j - piece.j0) ≡ cell.j = omega arith in
    record { hole = record { at = omega arith; least = omega arith; most = omega arith }; is = λ s. (record { tile = sym tile s; i = i s; j = j s }, E) }
out_of piece (cell, S) held along =
    let west = held.west in let east = held.east in let south = held.south in let north = held.north in
    let tile = held.tile in
    let i : piece.i0 + (cell.i - piece.i0) ≡ cell.i = omega arith in
    let j : piece.j0 + 0 ≡ cell.j = omega arith in
    record { hole = record { at = omega arith; least = omega arith; most = omega arith }; is = λ s. (record { tile = sym tile s; i = i s; j = j s }, S) }
out_of piece (cell, N) held along =
    let west = held.west in let east = held.east in let south = held.south in let north = held.north in
    let tile = held.tile in
    let i : piece.i0 + (cell.i - piece.i0) ≡ cell.i = omega arith in
    let j : piece.j0 + (piece.ny - 1) ≡ cell.j = omega arith in
    record { hole = record { at = omega arith; least = omega arith; most = omega arith }; is = λ s. (record { tile = sym tile s; i = i s; j = j s }, N) }

-- a side inside a piece: its neighbour is of the piece too, and meets it by a side inside
pub record IsInner (tiles : List Tile) (piece : Piece) (a : CellSide) (next : CellId) : Type 0 where
  pub neighbour_is : neighbour (tile_at tiles a.0.tile) a.0 a.1 ≡ Some next
  pub held : Holds piece next
  pub inner : IsAlong piece (next, opposite a.1) → ⊥

at_least : {x y : ℕ} → (x ≡ y → ⊥) → y ≤ x → y ≤ x - 1
at_least other least = omega arith

below_end : {x y : ℕ} → (x + 1 ≡ y → ⊥) → x < y → x + 1 < y
below_end other less = omega arith

abbrev beside_cell : CellId → ℕ → ℕ → CellId
beside_cell cell i j = record { tile = cell.tile; i = i; j = j }

pub inner : (tiles : List Tile) (piece : Piece) (a : CellSide) → IsPieceOf tiles piece → Holds piece a.0 → (IsAlong piece a → ⊥) → (next : CellId) × IsInner tiles piece a next
inner tiles piece (cell, W) is held not_along =
    let west = held.west in let east = held.east in let south = held.south in let north = held.north in
    let inside : cell.i ≡ piece.i0 → ⊥ = not_along in (
      beside_cell cell (cell.i - 1) cell.j,
      record {
        neighbour_is = cond-false (eqb cell.i 0) None (Some (beside_cell cell (cell.i - 1) cell.j)) (ne_eqb cell.i 0 (λ e. inside (omega arith)));
        held = record { tile = held.tile; west = at_least inside west; east = omega arith; south = south; north = north };
        inner = λ along. inside (omega arith);
      },
    )
inner tiles piece (cell, E) is held not_along =
    let west = held.west in let east = held.east in let south = held.south in let north = held.north in
    let fit : piece.i0 + piece.nx ≤ (tile_at tiles cell.tile).nx = subst (λ t. piece.i0 + piece.nx ≤ (tile_at tiles t).nx) (sym held.tile) is.east in
    let inside : cell.i + 1 ≡ piece.i0 + piece.nx → ⊥ = not_along in
    let more = below_end inside east in (
      beside_cell cell (cell.i + 1) cell.j,
      record {
        neighbour_is = cond-false (eqb (cell.i + 1) (tile_at tiles cell.tile).nx) None (Some (beside_cell cell (cell.i + 1) cell.j)) (ne_eqb (cell.i + 1) (tile_at tiles cell.tile).nx (λ e. omega arith));
        held = record { tile = held.tile; west = omega arith; east = more; south = south; north = north };
        inner = λ along. absurd (omega arith);
      },
    )
inner tiles piece (cell, S) is held not_along =
    let west = held.west in let east = held.east in let south = held.south in let north = held.north in
    let inside : cell.j ≡ piece.j0 → ⊥ = not_along in (
      beside_cell cell cell.i (cell.j - 1),
      record {
        neighbour_is = cond-false (eqb cell.j 0) None (Some (beside_cell cell cell.i (cell.j - 1))) (ne_eqb cell.j 0 (λ e. inside (omega arith)));
        held = record { tile = held.tile; west = west; east = east; south = at_least inside south; north = omega arith };
        inner = λ along. inside (omega arith);
      },
    )
inner tiles piece (cell, N) is held not_along =
    let west = held.west in let east = held.east in let south = held.south in let north = held.north in
    let fit : piece.j0 + piece.ny ≤ (tile_at tiles cell.tile).ny = subst (λ t. piece.j0 + piece.ny ≤ (tile_at tiles t).ny) (sym held.tile) is.north in
    let inside : cell.j + 1 ≡ piece.j0 + piece.ny → ⊥ = not_along in
    let more = below_end inside north in (
      beside_cell cell cell.i (cell.j + 1),
      record {
        neighbour_is = cond-false (eqb (cell.j + 1) (tile_at tiles cell.tile).ny) None (Some (beside_cell cell cell.i (cell.j + 1))) (ne_eqb (cell.j + 1) (tile_at tiles cell.tile).ny (λ e. omega arith));
        held = record { tile = held.tile; west = west; east = east; south = omega arith; north = more };
        inner = λ along. absurd (omega arith);
      },
    )

-- so it meets a side inside the piece
pub inner_mate : (mosaic : MosaicLists) (piece : Piece) (a b : CellSide) → IsPieceOf mosaic.tiles piece → Holds piece a.0 → (IsAlong piece a → ⊥) → mate_of mosaic a ≡ Some b → Holds piece b.0 × (IsAlong piece b → ⊥)
inner_mate mosaic piece a b is held not_along mate =
    let next = inner mosaic.tiles piece a is held not_along in
    let meets = ap (λ (o : Option CellId). or_joined o a.1 (all_joins mosaic.tiles mosaic.contacts) a) next.1.neighbour_is in
    let same : (next.0, opposite a.1) ≡ b = some_same (sym meets ∙ mate) in
    subst (λ (c : CellSide). Holds piece c.0 × (IsAlong piece c → ⊥)) same (next.1.held, next.1.inner)

-- a side out of which a hole lies tells where it lies
pub along_back : (piece : Piece) (side : Side) (k : ℕ) → along_at piece (cell_in piece (edge_place piece side k), side) ≡ k
along_back piece W k = omega arith
along_back piece E k = omega arith
along_back piece S k = omega arith
along_back piece N k = omega arith

-- cells of a piece with one place are one
pub same_cell : (piece : Piece) (a b : CellId) → Holds piece a → Holds piece b → place_in piece a ≡ place_in piece b → a ≡ b
same_cell piece a b in_a in_b same =
    let column = ap (λ (p : ℕ × ℕ). p.0) same in
    let row = ap (λ (p : ℕ × ℕ). p.1) same in
    let west_a = in_a.west in
    let west_b = in_b.west in
    let south_a = in_a.south in
    let south_b = in_b.south in
    let tile : a.tile ≡ b.tile = in_a.tile ∙ sym in_b.tile in
    let i : a.i ≡ b.i = omega arith in
    let j : a.j ≡ b.j = omega arith in
    λ s. record { tile = tile s; i = i s; j = j s }

-- holes of depth 1 out of one side are one
pub same_hole : (piece : Piece) (a b : Hole) → IsHoleOf piece 1 a → IsHoleOf piece 1 b → side_at piece a ≡ side_at piece b → a ≡ b
same_hole piece a b is_a is_b same =
    let side = ap (λ (c : CellSide). c.1) same in
    let at = sym (along_back piece a.side a.at) ∙ ap (along_at piece) same ∙ along_back piece b.side b.at in
    let least_a = is_a.least in
    let most_a = is_a.most in
    let least_b = is_b.least in
    let most_b = is_b.most in
    let depth : a.depth ≡ b.depth = omega arith in
    λ s. record { side = side s; at = at s; depth = depth s }
