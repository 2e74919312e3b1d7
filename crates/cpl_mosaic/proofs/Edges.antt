-- Sides of cells: the test of equality, and the sides along an edge of a tile.
use Rattle.std.proofs.Common.{◌≡◌, refl, ◌∙◌, ap, subst, true, leb, ltb, ℕ, ◌+◌, ◌-◌, ◌<◌, ◌≤◌, arith, List, length, inl, inr}
use Rattle.std.specs.Prelude.{All}
use Rattle.std.proofs.lemmas.Bool.{and_parts, and_from, false≢true, eqb-true, eq-eqb, ltb-true, cond-true, cases_lt}
use Rattle.std.proofs.lemmas.List.{get_or_past}
use Rattle.cpl_mosaic.specs.declared.parts.Side.{Side}
use Rattle.cpl_mosaic.specs.declared.parts.Side.TheVariants.{W, E, S, N}
use Rattle.cpl_mosaic.specs.declared.parts.CellId.{CellId}
use Rattle.cpl_mosaic.specs.declared.parts.Tile.{Tile}
use Rattle.cpl_mosaic.specs.declared.parts.Span.{Span}
use Rattle.cpl_mosaic.specs.Sides.{CellSide, is_same_direction, is_same_cell, is_same_side, tile_at, edge_length, edge_side, IsEdgeSide}
use Rattle.cpl_mosaic.specs.Contacts.{IsTile, span_is_inside}

-- the tests of sides decide equality
same_direction : (a b : Side) → is_same_direction a b ≡ true → a ≡ b
same_direction W W e = refl
same_direction E E e = refl
same_direction S S e = refl
same_direction N N e = refl
same_direction _ _ e = absurd (false≢true e)

own_direction : (a : Side) → is_same_direction a a ≡ true
own_direction W = refl
own_direction E = refl
own_direction S = refl
own_direction N = refl

same_cell : (a b : CellId) → is_same_cell a b ≡ true → a ≡ b
same_cell a b e =
    let parts = and_parts _ _ e in
    let first = and_parts _ _ parts.0 in
    let tile = eqb-true a.tile b.tile first.0 in
    let i = eqb-true a.i b.i first.1 in
    let j = eqb-true a.j b.j parts.1 in
    λ s. record { tile = tile s; i = i s; j = j s }

own_cell : (a : CellId) → is_same_cell a a ≡ true
own_cell a = and_from _ _ (and_from _ _ (eq-eqb a.tile a.tile refl) (eq-eqb a.i a.i refl)) (eq-eqb a.j a.j refl)

pub same_side : (a b : CellSide) → is_same_side a b ≡ true → a ≡ b
same_side a b e =
    let parts = and_parts _ _ e in
    let cell = same_cell a.0 b.0 parts.0 in
    let direction = same_direction a.1 b.1 parts.1 in
    λ s. (cell s, direction s)

pub own_side : (a : CellSide) → is_same_side a a ≡ true
own_side a = and_from _ _ (own_cell a.0) (own_direction a.1)

-- sides that are one pass the test
pub are_same : (a b : CellSide) → a ≡ b → is_same_side a b ≡ true
are_same a b e = subst (λ (x : CellSide). is_same_side a x ≡ true) e (own_side a)

-- a tile past the end of the list has no sides
no_edge : (side : Side) → edge_length (record { nx = 0; ny = 0 }) side ≡ 0
no_edge W = refl
no_edge E = refl
no_edge S = refl
no_edge N = refl

pub tile_within : (tiles : List Tile) (t k : ℕ) (side : Side) → k < edge_length (tile_at tiles t) side → t < length tiles
tile_within tiles t k side within = elim (cases_lt t (length tiles)) [
  | inl h ↦ h
  | inr past ↦
      let none : edge_length (tile_at tiles t) side ≡ 0 = ap (λ (tile : Tile). edge_length tile side) (get_or_past tiles t (record { nx = 0; ny = 0 }) past) ∙ no_edge side in
      absurd (omega arith)
]

-- each side along an edge is a side of a cell, with none across it
edge_sides : (tiles : List Tile) (t k : ℕ) (side : Side) → IsTile (tile_at tiles t) → k < edge_length (tile_at tiles t) side → IsEdgeSide tiles (edge_side tiles t side k)
edge_sides tiles t k W sizes within = let nx = sizes.nx_least in record { cell = record { column = omega arith; row = within }; edge = refl }
edge_sides tiles t k E sizes within =
    let nx = sizes.nx_least in
    let last : (tile_at tiles t).nx - 1 + 1 ≡ (tile_at tiles t).nx = omega arith in
    record { cell = record { column = omega arith; row = within }; edge = cond-true _ _ _ (eq-eqb _ _ last) }
edge_sides tiles t k S sizes within = let ny = sizes.ny_least in record { cell = record { column = within; row = omega arith }; edge = refl }
edge_sides tiles t k N sizes within =
    let ny = sizes.ny_least in
    let last : (tile_at tiles t).ny - 1 + 1 ≡ (tile_at tiles t).ny = omega arith in
    record { cell = record { column = within; row = omega arith }; edge = cond-true _ _ _ (eq-eqb _ _ last) }

-- a range in the mosaic holds sides along an edge
pub span_sides : (tiles : List Tile) (span : Span) (k : ℕ) → All IsTile tiles → span_is_inside tiles span ≡ true → k ≤ span.hi → IsEdgeSide tiles (edge_side tiles span.tile span.side k)
span_sides tiles span k sizes inside upto =
    let parts = and_parts (leb span.lo span.hi) (ltb span.hi (edge_length (tile_at tiles span.tile) span.side)) inside in
    let high = ltb-true span.hi (edge_length (tile_at tiles span.tile) span.side) parts.1 in
    let below : k < edge_length (tile_at tiles span.tile) span.side = omega arith in
    edge_sides tiles span.tile k span.side (sizes span.tile _ (tile_within tiles span.tile k span.side below)) below
