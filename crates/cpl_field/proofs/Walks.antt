-- What lies some steps out through a side of a cell of a piece: what the walk of so many steps leads to.
use Rattle.std.proofs.Common.{◌≡◌, ◌∙◌, refl, sym, ap, ℕ, zero, suc, ◌+◌, ◌-◌, ◌<◌, ◌≤◌, arith, inl, inr, Bool, true, false, Option, Some, None}
use Rattle.std.specs.Prelude.{ℤ, nat_le, nat_lt, ◌==◌, if◌then◌else◌}
use Rattle.std.proofs.lemmas.Bool.{cases_lt, eqb-true, leb-true, leb-false, ltb-true, ltb-false}
use Rattle.cpl_mosaic.specs.declared.parts.Side.{Side}
use Rattle.cpl_mosaic.specs.declared.parts.Side.TheVariants.{W, E, S, N}
use Rattle.cpl_mosaic.specs.declared.parts.CellId.{CellId}
use Rattle.cpl_mosaic.specs.Lists.{MosaicLists}
use Rattle.cpl_mosaic.specs.Sides.{CellSide, tile_at, neighbour, opposite}
use Rattle.cpl_mosaic.specs.Contacts.{all_joins}
use Rattle.cpl_mosaic.specs.Mates.{mate_of, or_joined, one_further, walk_of}
use Rattle.cpl_mosaic.proofs.Neighbours.{opposite_twice}
use Rattle.cpl_layout.specs.declared.piece.Piece.{Piece}
use Rattle.cpl_layout.specs.Owners.{IsPlaceOf, IsPieceOf, cell_in, edge_place}
use Rattle.cpl_field.specs.Spots.{FieldNumbers, Spot, CellAt, HoleAt, IsSpot, number_at, out_from, stepped}

-- how many cells of a piece lie beyond a place toward a side
abbrev pub ahead : Piece → (i j : ℕ) → Side → ℕ
ahead piece i j W = i
ahead piece i j E = piece.nx - 1 - i
ahead piece i j S = j
ahead piece i j N = piece.ny - 1 - j

-- what a field of a piece has: at each cell what is seen there, and in each hole what is seen where its walk leads
pub record Sees (mosaic : MosaicLists) (piece : Piece) (seen : Option CellSide → ℤ) (f : FieldNumbers) : Type 0 where
  pub nx : f.nx ≡ piece.nx
  pub ny : f.ny ≡ piece.ny
  pub cells : (i j : ℕ) (side : Side) → IsPlaceOf piece (i, j) → number_at f (CellAt i j) ≡ seen (Some (cell_in piece (i, j), side))
  pub holes : (side : Side) (k d : ℕ) → IsSpot f (HoleAt side k d) → number_at f (HoleAt side k d) ≡ seen (walk_of mosaic (d - 1) (cell_in piece (edge_place piece side k), side))

cell_if : (b : Bool) (cell hole : Spot) → (b ≡ false → ⊥) → (if b then cell else hole) ≡ cell
cell_if true cell hole never = refl
cell_if false cell hole never = absurd (never refl)

hole_if : (b : Bool) (cell hole : Spot) → (b ≡ true → ⊥) → (if b then cell else hole) ≡ hole
hole_if true cell hole never = absurd (never refl)
hole_if false cell hole never = refl

some_if : (b : Bool) (cell : CellId) → (b ≡ true → ⊥) → (if b then None else Some cell) ≡ Some cell
some_if true cell never = absurd (never refl)
some_if false cell never = refl

module _ (mosaic : MosaicLists) (piece : Piece) (is : IsPieceOf mosaic.tiles piece) where
  -- inside the tile the mate is the neighbour
  mate_is : (cell next : CellId) (side : Side) → neighbour (tile_at mosaic.tiles cell.tile) cell side ≡ Some next → mate_of mosaic (cell, side) ≡ Some (next, opposite side)
  mate_is cell next side e = ap (λ (o : Option CellId). or_joined o side (all_joins mosaic.tiles mosaic.contacts) (cell, side)) e

  -- one step inside the piece
  step : (i j : ℕ) (side : Side) → IsPlaceOf piece (i, j) → 1 ≤ ahead piece i j side → mate_of mosaic (cell_in piece (i, j), side) ≡ Some (cell_in piece (stepped i j side 1), opposite side)
  step i j W place some =
      let same : piece.i0 + i - 1 ≡ piece.i0 + (i - 1) = omega arith in
      mate_is (cell_in piece (i, j)) (cell_in piece (i - 1, j)) W
      (some_if (piece.i0 + i == 0) (record { tile = piece.tile; i = piece.i0 + i - 1; j = piece.j0 + j }) (λ t. let z = eqb-true (piece.i0 + i) 0 t in absurd (omega arith))
      ∙ (λ t. Some (record { tile = piece.tile; i = same t; j = piece.j0 + j })))
  step i j E place some =
      let wide = is.east in
      let column = place.column in
      let same : piece.i0 + i + 1 ≡ piece.i0 + (i + 1) = omega arith in
      mate_is (cell_in piece (i, j)) (cell_in piece (i + 1, j)) E
      (some_if (piece.i0 + i + 1 == (tile_at mosaic.tiles piece.tile).nx) (record { tile = piece.tile; i = piece.i0 + i + 1; j = piece.j0 + j }) (λ t. let z = eqb-true (piece.i0 + i + 1) (tile_at mosaic.tiles piece.tile).nx t in absurd (omega arith))
      ∙ (λ t. Some (record { tile = piece.tile; i = same t; j = piece.j0 + j })))
  step i j S place some =
      let same : piece.j0 + j - 1 ≡ piece.j0 + (j - 1) = omega arith in
      mate_is (cell_in piece (i, j)) (cell_in piece (i, j - 1)) S
      (some_if (piece.j0 + j == 0) (record { tile = piece.tile; i = piece.i0 + i; j = piece.j0 + j - 1 }) (λ t. let z = eqb-true (piece.j0 + j) 0 t in absurd (omega arith))
      ∙ (λ t. Some (record { tile = piece.tile; i = piece.i0 + i; j = same t })))
  step i j N place some =
      let high = is.north in
      let row = place.row in
      let same : piece.j0 + j + 1 ≡ piece.j0 + (j + 1) = omega arith in
      mate_is (cell_in piece (i, j)) (cell_in piece (i, j + 1)) N
      (some_if (piece.j0 + j + 1 == (tile_at mosaic.tiles piece.tile).ny) (record { tile = piece.tile; i = piece.i0 + i; j = piece.j0 + j + 1 }) (λ t. let z = eqb-true (piece.j0 + j + 1) (tile_at mosaic.tiles piece.tile).ny t in absurd (omega arith))
      ∙ (λ t. Some (record { tile = piece.tile; i = piece.i0 + i; j = same t })))

  -- a step after k + 1 steps inside the piece
  next_step : (k i j : ℕ) (side : Side) → IsPlaceOf piece (i, j) → suc k < ahead piece i j side → mate_of mosaic (cell_in piece (stepped i j side (k + 1)), side) ≡ Some (cell_in piece (stepped i j side (suc k + 1)), opposite side)
  next_step k i j W place more =
      let column = place.column in
      let same : i - (k + 1) - 1 ≡ i - (suc k + 1) = omega arith in
      step (i - (k + 1)) j W (record { column = omega arith; row = place.row }) (omega arith) ∙ (λ t. Some (cell_in piece (same t, j), E))
  next_step k i j E place more =
      let same : i + (k + 1) + 1 ≡ i + (suc k + 1) = omega arith in
      step (i + (k + 1)) j E (record { column = omega arith; row = place.row }) (omega arith) ∙ (λ t. Some (cell_in piece (same t, j), W))
  next_step k i j S place more =
      let row = place.row in
      let same : j - (k + 1) - 1 ≡ j - (suc k + 1) = omega arith in
      step i (j - (k + 1)) S (record { column = place.column; row = omega arith }) (omega arith) ∙ (λ t. Some (cell_in piece (i, same t), N))
  next_step k i j N place more =
      let same : j + (k + 1) + 1 ≡ j + (suc k + 1) = omega arith in
      step i (j + (k + 1)) N (record { column = place.column; row = omega arith }) (omega arith) ∙ (λ t. Some (cell_in piece (i, same t), S))

  -- a walk inside the piece
  walk_on : (k i j : ℕ) (side : Side) → IsPlaceOf piece (i, j) → k < ahead piece i j side → walk_of mosaic k (cell_in piece (i, j), side) ≡ Some (cell_in piece (stepped i j side (k + 1)), opposite side)
  walk_on zero i j side place more = step i j side place (omega arith)
  walk_on (suc k) i j side place more =
      ap (one_further mosaic) (walk_on k i j side place (omega arith))
      ∙ ap (λ (s : Side). mate_of mosaic (cell_in piece (stepped i j side (k + 1)), s)) (opposite_twice side)
      ∙ next_step k i j side place more

  no_step : (i j : ℕ) (side : Side) → stepped i j side 0 ≡ (i, j)
  no_step i j W = let e : i - 0 ≡ i = omega arith in λ t. (e t, j)
  no_step i j E = let e : i + 0 ≡ i = omega arith in λ t. (e t, j)
  no_step i j S = let e : j - 0 ≡ j = omega arith in λ t. (i, e t)
  no_step i j N = let e : j + 0 ≡ j = omega arith in λ t. (i, e t)

  -- a longer walk goes on from where k steps lead
  goes_on : (k m i j : ℕ) (side : Side) → IsPlaceOf piece (i, j) → k ≤ ahead piece i j side → walk_of mosaic (k + m) (cell_in piece (i, j), side) ≡ walk_of mosaic m (cell_in piece (stepped i j side k), side)
  goes_on zero zero i j side place few = ap (λ (p : ℕ × ℕ). mate_of mosaic (cell_in piece p, side)) (sym (no_step i j side))
  goes_on (suc k) zero i j side place few =
      let same : suc k + 0 ≡ suc k = omega arith in
      let next : k + 1 ≡ suc k = omega arith in
      ap (λ (n : ℕ). walk_of mosaic n (cell_in piece (i, j), side)) same
      ∙ ap (one_further mosaic) (walk_on k i j side place (omega arith))
      ∙ (λ t. mate_of mosaic (cell_in piece (stepped i j side (next t)), opposite_twice side t))
  goes_on k (suc m) i j side place few =
      let same : k + suc m ≡ suc (k + m) = omega arith in
      ap (λ (n : ℕ). walk_of mosaic n (cell_in piece (i, j), side)) same ∙ ap (one_further mosaic) (goes_on k m i j side place few)

  -- d steps inside the piece, and d steps out of it
  pub walk_inside : (i j : ℕ) (side : Side) (d : ℕ) → IsPlaceOf piece (i, j) → 1 ≤ d → d ≤ ahead piece i j side → walk_of mosaic (d - 1) (cell_in piece (i, j), side) ≡ Some (cell_in piece (stepped i j side d), opposite side)
  walk_inside i j side d place some few =
      let same : d - 1 + 1 ≡ d = omega arith in
      walk_on (d - 1) i j side place (omega arith) ∙ ap (λ (n : ℕ). Some (cell_in piece (stepped i j side n), opposite side)) same

  pub walk_outside : (i j : ℕ) (side : Side) (d : ℕ) → IsPlaceOf piece (i, j) → ahead piece i j side < d
      → walk_of mosaic (d - 1) (cell_in piece (i, j), side) ≡ walk_of mosaic (d - ahead piece i j side - 1) (cell_in piece (stepped i j side (ahead piece i j side)), side)
  walk_outside i j side d place past =
      let same : d - 1 ≡ ahead piece i j side + (d - ahead piece i j side - 1) = omega arith in
      ap (λ (n : ℕ). walk_of mosaic n (cell_in piece (i, j), side)) same ∙ goes_on (ahead piece i j side) (d - ahead piece i j side - 1) i j side place (omega arith)

  module _ (seen : Option CellSide → ℤ) (f : FieldNumbers) (sees : Sees mosaic piece seen f) where
    -- around each cell too it has what is seen where the walks lead
    pub out_sees : (i j : ℕ) (side : Side) (d : ℕ) → IsPlaceOf piece (i, j) → 1 ≤ d → d ≤ f.width → number_at f (out_from f i j side d) ≡ seen (walk_of mosaic (d - 1) (cell_in piece (i, j), side))
    out_sees i j W d place some most = let row = place.row in let column = place.column in let nx = sees.nx in let ny = sees.ny in elim (cases_lt i d) [
      | inl past ↦
          let edge : i - i ≡ 0 = omega arith in
          ap (number_at f) (hole_if (nat_le d i) (CellAt (i - d) j) (HoleAt W j (d - i)) (λ t. let l = leb-true d i t in absurd (omega arith)))
          ∙ sees.holes W j (d - i) (omega arith, omega arith, omega arith)
          ∙ ap seen (sym (walk_outside i j W d place past ∙ ap (λ (m : ℕ). walk_of mosaic (d - i - 1) (cell_in piece (m, j), W)) edge))
      | inr within ↦
          ap (number_at f) (cell_if (nat_le d i) (CellAt (i - d) j) (HoleAt W j (d - i)) (λ t. let l = leb-false d i t in absurd (omega arith)))
          ∙ sees.cells (i - d) j E (record { column = omega arith; row = row })
          ∙ ap seen (sym (walk_inside i j W d place some within))
    ]
    out_sees i j E d place some most = let row = place.row in let column = place.column in let nx = sees.nx in let ny = sees.ny in elim (cases_lt (piece.nx - 1 - i) d) [
      | inl past ↦
          let edge : i + (piece.nx - 1 - i) ≡ piece.nx - 1 = omega arith in
          let rest : d - (piece.nx - 1 - i) - 1 ≡ i + d + 1 - f.nx - 1 = omega arith in
          ap (number_at f) (hole_if (nat_lt (i + d) f.nx) (CellAt (i + d) j) (HoleAt E j (i + d + 1 - f.nx)) (λ t. let l = ltb-true (i + d) f.nx t in absurd (omega arith)))
          ∙ sees.holes E j (i + d + 1 - f.nx) (omega arith, omega arith, omega arith)
          ∙ ap seen (sym (walk_outside i j E d place past ∙ (λ t. walk_of mosaic (rest t) (cell_in piece (edge t, j), E))))
      | inr within ↦
          ap (number_at f) (cell_if (nat_lt (i + d) f.nx) (CellAt (i + d) j) (HoleAt E j (i + d + 1 - f.nx)) (λ t. let l = ltb-false (i + d) f.nx t in absurd (omega arith)))
          ∙ sees.cells (i + d) j W (record { column = omega arith; row = row })
          ∙ ap seen (sym (walk_inside i j E d place some within))
    ]
    out_sees i j S d place some most = let row = place.row in let column = place.column in let nx = sees.nx in let ny = sees.ny in elim (cases_lt j d) [
      | inl past ↦
          let edge : j - j ≡ 0 = omega arith in
          ap (number_at f) (hole_if (nat_le d j) (CellAt i (j - d)) (HoleAt S i (d - j)) (λ t. let l = leb-true d j t in absurd (omega arith)))
          ∙ sees.holes S i (d - j) (omega arith, omega arith, omega arith)
          ∙ ap seen (sym (walk_outside i j S d place past ∙ ap (λ (m : ℕ). walk_of mosaic (d - j - 1) (cell_in piece (i, m), S)) edge))
      | inr within ↦
          ap (number_at f) (cell_if (nat_le d j) (CellAt i (j - d)) (HoleAt S i (d - j)) (λ t. let l = leb-false d j t in absurd (omega arith)))
          ∙ sees.cells i (j - d) N (record { column = column; row = omega arith })
          ∙ ap seen (sym (walk_inside i j S d place some within))
    ]
    out_sees i j N d place some most = let row = place.row in let column = place.column in let nx = sees.nx in let ny = sees.ny in elim (cases_lt (piece.ny - 1 - j) d) [
      | inl past ↦
          let edge : j + (piece.ny - 1 - j) ≡ piece.ny - 1 = omega arith in
          let rest : d - (piece.ny - 1 - j) - 1 ≡ j + d + 1 - f.ny - 1 = omega arith in
          ap (number_at f) (hole_if (nat_lt (j + d) f.ny) (CellAt i (j + d)) (HoleAt N i (j + d + 1 - f.ny)) (λ t. let l = ltb-true (j + d) f.ny t in absurd (omega arith)))
          ∙ sees.holes N i (j + d + 1 - f.ny) (omega arith, omega arith, omega arith)
          ∙ ap seen (sym (walk_outside i j N d place past ∙ (λ t. walk_of mosaic (rest t) (cell_in piece (i, edge t), N))))
      | inr within ↦
          ap (number_at f) (cell_if (nat_lt (j + d) f.ny) (CellAt i (j + d)) (HoleAt N i (j + d + 1 - f.ny)) (λ t. let l = ltb-false (j + d) f.ny t in absurd (omega arith)))
          ∙ sees.cells i (j + d) S (record { column = column; row = omega arith })
          ∙ ap seen (sym (walk_inside i j N d place some within))
    ]
