-- The places of sides along the edges of tiles.
use Rattle.std.proofs.Common.{◌≡◌, add-one, refl, sym, ◌∙◌, ap, subst, eqb, cond, ℕ, zero, suc, ◌+◌, ◌*◌, ◌<◌, ◌≤◌, arith, List, [], ◌∷◌, length, get_or, take, Some, None, inl, inr}
use Rattle.std.specs.Prelude.{All, ◌^◌}
use Rattle.std.proofs.lemmas.Bool.{cases_Bool, cases_order, cases_lt, cond-false, eqb-true}
use Rattle.std.proofs.lemmas.List.{take_all, get_or_past, get_or_default}
use Rattle.std.proofs.lemmas.List.FromFn.{length-map-range_with_len, get_or-map-range_with_len}
use Rattle.cpl_mosaic.specs.declared.parts.Side.{Side}
use Rattle.cpl_mosaic.specs.declared.parts.Side.TheVariants.{W, E, S, N}
use Rattle.cpl_mosaic.specs.declared.parts.CellId.{CellId}
use Rattle.cpl_mosaic.specs.declared.parts.Tile.{Tile}
use Rattle.cpl_mosaic.specs.declared.offsets.TileOffset.{TileOffset}
use Rattle.cpl_mosaic.specs.Sides.{CellSide, tile_at, neighbour, IsCellOf, IsEdgeSide}
use Rattle.cpl_mosaic.specs.Contacts.{IsTile, AreTiles, cells_of}
use Rattle.cpl_mosaic.specs.Cells.{number_of}
use Rattle.cpl_mosaic.specs.Table.{sides_of, offset_at, offsets_of, place_in, place_of}

-- a cell's tile is in the list
pub tile_in : (tiles : List Tile) (cell : CellId) → IsCellOf tiles cell → cell.tile < length tiles
tile_in tiles cell is = elim (cases_lt cell.tile (length tiles)) [
  | inl h ↦ h
  | inr past ↦
      let none : (tile_at tiles cell.tile).nx ≡ 0 = ap (λ (tile : Tile). tile.nx) (get_or_past tiles cell.tile (record { nx = 0; ny = 0 }) past) in
      let column = is.column in
      absurd (omega arith)
]

-- one tile more
pub cells_more : (tiles : List Tile) (t : ℕ) → cells_of (take (suc t) tiles) ≡ cells_of (take t tiles) + (tile_at tiles t).nx * (tile_at tiles t).ny
cells_more [] zero = refl
cells_more [] (suc t) = refl
cells_more (tile ∷ tiles) zero = omega arith
cells_more (tile ∷ tiles) (suc t) = let h = cells_more tiles t in omega arith

pub sides_more : (tiles : List Tile) (t : ℕ) → sides_of (take (suc t) tiles) ≡ sides_of (take t tiles) + 2 * ((tile_at tiles t).nx + (tile_at tiles t).ny)
sides_more [] zero = refl
sides_more [] (suc t) = refl
sides_more (tile ∷ tiles) zero = omega arith
sides_more (tile ∷ tiles) (suc t) = let h = sides_more tiles t in omega arith

-- the first tiles have no more cells than all
pub cells_front : (tiles : List Tile) (t : ℕ) → cells_of (take t tiles) ≤ cells_of tiles
cells_front [] zero = omega arith
cells_front [] (suc t) = omega arith
cells_front (tile ∷ tiles) zero = omega arith
cells_front (tile ∷ tiles) (suc t) = let h = cells_front tiles t in omega arith

-- the edges of a tile come before those of each later one
pub sides_apart : (tiles : List Tile) (t u : ℕ) → t < u → sides_of (take t tiles) + 2 * ((tile_at tiles t).nx + (tile_at tiles t).ny) ≤ sides_of (take u tiles)
sides_apart tiles t zero h = absurd (omega arith)
sides_apart [] zero (suc u) h = omega arith
sides_apart [] (suc t) (suc u) h = omega arith
sides_apart (tile ∷ tiles) zero (suc u) h = omega arith
sides_apart (tile ∷ tiles) (suc t) (suc u) h = let rest = sides_apart tiles t u (omega arith) in omega arith

-- tiles have few sides along their edges
pub sides_small : (tiles : List Tile) → All IsTile tiles → sides_of tiles ≤ 4096 * length tiles
sides_small [] is = omega arith
sides_small (tile ∷ tiles) is =
    let first : IsTile tile = is 0 tile (omega arith) in
    let rest = sides_small tiles (λ k d h. is (suc k) d (omega arith)) in
    let nx = first.nx_most in
    let ny = first.ny_most in
    omega arith

-- a side's place on its tile is one of the tile's
pub on_tile : (tile : Tile) (cell : CellId) (side : Side) → cell.i < tile.nx → cell.j < tile.ny → place_in tile cell side < 2 * (tile.nx + tile.ny)
on_tile tile cell W column row = omega arith
on_tile tile cell E column row = omega arith
on_tile tile cell S column row = omega arith
on_tile tile cell N column row = omega arith

-- each place is below the number of sides
pub place_below : (tiles : List Tile) (a : CellSide) → IsCellOf tiles a.0 → place_of tiles a < sides_of tiles
place_below tiles a is =
    let t = a.0.tile in
    let last = sides_apart tiles a.0.tile (length tiles) (tile_in tiles a.0 is) in
    let all : sides_of (take (length tiles) tiles) ≡ sides_of tiles = ap sides_of (take_all (length tiles) tiles (omega arith)) in
    let own = on_tile (tile_at tiles a.0.tile) a.0 a.1 is.column is.row in
    omega arith

-- where a side along an edge lies
abbrev AtEdge : Tile → CellId → Side → Type 0
AtEdge tile cell W = cell.i ≡ 0
AtEdge tile cell E = cell.i + 1 ≡ tile.nx
AtEdge tile cell S = cell.j ≡ 0
AtEdge tile cell N = cell.j + 1 ≡ tile.ny

none_at : (a b : ℕ) (cell : CellId) → cond (eqb a b) None (Some cell) ≡ None → a ≡ b
none_at a b cell e = elim (cases_Bool (eqb a b)) [
  | inl same ↦ eqb-true a b same
  | inr apart ↦ absurd (let some = cond-false (eqb a b) None (Some cell) apart in cc)
]

at_edge : (tile : Tile) (cell : CellId) (side : Side) → neighbour tile cell side ≡ None → AtEdge tile cell side
at_edge tile cell W e = none_at cell.i 0 _ e
at_edge tile cell E e = none_at (cell.i + 1) tile.nx _ e
at_edge tile cell S e = none_at cell.j 0 _ e
at_edge tile cell N e = none_at (cell.j + 1) tile.ny _ e

-- two sides along the edges of one tile that have one place
abbrev Same : CellId → CellId → Side → Side → Type 0
Same c d s r = (c.i ≡ d.i) × (c.j ≡ d.j) × (s ≡ r)

same_on_tile : (tile : Tile) (c d : CellId) (s r : Side) → AtEdge tile c s → AtEdge tile d r → c.i < tile.nx → c.j < tile.ny → d.i < tile.nx → d.j < tile.ny → place_in tile c s ≡ place_in tile d r → Same c d s r
same_on_tile tile c d W W a b ci cj di dj e = (omega arith, omega arith, refl)
same_on_tile tile c d E E a b ci cj di dj e = (omega arith, omega arith, refl)
same_on_tile tile c d S S a b ci cj di dj e = (omega arith, omega arith, refl)
same_on_tile tile c d N N a b ci cj di dj e = (omega arith, omega arith, refl)
same_on_tile tile c d W E a b ci cj di dj e = absurd (omega arith)
same_on_tile tile c d W S a b ci cj di dj e = absurd (omega arith)
same_on_tile tile c d W N a b ci cj di dj e = absurd (omega arith)
same_on_tile tile c d E W a b ci cj di dj e = absurd (omega arith)
same_on_tile tile c d E S a b ci cj di dj e = absurd (omega arith)
same_on_tile tile c d E N a b ci cj di dj e = absurd (omega arith)
same_on_tile tile c d S W a b ci cj di dj e = absurd (omega arith)
same_on_tile tile c d S E a b ci cj di dj e = absurd (omega arith)
same_on_tile tile c d S N a b ci cj di dj e = absurd (omega arith)
same_on_tile tile c d N W a b ci cj di dj e = absurd (omega arith)
same_on_tile tile c d N E a b ci cj di dj e = absurd (omega arith)
same_on_tile tile c d N S a b ci cj di dj e = absurd (omega arith)

-- no place comes before another tile's
not_before : (tiles : List Tile) (a b : CellSide) → IsCellOf tiles a.0 → place_of tiles a ≡ place_of tiles b → a.0.tile < b.0.tile → ⊥
not_before tiles a b is e before =
    let apart = sides_apart tiles a.0.tile b.0.tile before in
    let own = on_tile (tile_at tiles a.0.tile) a.0 a.1 is.column is.row in
    omega arith

same_tile : (tiles : List Tile) (a b : CellSide) → IsCellOf tiles a.0 → IsCellOf tiles b.0 → place_of tiles a ≡ place_of tiles b → a.0.tile ≡ b.0.tile
same_tile tiles a b is_a is_b e = elim (cases_order a.0.tile b.0.tile) [
  | inl same ↦ same
  | inr (inl before) ↦ absurd (not_before tiles a b is_a e before)
  | inr (inr after) ↦ absurd (not_before tiles b a is_b (sym e) after)
]

-- sides along edges with one place are one side
pub same_place : (tiles : List Tile) (a b : CellSide) → IsEdgeSide tiles a → IsEdgeSide tiles b → place_of tiles a ≡ place_of tiles b → a ≡ b
same_place tiles a b is_a is_b e =
    let tile = same_tile tiles a b is_a.cell is_b.cell e in
    let at : tile_at tiles a.0.tile ≡ tile_at tiles b.0.tile = ap (tile_at tiles) tile in
    let before : sides_of (take a.0.tile tiles) ≡ sides_of (take b.0.tile tiles) = ap (λ (t : ℕ). sides_of (take t tiles)) tile in
    let place : place_in (tile_at tiles a.0.tile) a.0 a.1 ≡ place_in (tile_at tiles b.0.tile) b.0 b.1 = omega arith in
    let b_at : AtEdge (tile_at tiles a.0.tile) b.0 b.1 = subst (λ (x : Tile). AtEdge x b.0 b.1) (sym at) (at_edge (tile_at tiles b.0.tile) b.0 b.1 is_b.edge) in
    let column : b.0.i < (tile_at tiles a.0.tile).nx = subst (λ (x : Tile). b.0.i < x.nx) (sym at) is_b.cell.column in
    let row : b.0.j < (tile_at tiles a.0.tile).ny = subst (λ (x : Tile). b.0.j < x.ny) (sym at) is_b.cell.row in
    let there : place_in (tile_at tiles a.0.tile) a.0 a.1 ≡ place_in (tile_at tiles a.0.tile) b.0 b.1 = subst (λ (x : Tile). place_in (tile_at tiles a.0.tile) a.0 a.1 ≡ place_in x b.0 b.1) (sym at) place in
    let same = same_on_tile (tile_at tiles a.0.tile) a.0 b.0 a.1 b.1 (at_edge (tile_at tiles a.0.tile) a.0 a.1 is_a.edge) b_at is_a.cell.column is_a.cell.row column row there in
    λ s. (record { tile = tile s; i = same.0 s; j = same.1 s }, same.2 s)

-- the offsets: how many they are, and each
pub count_offsets : (tiles : List Tile) (offsets : List TileOffset) → offsets ≡ offsets_of tiles → length offsets ≡ length tiles + 1
count_offsets tiles offsets is = ap length is ∙ length-map-range_with_len (offset_at tiles) 0 (length tiles + 1)

pub offset_read : (tiles : List Tile) (offsets : List TileOffset) (t : ℕ) (d : TileOffset) → offsets ≡ offsets_of tiles → t ≤ length tiles → get_or offsets t d ≡ offset_at tiles t
offset_read tiles offsets t d is upto =
    ap (λ (l : List TileOffset). get_or l t d) is ∙ get_or-map-range_with_len (offset_at tiles) 0 (length tiles + 1) t t d (omega arith) (omega arith)

-- the totals stand after the offsets
pub totals : (tiles : List Tile) → offset_at tiles (length tiles) ≡ record { cells = cells_of tiles; sides = sides_of tiles }
totals tiles =
    let all = take_all (length tiles) tiles (omega arith) in
    λ s. record { cells = cells_of (all s); sides = sides_of (all s) }

-- with a tile more there are still few cells and few sides
pub cells_fit : (tiles : List Tile) (t : ℕ) → AreTiles tiles → cells_of (take t tiles) + (tile_at tiles t).nx * (tile_at tiles t).ny ≤ 2 ^ 18
cells_fit tiles t sizes =
    let more = cells_more tiles t in
    let front = cells_front tiles (suc t) in
    let most = sizes.cells in
    omega arith

pub sides_fit : (tiles : List Tile) (t : ℕ) → AreTiles tiles → t < length tiles → sides_of (take t tiles) + 2 * ((tile_at tiles t).nx + (tile_at tiles t).ny) ≤ 65536
sides_fit tiles t sizes below =
    let apart = sides_apart tiles t (length tiles) below in
    let all : sides_of (take (length tiles) tiles) ≡ sides_of tiles = ap sides_of (take_all (length tiles) tiles (omega arith)) in
    let small = sides_small tiles sizes.each in
    let most = sizes.most in
    omega arith

-- the offset of the next tile
pub offset_more : (tiles : List Tile) (t : ℕ) → offset_at tiles (t + 1) ≡ record { cells = cells_of (take t tiles) + (tile_at tiles t).nx * (tile_at tiles t).ny; sides = sides_of (take t tiles) + 2 * ((tile_at tiles t).nx + (tile_at tiles t).ny) }
offset_more tiles t =
    let next = add-one t in
    let cells = ap (λ (n : ℕ). cells_of (take n tiles)) next ∙ cells_more tiles t in
    let sides = ap (λ (n : ℕ). sides_of (take n tiles)) next ∙ sides_more tiles t in
    λ s. record { cells = cells s; sides = sides s }

-- a cell's number, from the offset of its tile
pub number_is : (tiles : List Tile) (offsets : List TileOffset) (cell : CellId) (offset : TileOffset) (tile : Tile) → offsets ≡ offsets_of tiles → IsCellOf tiles cell → offset ≡ get_or offsets cell.tile offset → tile ≡ get_or tiles cell.tile tile → offset.cells + cell.j * tile.nx + cell.i ≡ number_of tiles cell
number_is tiles offsets cell offset tile begin is offset_is tile_is =
    let below = tile_in tiles cell is in
    let before : offset.cells ≡ cells_of (take cell.tile tiles) = ap (λ (s : TileOffset). s.cells) (offset_is ∙ offset_read tiles offsets cell.tile offset begin (omega arith)) in
    let rows : cell.j * tile.nx ≡ cell.j * (tile_at tiles cell.tile).nx = ap (λ (t : Tile). cell.j * t.nx) (tile_is ∙ get_or_default tiles cell.tile tile (record { nx = 0; ny = 0 }) below) in
    omega arith
