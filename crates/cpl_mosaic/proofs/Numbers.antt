-- Cells and their numbers invert each other.
use Rattle.std.proofs.Common.{◌≡◌, ◌∙◌, ap, ℕ, zero, suc, ◌+◌, ◌-◌, ◌*◌, ◌/◌, ◌%◌, ◌<◌, ◌≤◌, arith, List, [], ◌∷◌, take, inl, inr}
use Rattle.std.proofs.lemmas.Bool.{cond-true, cond-false, cases_lt, lt-ltb, le-ltb}
use Rattle.std.proofs.lemmas.Nat.{mul-add-lt, div-mul-add, mod-mul-add, mod_below, div_below, div-add-mod'}
use Rattle.std.proofs.Math.Nat.{mul_comm}
use Rattle.cpl_mosaic.specs.declared.parts.Tile.{Tile}
use Rattle.cpl_mosaic.specs.declared.parts.CellId.{CellId}
use Rattle.cpl_mosaic.specs.Sides.{tile_at, IsCellOf}
use Rattle.cpl_mosaic.specs.Contacts.{AreTiles, cells_of}
use Rattle.cpl_mosaic.specs.Cells.{number_of, cell_from, NumbersAgree}

-- the cell in column i and row j of a tile
abbrev cell_at : ℕ → ℕ → ℕ → CellId
cell_at t i j = record { tile = t; i = i; j = j }

-- the number of a place in the tiles from the t-th on
abbrev place : List Tile → ℕ → ℕ → ℕ → ℕ
place tiles k i j = cells_of (take k tiles) + (j * (tile_at tiles k).nx + i)

-- a number in the first tile, and one past it
cell_from_here : (t : ℕ) (tile : Tile) (tiles : List Tile) (n : ℕ) → n < tile.nx * tile.ny → cell_from t (tile ∷ tiles) n ≡ cell_at t (n % tile.nx) (n / tile.nx)
cell_from_here t tile tiles n within = cond-true _ _ _ (lt-ltb _ _ within)

cell_from_past : (t : ℕ) (tile : Tile) (tiles : List Tile) (n : ℕ) → tile.nx * tile.ny ≤ n → cell_from t (tile ∷ tiles) n ≡ cell_from (t + 1) tiles (n - tile.nx * tile.ny)
cell_from_past t tile tiles n past = cond-false _ _ _ (le-ltb _ _ past)

-- the number of a place is below the count of cells
place_below : (tiles : List Tile) (k i j : ℕ) → i < (tile_at tiles k).nx → j < (tile_at tiles k).ny → place tiles k i j < cells_of tiles
place_below [] k i j column row = absurd (omega arith)
place_below (tile ∷ tiles) zero i j column row = omega (arith, mul-add-lt j tile.nx i tile.ny row column)
place_below (tile ∷ tiles) (suc k) i j column row = let h = place_below tiles k i j column row in omega arith

-- the cell of the number of a place in the first tile
cell_from_first : (t : ℕ) (tile : Tile) (tiles : List Tile) (i j : ℕ) → i < tile.nx → j < tile.ny → cell_from t (tile ∷ tiles) (j * tile.nx + i) ≡ cell_at t i j
cell_from_first t tile tiles i j column row =
    let col = mod-mul-add j tile.nx i column in
    let line = div-mul-add j tile.nx i column in
    cell_from_here t tile tiles (j * tile.nx + i) (mul-add-lt j tile.nx i tile.ny row column)
    ∙ (cc)

-- the cell of the number of a place
cell_from-place : (t : ℕ) (tiles : List Tile) (k i j : ℕ) → i < (tile_at tiles k).nx → j < (tile_at tiles k).ny → cell_from t tiles (place tiles k i j) ≡ cell_at (t + k) i j
cell_from-place t [] k i j column row = absurd (omega arith)
cell_from-place t (tile ∷ tiles) zero i j column row =
    let first : place (tile ∷ tiles) 0 i j ≡ j * tile.nx + i = omega arith in
    let same : t ≡ t + 0 = omega arith in
    ap (cell_from t (tile ∷ tiles)) first ∙ cell_from_first t tile tiles i j column row ∙ ap (λ s. cell_at s i j) same
cell_from-place t (tile ∷ tiles) (suc k) i j column row =
    let past : tile.nx * tile.ny ≤ place (tile ∷ tiles) (suc k) i j = omega arith in
    let rest : place (tile ∷ tiles) (suc k) i j - tile.nx * tile.ny ≡ place tiles k i j = omega arith in
    let same : (t + 1) + k ≡ t + suc k = omega arith in
    cell_from_past t tile tiles (place (tile ∷ tiles) (suc k) i j) past
    ∙ ap (cell_from (t + 1) tiles) rest
    ∙ cell_from-place (t + 1) tiles k i j column row
    ∙ ap (λ s. cell_at s i j) same

-- the cell stands in the tiles from the t-th on, at this number
record Found (t : ℕ) (tiles : List Tile) (n : ℕ) (cell : CellId) : Type 0 where
  after : t ≤ cell.tile
  column : cell.i < (tile_at tiles (cell.tile - t)).nx
  row : cell.j < (tile_at tiles (cell.tile - t)).ny
  same : place tiles (cell.tile - t) cell.i cell.j ≡ n

wide : (n a b : ℕ) → n < a * b → 0 < a
wide n zero b h = absurd (omega arith)
wide n (suc a) b h = omega arith

-- the number is in the first tile
found_here : (t : ℕ) (tile : Tile) (tiles : List Tile) (n : ℕ) → n < tile.nx * tile.ny → Found t (tile ∷ tiles) n (cell_at t (n % tile.nx) (n / tile.nx))
found_here t tile tiles n within =
    let zeroth : t - t ≡ 0 = omega arith in
    let some : 0 < tile.nx = wide n tile.nx tile.ny within in
    record {
      after = omega arith;
      column = rw zeroth (mod_below n tile.nx some);
      row = rw zeroth (div_below n tile.nx tile.ny some (rw (mul_comm tile.ny tile.nx) within));
      same = rw zeroth (omega (arith, div-add-mod' n tile.nx));
    }

-- the number is in a later tile
found_later : (t : ℕ) (tile : Tile) (tiles : List Tile) (n : ℕ) (cell : CellId) → tile.nx * tile.ny ≤ n → Found (t + 1) tiles (n - tile.nx * tile.ny) cell → Found t (tile ∷ tiles) n cell
found_later t tile tiles n cell past found =
    let after = found.after in
    let same = found.same in
    let next : cell.tile - t ≡ suc (cell.tile - (t + 1)) = omega arith in
    record {
      after = omega arith;
      column = rw next found.column;
      row = rw next found.row;
      same = rw next (omega arith);
    }

-- the cell of a number has that number
found_from : (t : ℕ) (tiles : List Tile) (n : ℕ) → n < cells_of tiles → Found t tiles n (cell_from t tiles n)
found_from t [] n within = absurd (omega arith)
found_from t (tile ∷ tiles) n within = elim (cases_lt n (tile.nx * tile.ny)) [
  | inl here ↦ rw (cell_from_here t tile tiles n here) (found_here t tile tiles n here)
  | inr past ↦
      let rest : n - tile.nx * tile.ny < cells_of tiles = omega arith in
      rw (cell_from_past t tile tiles n past) (found_later t tile tiles n _ past (found_from (t + 1) tiles (n - tile.nx * tile.ny) rest))
]

-- the same in all tiles
found_in : (tiles : List Tile) (n : ℕ) (cell : CellId) → Found 0 tiles n cell → IsCellOf tiles cell × (number_of tiles cell ≡ n)
found_in tiles n cell found =
    let same : cell.tile - 0 ≡ cell.tile = omega arith in
    (record { column = rw same at found.column; row = rw same at found.row }, rw same at found.same)

-- numbers and cells invert each other, in tiles of any sizes
pub numbers_agree : (tiles : List Tile) → AreTiles tiles → NumbersAgree tiles
numbers_agree tiles are = record {
  below = λ cell is. place_below tiles cell.tile cell.i cell.j is.column is.row;
  cell_number = λ cell is.
      let same : 0 + cell.tile ≡ cell.tile = omega arith in
      cell_from-place 0 tiles cell.tile cell.i cell.j is.column is.row ∙ ap (λ t. cell_at t cell.i cell.j) same;
  is_cell = λ n within. (found_in tiles n _ (found_from 0 tiles n within)).0;
  number_cell = λ n within. (found_in tiles n _ (found_from 0 tiles n within)).1;
}
