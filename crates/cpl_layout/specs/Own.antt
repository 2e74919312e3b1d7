-- The cells of each piece by their numbers in whole order, and sums over them.
use Rattle.std.specs.Prelude.{◌≡◌, ℕ, ◌+◌, ◌-◌, ◌*◌, ◌/◌, ◌%◌, ◌<◌, List, map, length, ℤ, slice_index}
use Rattle.std.specs.List.{range_with_len, flat_map}
use Rattle.cpl_fixed.specs.Totals.{total_of}
use Rattle.cpl_mosaic.specs.declared.parts.CellId.{CellId}
use Rattle.cpl_mosaic.specs.Contacts.{cells_of}
use Rattle.cpl_mosaic.specs.Cells.{number_of, cell_of}
use Rattle.cpl_layout.specs.declared.piece.Piece.{Piece}
use Rattle.cpl_layout.specs.Layouts.{Cuts}
use Rattle.cpl_layout.specs.Pieces.{pieces_of, piece_of, owner_of}
use Rattle.cpl_layout.specs.Owners.{cell_in}

-- the number of the cell in column i and row j of a piece
abbrev pub number_in : Cuts → Piece → ℕ → ℕ → ℕ
number_in layout piece i j = number_of layout.tiles (cell_in piece (i, j))

-- the numbers of the cells in a row of a piece
abbrev pub row_cells : Cuts → Piece → ℕ → List ℕ
row_cells layout piece j = map (λ i. number_in layout piece i j) (range_with_len 0 piece.nx)

-- the numbers of the cells of a piece, row by row
unfoldable pub own_cells : Cuts → ℕ → List ℕ
own_cells layout p = flat_map (row_cells layout (piece_of layout p)) (range_with_len 0 (piece_of layout p).ny)

-- where a cell stands among those of a piece, row by row
abbrev pub place_number : Piece → CellId → ℕ
place_number piece cell = (cell.j - piece.j0) * piece.nx + (cell.i - piece.i0)

-- where it stands among those of its owner
abbrev pub own_place : Cuts → CellId → ℕ
own_place layout cell = place_number (piece_of layout (owner_of layout cell)) cell

-- a cell's number stands at place q of piece p
pub record IsOwnAt (layout : Cuts) (p q n : ℕ) : Type 0 where
  pub piece : p < pieces_of layout
  pub within : q < length (own_cells layout p)
  pub is : slice_index (own_cells layout p) q ≡ n

-- The cells of the pieces. A piece has a cell at each of its places, row by row. Each cell stands in exactly one piece, its
-- owner, and there once. So a sum over all cells is the sum over the pieces of the sums over their own cells, and a sum over
-- a piece's own cells is the sum over its rows.
pub record OwnCellsAgree (layout : Cuts) : Type 0 where
  pub count : (p : ℕ) → length (own_cells layout p) ≡ (piece_of layout p).nx * (piece_of layout p).ny
  pub place : (p q : ℕ) → q < length (own_cells layout p) → slice_index (own_cells layout p) q ≡ number_in layout (piece_of layout p) (q % (piece_of layout p).nx) (q / (piece_of layout p).nx)
  pub each : (n : ℕ) → n < cells_of layout.tiles → let cell = cell_of layout.tiles n in IsOwnAt layout (owner_of layout cell) (own_place layout cell) n
  pub only : (p q n : ℕ) → IsOwnAt layout p q n → let cell = cell_of layout.tiles n in (n < cells_of layout.tiles) × (p ≡ owner_of layout cell) × (q ≡ own_place layout cell)
  pub sums : (f : ℕ → ℤ) → total_of (map f (range_with_len 0 (cells_of layout.tiles))) ≡ total_of (map (λ p. total_of (map f (own_cells layout p))) (range_with_len 0 (pieces_of layout)))
  pub rows : (p : ℕ) (f : ℕ → ℤ) → total_of (map f (own_cells layout p)) ≡ total_of (map (λ j. total_of (map f (row_cells layout (piece_of layout p) j))) (range_with_len 0 (piece_of layout p).ny))
