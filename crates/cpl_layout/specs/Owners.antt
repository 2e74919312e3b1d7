-- Which piece a cell lies in, and where in it.
use Rattle.std.specs.Prelude.{◌≡◌, ℕ, ◌+◌, ◌-◌, ◌*◌, ◌^◌, ◌<◌, ◌≤◌, List}
use Rattle.cpl_mosaic.specs.declared.parts.CellId.{CellId}
use Rattle.cpl_mosaic.specs.declared.parts.Side.{Side}
use Rattle.cpl_mosaic.specs.declared.parts.Side.TheVariants.{W, E, S, N}
use Rattle.cpl_mosaic.specs.declared.parts.Tile.{Tile}
use Rattle.cpl_mosaic.specs.Sides.{tile_at, IsCellOf}
use Rattle.cpl_layout.specs.declared.piece.Piece.{Piece}
use Rattle.cpl_layout.specs.Layouts.{Cuts}
use Rattle.cpl_layout.specs.Pieces.{pieces_of, piece_of, piece_number, piece_in, owner_of}

-- a cell lies in a piece
pub record Holds (piece : Piece) (cell : CellId) : Type 0 where
  pub tile : cell.tile ≡ piece.tile
  pub west : piece.i0 ≤ cell.i
  pub east : cell.i < piece.i0 + piece.nx
  pub south : piece.j0 ≤ cell.j
  pub north : cell.j < piece.j0 + piece.ny

-- the sides of a piece: 1 to 1,024 cells, of 2^18 together at most
pub record IsPiece (piece : Piece) : Type 0 where
  pub nx_least : 1 ≤ piece.nx
  pub nx_most : piece.nx ≤ 1024
  pub ny_least : 1 ≤ piece.ny
  pub ny_most : piece.ny ≤ 1024
  pub cells : piece.nx * piece.ny ≤ 2 ^ 18

-- a piece lies in its tile
pub record IsPieceOf (tiles : List Tile) (piece : Piece) : Type 0 where
  pub shape : IsPiece piece
  pub east : piece.i0 + piece.nx ≤ (tile_at tiles piece.tile).nx
  pub north : piece.j0 + piece.ny ≤ (tile_at tiles piece.tile).ny

-- the cell at column i and row j of a piece
abbrev pub cell_in : Piece → ℕ × ℕ → CellId
cell_in piece place = record { tile = piece.tile; i = piece.i0 + place.0; j = piece.j0 + place.1 }

-- the column and the row of a cell in a piece
abbrev pub place_in : Piece → CellId → ℕ × ℕ
place_in piece cell = (cell.i - piece.i0, cell.j - piece.j0)

-- the place of the k-th cell along an edge of a piece: by row along W and E, by column along S and N
abbrev pub edge_place : Piece → Side → ℕ → ℕ × ℕ
edge_place piece W k = (0, k)
edge_place piece E k = (piece.nx - 1, k)
edge_place piece S k = (k, 0)
edge_place piece N k = (k, piece.ny - 1)

-- a column and a row of a piece
pub record IsPlaceOf (piece : Piece) (place : ℕ × ℕ) : Type 0 where
  pub column : place.0 < piece.nx
  pub row : place.1 < piece.ny

-- Each cell lies in exactly one piece, its owner. Pieces are numbered by tile, then row, then column.
pub record OwnersAgree (layout : Cuts) : Type 0 where
  pub below : (cell : CellId) → IsCellOf layout.tiles cell → owner_of layout cell < pieces_of layout
  pub holds : (cell : CellId) → IsCellOf layout.tiles cell → Holds (piece_of layout (owner_of layout cell)) cell
  pub only : (p : ℕ) (cell : CellId) → p < pieces_of layout → Holds (piece_of layout p) cell → p ≡ owner_of layout cell
  pub inside : (p : ℕ) → p < pieces_of layout → IsPieceOf layout.tiles (piece_of layout p)
  pub order : (t row column : ℕ) → row < layout.py → column < layout.px → piece_of layout (piece_number layout t row column) ≡ piece_in layout t row column
