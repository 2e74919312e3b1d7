-- The pieces of a layout, and the owner of a cell.
use Rattle.std.specs.Prelude.{ℕ, ◌+◌, ◌*◌, ◌/◌, ◌%◌, length}
use Rattle.cpl_mosaic.specs.declared.parts.CellId.{CellId}
use Rattle.cpl_mosaic.specs.Sides.{tile_at}
use Rattle.cpl_layout.specs.declared.piece.Piece.{Piece}
use Rattle.cpl_layout.specs.Extents.{extent_start, extent_length, part_of}
use Rattle.cpl_layout.specs.Layouts.{Cuts}

abbrev pub pieces_of : Cuts → ℕ
pieces_of layout = length layout.tiles * layout.px * layout.py

-- the number of the piece in a row and a column of pieces of a tile: by tile, then row, then column
abbrev pub piece_number : Cuts → ℕ → ℕ → ℕ → ℕ
piece_number layout t row column = (t * layout.py + row) * layout.px + column

-- the piece in a row and a column of pieces of a tile
abbrev pub piece_in : Cuts → ℕ → ℕ → ℕ → Piece
piece_in layout t row column = record {
  tile = t;
  i0 = extent_start (tile_at layout.tiles t).nx layout.px column;
  nx = extent_length (tile_at layout.tiles t).nx layout.px column;
  j0 = extent_start (tile_at layout.tiles t).ny layout.py row;
  ny = extent_length (tile_at layout.tiles t).ny layout.py row;
}

-- the piece of a number
unfoldable pub piece_of : Cuts → ℕ → Piece
piece_of layout p = piece_in layout (p / layout.px / layout.py) (p / layout.px % layout.py) (p % layout.px)

-- the number of the piece in whose row and column of pieces a cell lies
unfoldable pub owner_of : Cuts → CellId → ℕ
owner_of layout cell =
    piece_number layout cell.tile (part_of (tile_at layout.tiles cell.tile).ny layout.py cell.j) (part_of (tile_at layout.tiles cell.tile).nx layout.px cell.i)
