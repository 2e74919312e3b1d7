-- The exchange cells of each piece, by the places of their cells in it.
use Rattle.std.specs.Prelude.{ℕ, ◌+◌, ◌-◌, ◌*◌, ◌==◌, List, map}
use Rattle.std.specs.List.{filter, range_with_len}
use Rattle.cpl_mosaic.specs.declared.parts.CellId.{CellId}
use Rattle.cpl_layout.specs.declared.piece.Piece.{Piece}
use Rattle.cpl_layout.specs.Layouts.{Cuts}
use Rattle.cpl_layout.specs.Pieces.{pieces_of, piece_of, owner_of}

-- the place of a cell among those of a piece: row by row
abbrev pub place_in : Piece → CellId → ℕ
place_in piece cell = (cell.j - piece.j0) * piece.nx + (cell.i - piece.i0)

-- its place in the piece that it lies in
abbrev pub place_of : Cuts → CellId → ℕ
place_of layout cell = place_in (piece_of layout (owner_of layout cell)) cell

-- the places of the cells of a list that lie in a piece, in order
abbrev pub places_in : Cuts → List CellId → ℕ → List ℕ
places_in layout cells p = map (place_of layout) (filter (λ cell. owner_of layout cell == p) cells)

-- those of each piece
abbrev pub for_pieces : Cuts → List CellId → List (List ℕ)
for_pieces layout cells = map (places_in layout cells) (range_with_len 0 (pieces_of layout))
