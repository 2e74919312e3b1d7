-- The holes of a piece by number: by depth, then W, E, S, N, then along the edge.
use Rattle.std.specs.Prelude.{ℕ, ◌+◌, ◌-◌, ◌*◌, ◌/◌, ◌%◌, nat_lt, if◌then◌else◌}
use Rattle.cpl_mosaic.specs.declared.parts.Side.{Side}
use Rattle.cpl_mosaic.specs.declared.parts.Side.TheVariants.{W, E, S, N}
use Rattle.cpl_layout.specs.declared.piece.Piece.{Piece}
use Rattle.cpl_strip.specs.declared.parts.Hole.{Hole}

-- how many sides lie along the edges of a piece
abbrev pub sides_of : Piece → ℕ
sides_of piece = 2 * (piece.nx + piece.ny)

-- the k-th of them: its edge, and where along it
abbrev pub nth_side : Piece → ℕ → Side × ℕ
nth_side piece k =
    if nat_lt k piece.ny then (W, k) else (if nat_lt k (2 * piece.ny) then (E, k - piece.ny) else (if nat_lt k (2 * piece.ny + piece.nx) then (S, k - 2 * piece.ny) else (N, k - 2 * piece.ny - piece.nx)))

-- the m-th hole of a piece
abbrev pub nth_hole : Piece → ℕ → Hole
nth_hole piece m = record { side = (nth_side piece (m % sides_of piece)).0; at = (nth_side piece (m % sides_of piece)).1; depth = m / sides_of piece + 1 }

-- how many holes a piece has
abbrev pub hole_count : ℕ → Piece → ℕ
hole_count width piece = width * sides_of piece
