-- Holes of a piece, and where the walks through them lead.
use Rattle.std.specs.Prelude.{ℕ, ◌-◌, ◌<◌, ◌≤◌, Option}
use Rattle.cpl_mosaic.specs.declared.parts.Side.{Side}
use Rattle.cpl_mosaic.specs.declared.parts.Side.TheVariants.{W, E, S, N}
use Rattle.cpl_mosaic.specs.Lists.{MosaicLists}
use Rattle.cpl_mosaic.specs.Sides.{CellSide}
use Rattle.cpl_mosaic.specs.Mates.{walk_of}
use Rattle.cpl_layout.specs.declared.piece.Piece.{Piece}
pub use Rattle.cpl_layout.specs.Owners.{edge_place}
use Rattle.cpl_layout.specs.Owners.{cell_in}
use Rattle.cpl_strip.specs.declared.parts.Hole.{Hole}

-- how many cells lie along an edge of a piece
abbrev pub edge_of : Piece → Side → ℕ
edge_of piece W = piece.ny
edge_of piece E = piece.ny
edge_of piece S = piece.nx
edge_of piece N = piece.nx

-- a hole of a piece with halos of this width
pub record IsHoleOf (piece : Piece) (width : ℕ) (hole : Hole) : Type 0 where
  pub at : hole.at < edge_of piece hole.side
  pub least : 1 ≤ hole.depth
  pub most : hole.depth ≤ width

-- the side of the piece's edge that a hole lies out of
abbrev pub side_at : Piece → Hole → CellSide
side_at piece hole = (cell_in piece (edge_place piece hole.side hole.at), hole.side)

-- the cell that a hole stands for, with the side entered: that many steps from the piece's edge out of the hole's side
abbrev pub walk_to : MosaicLists → Piece → Hole → Option CellSide
walk_to mosaic piece hole = walk_of mosaic (hole.depth - 1) (side_at piece hole)
