-- Fields of pieces that hold the numbers of a whole.
use Rattle.std.specs.Prelude.{◌≡◌, ℕ, List, ℤ, pos, Option, Some, None}
use Rattle.cpl_mosaic.specs.declared.parts.Side.{Side}
use Rattle.cpl_mosaic.specs.declared.parts.Tile.{Tile}
use Rattle.cpl_mosaic.specs.Cells.{number_of}
use Rattle.cpl_mosaic.specs.Lists.{MosaicLists}
use Rattle.cpl_mosaic.specs.Sides.{CellSide}
use Rattle.cpl_layout.specs.declared.piece.Piece.{Piece}
use Rattle.cpl_layout.specs.Owners.{IsPlaceOf, cell_in}
use Rattle.cpl_strip.specs.Holes.{walk_to}
use Rattle.cpl_field.specs.Spots.{FieldNumbers, CellAt, HoleAt, IsSpot, number_at}

-- the number in the whole of the cell in column i and row j of a piece
abbrev pub whole_number : List Tile → Piece → (i j : ℕ) → ℕ
whole_number tiles piece i j = number_of tiles (cell_in piece (i, j))

-- the number of the cell that a walk leads to, or 0 where it leads to none
abbrev pub beyond : List Tile → (number : ℕ → ℤ) → Option CellSide → ℤ
beyond tiles number None = pos 0
beyond tiles number (Some entered) = number (number_of tiles entered.0)

-- the field of a piece, with a halo of this width
pub record IsFieldOf (piece : Piece) (halo : ℕ) (field : FieldNumbers) : Type 0 where
  pub nx : field.nx ≡ piece.nx
  pub ny : field.ny ≡ piece.ny
  pub width : field.width ≡ halo

-- a field has at each cell of its piece the number of that cell
abbrev pub HasCells : List Tile → (number : ℕ → ℤ) → Piece → FieldNumbers → Type 0
HasCells tiles number piece field =
    (i j : ℕ) → IsPlaceOf piece (i, j) → number_at field (CellAt i j) ≡ number (whole_number tiles piece i j)

-- a field has in each hole the number of the cell that the hole stands for, and 0 where it stands for none
abbrev pub HasHoles : MosaicLists → (number : ℕ → ℤ) → Piece → FieldNumbers → Type 0
HasHoles mosaic number piece field =
    (side : Side) (k depth : ℕ) → IsSpot field (HoleAt side k depth)
    → number_at field (HoleAt side k depth) ≡ beyond mosaic.tiles number (walk_to mosaic piece (record { side = side; at = k; depth = depth }))
