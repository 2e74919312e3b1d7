-- The numbers of a piece's cells, and of the holes of the halo around it.
use Rattle.std.specs.Prelude.{◌≡◌, ◌≢◌, ℕ, ◌+◌, ◌-◌, ◌*◌, ◌<◌, ◌≤◌, nat_lt, nat_le, List, [], length, ℤ, pos, if◌then◌else◌, slice_index_or}
use Rattle.cpl_mosaic.specs.declared.parts.Side.{Side}
use Rattle.cpl_mosaic.specs.declared.parts.Side.TheVariants.{W, E, S, N}

-- a piece's shape, the width of its halo, and one number for each cell and each hole
pub record FieldNumbers : Type 0 where
  pub nx : ℕ
  pub ny : ℕ
  pub width : ℕ
  pub numbers : List ℤ

-- a cell by its column and row in the piece, or a hole by the side that it lies beyond, its place along that side, and how
-- many steps beyond
pub data Spot : Type 0 where
  CellAt : (i j : ℕ) → Spot
  HoleAt : (side : Side) → (k depth : ℕ) → Spot

-- how many cells lie along an edge of the piece
abbrev pub edge_of : FieldNumbers → Side → ℕ
edge_of field W = field.ny
edge_of field E = field.ny
edge_of field S = field.nx
edge_of field N = field.nx

-- a cell of the piece or a hole of its halo. The halo has no corners
abbrev pub IsSpot : FieldNumbers → Spot → Type 0
IsSpot field (CellAt i j) = (i < field.nx) × (j < field.ny)
IsSpot field (HoleAt side k depth) = (k < edge_of field side) × (1 ≤ depth) × (depth ≤ field.width)

-- how many columns and rows there are with the halo
abbrev pub columns_of : FieldNumbers → ℕ
columns_of field = field.nx + 2 * field.width

abbrev pub rows_of : FieldNumbers → ℕ
rows_of field = field.ny + 2 * field.width

-- the column and the row of a spot, counted from the halo's outermost
abbrev pub column_of : FieldNumbers → Spot → ℕ
column_of field (CellAt i j) = field.width + i
column_of field (HoleAt W k depth) = field.width - depth
column_of field (HoleAt E k depth) = field.width + field.nx + depth - 1
column_of field (HoleAt S k depth) = field.width + k
column_of field (HoleAt N k depth) = field.width + k

abbrev pub row_of : FieldNumbers → Spot → ℕ
row_of field (CellAt i j) = field.width + j
row_of field (HoleAt W k depth) = field.width + k
row_of field (HoleAt E k depth) = field.width + k
row_of field (HoleAt S k depth) = field.width - depth
row_of field (HoleAt N k depth) = field.width + field.ny + depth - 1

-- the column and the row of a hole, by the numbers of the shape
abbrev pub hole_place : (nx ny width : ℕ) → Side → (k depth : ℕ) → ℕ × ℕ
hole_place nx ny width side k depth =
    let field : FieldNumbers = record { nx = nx; ny = ny; width = width; numbers = [] } in
    (column_of field (HoleAt side k depth), row_of field (HoleAt side k depth))

-- the column and the row that lie some steps out through a side
abbrev pub stepped : (column row : ℕ) → Side → ℕ → ℕ × ℕ
stepped column row W depth = (column - depth, row)
stepped column row E depth = (column + depth, row)
stepped column row S depth = (column, row - depth)
stepped column row N depth = (column, row + depth)

-- the number in a row and a column: the list has the rows one after another
abbrev pub stored : FieldNumbers → (row column : ℕ) → ℤ
stored field row column = slice_index_or field.numbers (row * columns_of field + column) (pos 0)

-- the number of a spot
abbrev pub number_at : FieldNumbers → Spot → ℤ
number_at field spot = stored field (row_of field spot) (column_of field spot)

-- what lies this many steps out through a side of a cell: a cell of the piece, or a hole
abbrev pub out_from : FieldNumbers → (i j : ℕ) → Side → ℕ → Spot
out_from field i j W depth = if nat_le depth i then CellAt (i - depth) j else HoleAt W j (depth - i)
out_from field i j E depth = if nat_lt (i + depth) field.nx then CellAt (i + depth) j else HoleAt E j (i + depth + 1 - field.nx)
out_from field i j S depth = if nat_le depth j then CellAt i (j - depth) else HoleAt S i (depth - j)
out_from field i j N depth = if nat_lt (j + depth) field.ny then CellAt i (j + depth) else HoleAt N i (j + depth + 1 - field.ny)

-- two fields of one shape
pub record IsSameShape (old new : FieldNumbers) : Type 0 where
  pub nx : new.nx ≡ old.nx
  pub ny : new.ny ≡ old.ny
  pub width : new.width ≡ old.width

-- one spot has a new number, and every other keeps its own
pub record Sets (old new : FieldNumbers) (spot : Spot) (x : ℤ) : Type 0 where
  pub shape : IsSameShape old new
  pub there : number_at new spot ≡ x
  pub others : (other : Spot) → IsSpot old other → other ≢ spot → number_at new other ≡ number_at old other

-- the cells of row j have new numbers, and every other spot keeps its own
pub record SetsRow (old new : FieldNumbers) (j : ℕ) (numbers : List ℤ) : Type 0 where
  pub shape : IsSameShape old new
  pub there : (i : ℕ) → i < old.nx → number_at new (CellAt i j) ≡ slice_index_or numbers i (pos 0)
  pub cells : (i k : ℕ) → i < old.nx → k < old.ny → k ≢ j → number_at new (CellAt i k) ≡ number_at old (CellAt i k)
  pub holes : (side : Side) (k depth : ℕ) → IsSpot old (HoleAt side k depth) → number_at new (HoleAt side k depth) ≡ number_at old (HoleAt side k depth)

-- a piece has a cell, and at most a whole tile. A halo is one or two cells wide
pub record IsShape (nx ny width : ℕ) : Type 0 where
  pub some_columns : 1 ≤ nx
  pub columns : nx ≤ 1024
  pub some_rows : 1 ≤ ny
  pub rows : ny ≤ 1024
  pub some_width : 1 ≤ width
  pub narrow : width ≤ 2

pub record IsField (field : FieldNumbers) : Type 0 where
  pub shape : IsShape field.nx field.ny field.width
  pub count : length field.numbers ≡ columns_of field * rows_of field
