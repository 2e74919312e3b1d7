-- Pieces of a row of three cells, with amounts so small that no step of theirs can pass the budget.
use Rattle.std.specs.Prelude.{◌≡◌, ℕ, ◌+◌, ◌<◌, ◌≤◌, length, ℤ}
use Rattle.cpl_fixed.specs.Ranges.{IsFromℤ}
use Rattle.cpl_fixed.specs.declared.limits.TheConstants.{MOST_AREA}
use Rattle.cpl_layout.specs.declared.piece.Piece.{Piece}
use Rattle.cpl_field.specs.Spots.{FieldNumbers, Spot, IsSpot, number_at}
use Rattle.cpl_ocean.specs.Pieces.{OceanNumbers, field_in, fields_at}

-- some cells of the row
pub record IsOfRow (piece : Piece) : Type 0 where
  pub some : 1 ≤ piece.nx
  pub within : piece.i0 + piece.nx ≤ 3
  pub row : piece.ny ≡ 1

-- 0 to 2^40, so that a field of areas can be made of them too
abbrev pub IsLittle : ℤ → Type 0
IsLittle x = IsFromℤ 0 MOST_AREA x

-- a field of a piece with its halo, two cells wide
pub record IsFieldOf (piece : Piece) (field : FieldNumbers) : Type 0 where
  pub columns : field.nx ≡ piece.nx
  pub rows : field.ny ≡ piece.ny
  pub width : field.width ≡ 2
  pub little : (spot : Spot) → IsSpot field spot → IsLittle (number_at field spot)

-- an ocean of a piece, of one layer
pub record IsOceanOf (piece : Piece) (ocean : OceanNumbers) : Type 0 where
  pub area : IsFieldOf piece ocean.area
  pub count : length ocean.layers ≡ 1
  pub fields : (n : ℕ) → n < 3 → IsFieldOf piece (field_in (fields_at ocean 0) n)
