-- Pieces of the air that hold the numbers of the whole air, and a step of its diffusion.
use Rattle.std.specs.Prelude.{◌≡◌, ℕ, List, ℤ}
use Rattle.cpl_fixed.specs.Amounts.{at}
use Rattle.cpl_mosaic.specs.declared.mosaic.Mesh.{Mesh}
use Rattle.cpl_layout.specs.declared.piece.Piece.{Piece}
use Rattle.cpl_layout.specs.Owners.{IsPlaceOf}
use Rattle.cpl_field.specs.Spots.{FieldNumbers, CellAt, IsSpot, IsSameShape, number_at}
use Rattle.cpl_atmos.specs.Sweeps.{AirNumbers, Computes, IsInner, IsRim, Stores, next_at}
use Rattle.cpl_state.specs.Diffusion.{AreAmounts, cell_count, diffused}
use Rattle.cpl_agree.specs.Fields.{HasCells, HasHoles, IsFieldOf, whole_number}

-- the areas of a piece of the air, with a halo of one cell: none where a hole stands for no cell
pub record HasAirAreas (mesh : Mesh) (piece : Piece) (area : FieldNumbers) : Type 0 where
  pub shape : IsFieldOf piece 1 area
  pub cells : HasCells mesh.mosaic.tiles (at mesh.area) piece area
  pub holes : HasHoles mesh.mosaic (at mesh.area) piece area

-- a field of a piece holds what a list has for its cells
pub record HoldsAir (mesh : Mesh) (xs : List ℤ) (piece : Piece) (x : FieldNumbers) : Type 0 where
  pub shape : IsFieldOf piece 1 x
  pub cells : HasCells mesh.mosaic.tiles (at xs) piece x

-- a field takes the numbers of its holes, and keeps its cells
pub record TakesAirHalo (mesh : Mesh) (xs : List ℤ) (piece : Piece) (old new : FieldNumbers) : Type 0 where
  pub shape : IsSameShape old new
  pub cells : (i j : ℕ) → IsSpot old (CellAt i j) → number_at new (CellAt i j) ≡ number_at old (CellAt i j)
  pub holes : HasHoles mesh.mosaic (at xs) piece new

-- a step of a piece: the inner cells, which need no hole, then the holes, which are taken, the rim, and the end
pub record AirSteps (mesh : Mesh) (xs : List ℤ) (piece : Piece) (air : AirNumbers) (first last : FieldNumbers) : Type 0 where
  pub swept : List ℤ
  pub taken : FieldNumbers
  pub whole : List ℤ
  pub interior : Computes air.area first (IsInner air.area) air.values swept
  pub takes : TakesAirHalo mesh xs piece first taken
  pub rim : Computes air.area taken (IsRim air.area) swept whole
  pub finish : Stores (record { area = air.area; values = whole }) taken last

-- The diffusion of a piece of the air is that of the whole: in its inner cells by its own cells alone, with its holes in all. So a
-- step of the piece ends with what a step of the whole air leaves in its cells.
pub record AirAgrees (mesh : Mesh) (piece : Piece) : Type 0 where
  pub inner : (xs : List ℤ) (area x : FieldNumbers) → AreAmounts (cell_count mesh) xs → HasAirAreas mesh piece area → HoldsAir mesh xs piece x
      → (i j : ℕ) → IsPlaceOf piece (i, j) → IsInner area i j → next_at area x i j ≡ at (diffused mesh xs) (whole_number mesh.mosaic.tiles piece i j)
  pub each : (xs : List ℤ) (area x : FieldNumbers) → AreAmounts (cell_count mesh) xs → HasAirAreas mesh piece area → HoldsAir mesh xs piece x → HasHoles mesh.mosaic (at xs) piece x
      → (i j : ℕ) → IsPlaceOf piece (i, j) → next_at area x i j ≡ at (diffused mesh xs) (whole_number mesh.mosaic.tiles piece i j)
  pub step : (xs : List ℤ) (air : AirNumbers) (first last : FieldNumbers) → AreAmounts (cell_count mesh) xs → HasAirAreas mesh piece air.area → HoldsAir mesh xs piece first
      → AirSteps mesh xs piece air first last → HoldsAir mesh (diffused mesh xs) piece last
