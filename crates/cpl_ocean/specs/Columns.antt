-- Columns of a piece of the ocean.
use Rattle.std.specs.Prelude.{◌≡◌, ℕ, ◌<◌, ◌⊎◌, List, length, ℤ, pos, if◌then◌else◌, slice_index_or}
use Rattle.cpl_fixed.specs.Amounts.{IsAmount}
use Rattle.cpl_mosaic.specs.declared.parts.Side.{Side}
use Rattle.cpl_field.specs.Spots.{FieldNumbers, Spot, CellAt, HoleAt, IsSpot, IsSameShape, number_at}
use Rattle.cpl_ice.specs.declared.parts.Salty.{Salty}
use Rattle.cpl_transport.specs.Heights.{height_of}
use Rattle.cpl_transport.specs.Mixing.{sum_of}
use Rattle.cpl_transport.specs.Salts.{IsSalty, nothing}
use Rattle.cpl_ocean.specs.Layers.{LayerNumbers, layer_at}
use Rattle.cpl_ocean.specs.Flows.{is_wet}

-- the water of a column
abbrev pub column_water : List LayerNumbers → Spot → ℤ
column_water layers spot = sum_of (length layers) (λ l. number_at (layer_at layers l).fields.water spot)

-- no layer of a column has less than no water, and all together no more than the greatest total
pub record HasColumn (layers : List LayerNumbers) (spot : Spot) : Type 0 where
  pub each : (l : ℕ) → l < length layers → IsAmount (number_at (layer_at layers l).fields.water spot)
  pub total : IsAmount (column_water layers spot)

-- the height of a column over its area, 0 where it has none
abbrev pub height_at : (area : FieldNumbers) → List LayerNumbers → Spot → ℤ
height_at area layers spot = if is_wet area spot then height_of (column_water layers spot) (number_at area spot) else pos 0

-- the spots that are meant have these numbers, and the others keep what stands there
pub record Fills (area : FieldNumbers) (number : Spot → ℤ) (IsMeant : Spot → Type 0) (old new : FieldNumbers) : Type 0 where
  pub shape : IsSameShape old new
  pub meant : (spot : Spot) → IsSpot area spot → IsMeant spot → number_at new spot ≡ number spot
  pub others : (spot : Spot) → IsSpot area spot → (IsMeant spot → ⊥) → number_at new spot ≡ number_at old spot

-- a cell of row j, in columns before one
abbrev pub IsCellBefore : (i j : ℕ) → Spot → Type 0
IsCellBefore i j spot = (k : ℕ) × (k < i) × (spot ≡ CellAt k j)

-- a cell of the rows before one
abbrev pub IsCellBelow : (j : ℕ) → Spot → Type 0
IsCellBelow j spot = (i : ℕ) × (k : ℕ) × (k < j) × (spot ≡ CellAt i k)

-- a cell
abbrev pub IsCell : Spot → Type 0
IsCell spot = (i : ℕ) × (j : ℕ) × (spot ≡ CellAt i j)

-- a hole of this depth beyond one side of the piece, at places before one
abbrev pub IsHoleBefore : (side : Side) → (depth n : ℕ) → Spot → Type 0
IsHoleBefore side depth n spot = (k : ℕ) × (k < n) × (spot ≡ HoleAt side k depth)

-- a hole of this depth
abbrev pub IsAtDepth : (depth : ℕ) → Spot → Type 0
IsAtDepth depth spot = (side : Side) × (k : ℕ) × (spot ≡ HoleAt side k depth)

-- a hole next to the piece
abbrev pub IsNear : Spot → Type 0
IsNear spot = IsAtDepth 1 spot

-- a cell, or a hole next to the piece
abbrev pub IsClose : Spot → Type 0
IsClose spot = IsCell spot ⊎ IsNear spot

-- what the transport leaves at a place of the layers' lists, from the top layer down
abbrev pub column_left : List LayerNumbers → (place l : ℕ) → Salty
column_left layers place l = slice_index_or (layer_at layers l).left place nothing

-- no amount that it leaves there is negative or above the greatest total
abbrev pub AreLeft : List LayerNumbers → (place : ℕ) → Type 0
AreLeft layers place = (l : ℕ) → l < length layers → IsSalty (column_left layers place l)
