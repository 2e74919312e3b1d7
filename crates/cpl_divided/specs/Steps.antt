-- A step of all pieces.
use Rattle.std.specs.Prelude.{◌≡◌, ℕ, ◌<◌, List, [], length, slice_index_or}
use Rattle.cpl_mosaic.specs.declared.parts.Side.{Side}
use Rattle.cpl_field.specs.Spots.{FieldNumbers, CellAt, HoleAt, IsSpot, IsSameShape, number_at}
use Rattle.cpl_atmos.specs.Sweeps.{AirNumbers, AreAmounts, next_at}
use Rattle.cpl_divided.specs.Fields.{field_at}

-- the cells of a field have their amounts after a step, and the holes keep theirs
pub record Steps (area old new : FieldNumbers) : Type 0 where
  pub shape : IsSameShape old new
  pub cells : (i j : ℕ) → IsSpot old (CellAt i j) → number_at new (CellAt i j) ≡ next_at area old i j
  pub holes : (side : Side) (k depth : ℕ) → IsSpot old (HoleAt side k depth) → number_at new (HoleAt side k depth) ≡ number_at old (HoleAt side k depth)

-- the areas of a piece
abbrev pub area_of : List AirNumbers → ℕ → FieldNumbers
area_of airs p = (slice_index_or airs p (record { area = record { nx = 0; ny = 0; width = 0; numbers = [] }; values = [] })).area

-- a piece of the air for each field
pub record ArePieces (airs : List AirNumbers) (fields : List FieldNumbers) : Type 0 where
  pub count : length airs ≡ length fields
  pub shapes : (p : ℕ) → p < length fields → IsSameShape (area_of airs p) (field_at fields p)

-- the amounts of all fields are those of an air
abbrev pub HaveAmounts : List FieldNumbers → Type 0
HaveAmounts fields = (p : ℕ) → p < length fields → AreAmounts (field_at fields p)

-- each field takes a step
pub record StepsAll (airs : List AirNumbers) (old new : List FieldNumbers) : Type 0 where
  pub count : length new ≡ length old
  pub each : (p : ℕ) → p < length old → Steps (area_of airs p) (field_at old p) (field_at new p)

-- the areas stay
pub record KeepsAreas (old new : List AirNumbers) : Type 0 where
  pub count : length new ≡ length old
  pub each : (p : ℕ) → area_of new p ≡ area_of old p
