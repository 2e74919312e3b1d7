-- Rows of a piece, on the way through a sweep.
use Rattle.std.specs.Prelude.{◌≡◌, ℕ, ◌+◌, ◌*◌, ◌^◌, ◌<◌, ◌≤◌, List, length, ℤ, pos, ◌-ℤ◌, ◌<ℤ◌, slice_index_or}
use Rattle.cpl_mosaic.specs.declared.parts.Side.{Side}
use Rattle.cpl_mosaic.specs.declared.parts.Side.TheVariants.{S}
use Rattle.cpl_field.specs.Spots.{FieldNumbers, CellAt, HoleAt, IsSpot, IsSameShape, number_at}
use Rattle.cpl_atmos.specs.Sweeps.{flow_out, value_in}

-- what flows out of a cell, no more than an eighth of what the air may hold
pub record IsLoss (v flow : ℤ) : Type 0 where
  pub is : v ≡ flow
  pub low : (pos 0 -ℤ pos (2 ^ 59)) <ℤ v
  pub high : v <ℤ pos (2 ^ 59)

-- what the inner cells of row j lose through their south sides
pub record AreSouths (area x : FieldNumbers) (j : ℕ) (souths : List ℤ) : Type 0 where
  pub count : length souths ≡ area.nx
  pub each : (i : ℕ) → 1 ≤ i → i + 1 < area.nx → IsLoss (slice_index_or souths i (pos 0)) (flow_out area x i j S)

-- the lists that a sweep over a piece writes
pub record AreLists (area : FieldNumbers) (souths values : List ℤ) : Type 0 where
  pub south_count : length souths ≡ area.nx
  pub value_count : length values ≡ area.nx * area.ny

-- the cells have these amounts, and the holes keep theirs
pub record StoresValues (area : FieldNumbers) (values : List ℤ) (old new : FieldNumbers) : Type 0 where
  pub shape : IsSameShape old new
  pub cells : (i j : ℕ) → IsSpot old (CellAt i j) → number_at new (CellAt i j) ≡ value_in area.nx values i j
  pub holes : (side : Side) (k depth : ℕ) → IsSpot old (HoleAt side k depth) → number_at new (HoleAt side k depth) ≡ number_at old (HoleAt side k depth)
