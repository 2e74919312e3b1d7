-- The divisors of the flows through the faces of a piece.
use Rattle.std.specs.Prelude.{◌≡◌, ℕ, ◌+◌, ◌*◌, ◌<◌, ◌≤◌, List, length, ℤ, pos, ◌<ℤ◌, slice_index_or}
use Rattle.cpl_fixed.specs.Flows.{face_divisor}
use Rattle.cpl_fixed.specs.declared.flow.FaceDivisor.{FaceDivisor}
use Rattle.cpl_field.specs.Spots.{FieldNumbers, IsShape, stored}
use Rattle.cpl_atmos.specs.Sweeps.{AreAirAreas}

-- the divisor of the flows between two areas, where neither is a wall's
abbrev pub IsDivisor : FaceDivisor → (a a' : ℤ) → Type 0
IsDivisor divisor a a' = pos 0 <ℤ a → pos 0 <ℤ a' → divisor ≡ face_divisor a a'

abbrev pub divisor_at : List FaceDivisor → ℕ → FaceDivisor
divisor_at faces n = slice_index_or faces n (record { reciprocal = 0 })

-- the faces that are crossed from lower to higher i: in each row one more than the row has cells
pub record AreEastward (area : FieldNumbers) (faces : List FaceDivisor) : Type 0 where
  pub count : length faces ≡ (area.nx + 1) * area.ny
  pub each : (i j : ℕ) → i ≤ area.nx → j < area.ny → IsDivisor (divisor_at faces (j * (area.nx + 1) + i)) (stored area (j + 1) i) (stored area (j + 1) (i + 1))

-- the faces that are crossed from lower to higher j: one more row than the piece has
pub record AreNorthward (area : FieldNumbers) (faces : List FaceDivisor) : Type 0 where
  pub count : length faces ≡ area.nx * (area.ny + 1)
  pub each : (i j : ℕ) → i < area.nx → j ≤ area.ny → IsDivisor (divisor_at faces (j * area.nx + i)) (stored area j (i + 1)) (stored area (j + 1) (i + 1))

-- the areas of a piece and its halo, one cell wide, with the divisors of its faces
pub record AreKept (nx ny : ℕ) (area : FieldNumbers) (eastward northward : List FaceDivisor) : Type 0 where
  pub columns : area.nx ≡ nx
  pub rows : area.ny ≡ ny
  pub width : area.width ≡ 1
  pub shape : IsShape nx ny 1
  pub areas : AreAirAreas area
  pub east : AreEastward area eastward
  pub north : AreNorthward area northward
