-- What flows between two cells of the air.
use Rattle.std.specs.Prelude.{ℕ, ◌+◌, ◌-◌, ◌*◌, ◌/◌, ℤ, pos, ◌+ℤ◌, ◌-ℤ◌, ◌*ℤ◌, ◌<ℤ◌, ◌≤ℤ◌, unsigned_abs}
use Rattle.cpl_fixed.specs.declared.limits.TheConstants.{MOST_AREA, MOST_TOTAL}
use Rattle.cpl_fixed.specs.Division.{trunc}
use Rattle.cpl_fixed.specs.Reciprocals.{reciprocal_of}
use Rattle.cpl_fixed.specs.declared.flow.FaceDivisor.{FaceDivisor}

-- an amount of a cell of the air
abbrev pub IsAirAmount : ℤ → Type 0
IsAirAmount x = (pos 0 ≤ℤ x) × (x ≤ℤ pos MOST_TOTAL)

-- an area of a cell of the air
abbrev pub IsAirArea : ℤ → Type 0
IsAirArea a = (pos 0 <ℤ a) × (a ≤ℤ pos MOST_AREA)

-- what flows out of a cell with the amount x and the area a into one with the amount x' and the area a'
abbrev pub flow : (x a x' a' : ℤ) → ℤ
flow x a x' a' = trunc ((x *ℤ a') -ℤ (x' *ℤ a)) (pos 8 *ℤ (a +ℤ a'))

-- the same between natural numbers, where it isn't negative
abbrev pub gives : (x a y b : ℕ) → ℕ
gives x a y b = (x * b - y * a) / (8 * (a + b))

-- what divides the flow between cells of these areas
abbrev pub face_divisor : (a a' : ℤ) → FaceDivisor
face_divisor a a' = record { reciprocal = reciprocal_of (unsigned_abs (pos 8 *ℤ (a +ℤ a'))) }
