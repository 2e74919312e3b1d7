-- The numbers that a state holds.
use Rattle.std.specs.Prelude.{◌^◌, ◌<ℤ◌, ◌≤ℤ◌, ℤ, pos}

-- a number that a state holds: not negative, and within 64 bits with a sign
abbrev pub IsStored : ℤ → Type 0
IsStored x = (pos 0 ≤ℤ x) × (x <ℤ pos (2 ^ 63))
