-- Cells with water.
use Rattle.std.specs.Prelude.{ℤ, pos, ◌≤ℤ◌}

-- an area of a cell with water
abbrev pub IsWet : ℤ → Type 0
IsWet area = pos 1 ≤ℤ area
