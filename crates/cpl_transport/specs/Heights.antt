-- Heights of columns, and the numbers of faces that they drive.
use Rattle.std.specs.Prelude.{ℕ, ◌*◌, ◌/◌, ◌^◌, min, ℤ, pos, neg_ℤ, ◌+ℤ◌, ◌-ℤ◌, ◌≤ℤ◌}
use Rattle.cpl_fixed.specs.Amounts.{amount}
use Rattle.cpl_fixed.specs.Division.{trunc, clamp}
use Rattle.cpl_fixed.specs.declared.limits.TheConstants.{MOST_FACE}

-- the height of a column over its area, in 256ths, at most 2^40
abbrev pub height_of : (water area : ℤ) → ℤ
height_of water area = pos (min (amount MOST_FACE) (256 * amount water / amount area))

-- a face's number within its range
abbrev pub in_face : ℤ → ℤ
in_face u = clamp u (neg_ℤ MOST_FACE) MOST_FACE

-- a face's next number: it loses a sixteenth, and gains what the difference of the heights beside it drives, outward from the first
abbrev pub next_face : (slope : ℕ) → (u height other : ℤ) → ℤ
next_face slope u height other = in_face (u -ℤ trunc u (pos 16) +ℤ trunc (height -ℤ other) (pos (2 ^ slope)))

-- the range of a face's number
abbrev pub IsFaceNumber : ℤ → Type 0
IsFaceNumber u = (neg_ℤ MOST_FACE ≤ℤ u) × (u ≤ℤ MOST_FACE)

-- the range of a height
abbrev pub IsHeight : ℤ → Type 0
IsHeight height = (pos 0 ≤ℤ height) × (height ≤ℤ MOST_FACE)
