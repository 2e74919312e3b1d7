-- Division and bounds of signed numbers.
use Rattle.std.specs.Prelude.{ℤ, int_div}
use Rattle.std.specs.Int.{int_min, int_max}

-- x / d, rounded toward zero
abbrev pub trunc : ℤ → ℤ → ℤ
trunc x d = int_div x d

-- x, where it is from lo to hi; else the end that is nearer
abbrev pub clamp : ℤ → ℤ → ℤ → ℤ
clamp x lo hi = int_min (int_max x lo) hi
