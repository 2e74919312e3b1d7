-- Divisors, and their reciprocals in 2^64.
use Rattle.std.specs.Prelude.{ℕ, ◌-◌, ◌/◌, ◌^◌, ℤ, pos, negsuc}

-- how often a divisor goes into 2^64 - 1
abbrev pub reciprocal_of : ℕ → ℕ
reciprocal_of d = (2 ^ 64 - 1) / d

-- 1, or -1 below 0
abbrev pub sign_of : ℤ → ℤ
sign_of (pos n) = pos 1
sign_of (negsuc n) = negsuc 0
