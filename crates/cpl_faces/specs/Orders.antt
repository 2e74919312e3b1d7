-- Orders by one number after another.
use Rattle.std.specs.Prelude.{◌≡◌, ℕ, ◌<◌, ◌⊎◌, ◌==◌, nat_lt, Bool, if◌then◌else◌}

-- one number is less than the other, or they are equal and what follows decides
abbrev pub LessThen : ℕ → ℕ → Type 0 → Type 0
LessThen x y follows = (x < y) ⊎ ((x ≡ y) × follows)

-- the same as a test
abbrev pub less_then : ℕ → ℕ → Bool → Bool
less_then x y follows = if x == y then follows else nat_lt x y
