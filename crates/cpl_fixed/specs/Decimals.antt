-- Numbers written in decimal digits.
use Rattle.std.specs.Prelude.{ℕ, ◌+◌, ◌-◌, ◌*◌, ◌==◌, ◌&&◌, nat_le, List, [], ◌∷◌, length, Bool, false, Option, Some, None, if◌then◌else◌}
use Rattle.std.specs.Char.{is_ascii_digit}
use Rattle.std.specs.List.{list_all}

-- the number that decimal digits stand for, after those that stand for n
abbrev pub value_from : ℕ → List ℕ → ℕ
value_from n [] = n
value_from n (digit ∷ digits) = value_from (10 * n + (digit - 48)) digits

-- the number that decimal digits stand for
abbrev pub value_of : List ℕ → ℕ
value_of digits = value_from 0 digits

-- a number, where it is at most `most`
abbrev pub at_most : ℕ → ℕ → Option ℕ
at_most most n = if nat_le n most then Some n else None

-- `0`, or 1 to `most` digits that don't begin with a zero
abbrev pub is_numeral : ℕ → List ℕ → Bool
is_numeral most [] = false
is_numeral most (digit ∷ digits) =
    if digit == 48 then length digits == 0 else (nat_le (length digits + 1) most && list_all is_ascii_digit (digit ∷ digits))
