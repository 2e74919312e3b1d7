-- Amounts of heat, water, salt and vapour.
use Rattle.std.specs.Prelude.{ℕ, ℤ, pos, List, slice_index_or, unsigned_abs}
use Rattle.cpl_fixed.specs.Ranges.{IsFromℤ}
use Rattle.cpl_fixed.specs.declared.limits.TheConstants.{MOST_TOTAL}

-- an amount in range
abbrev pub IsAmount : ℤ → Type 0
IsAmount x = IsFromℤ 0 MOST_TOTAL x

-- an amount, which isn't negative, as a natural number
abbrev pub amount : ℤ → ℕ
amount x = unsigned_abs x

-- the number at a place of a list, and 0 behind its end
abbrev pub at : List ℤ → ℕ → ℤ
at xs n = slice_index_or xs n (pos 0)
