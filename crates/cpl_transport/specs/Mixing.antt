-- Vertical exchange: what the layers of a column give each other.
use Rattle.std.specs.Prelude.{ℕ, zero, suc, ◌+◌, ◌/◌, ◌^◌, nat_lt, ℤ, pos, ◌+ℤ◌, ◌-ℤ◌, if◌then◌else◌}
use Rattle.cpl_fixed.specs.Amounts.{amount}

-- what a layer gives to each neighbouring one
abbrev pub part : (mix : ℕ) → ℤ → ℤ
part mix x = pos (amount x / 2 ^ mix)

-- what passes from a layer to the one below it, less what comes up from there
abbrev pub exchanged : (mix : ℕ) → (upper lower : ℤ) → ℤ
exchanged mix upper lower = part mix upper -ℤ part mix lower

-- what passes down out of layer n of a column: nothing out of the last
abbrev pub passed : (mix layers : ℕ) → (column : ℕ → ℤ) → ℕ → ℤ
passed mix layers column n = if nat_lt (n + 1) layers then exchanged mix (column n) (column (n + 1)) else pos 0

-- a layer of a column after all layers have given, all at once
abbrev pub mixed : (mix layers : ℕ) → (column : ℕ → ℤ) → ℕ → ℤ
mixed mix layers column zero = column zero -ℤ passed mix layers column zero
mixed mix layers column (suc n) = column (suc n) +ℤ passed mix layers column n -ℤ passed mix layers column (suc n)

-- the sum of a column's first layers
abbrev pub sum_of : (layers : ℕ) → (column : ℕ → ℤ) → ℤ
sum_of zero column = pos 0
sum_of (suc n) column = sum_of n column +ℤ column n
