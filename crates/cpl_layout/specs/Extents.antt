-- A row of n cells cut into parts that follow each other.
use Rattle.std.specs.Prelude.{◌≡◌, ℕ, zero, suc, ◌+◌, ◌/◌, ◌%◌, ◌<◌, ◌≤◌, nat_lt, nat_le, if◌then◌else◌, count_by}
use Rattle.std.specs.List.{range_with_len}

-- how many cells a part has: the first `n % parts` have one more than the others
abbrev pub extent_length : ℕ → ℕ → ℕ → ℕ
extent_length n parts p = if nat_lt p (n % parts) then n / parts + 1 else n / parts

-- where a part begins: after the parts before it
abbrev pub extent_start : ℕ → ℕ → ℕ → ℕ
extent_start n parts zero = 0
extent_start n parts (suc p) = extent_start n parts p + extent_length n parts p

-- the part that the i-th cell lies in: as many parts end at or before the cell
abbrev pub part_of : ℕ → ℕ → ℕ → ℕ
part_of n parts i = count_by (λ p. nat_le (extent_start n parts p + extent_length n parts p) i) (range_with_len 0 parts)

-- the parts follow each other from cell 0 to cell n - 1, and none is empty
pub record ExtentsCover (n parts : ℕ) : Type 0 where
  pub first : extent_start n parts 0 ≡ 0
  pub next : (p : ℕ) → extent_start n parts (p + 1) ≡ extent_start n parts p + extent_length n parts p
  pub last : extent_start n parts parts ≡ n
  pub some : (p : ℕ) → p < parts → 1 ≤ extent_length n parts p
