-- Tables that are stored part by part: entry 0 of all items first, then entry 1 of all, and so on.
use Rattle.std.specs.Prelude.{◌≡◌, ℕ, ◌+◌, ◌*◌, ◌<◌, ◌≤◌, List, length, ℤ, pos, slice_index_or}
use Rattle.cpl_fixed.specs.Amounts.{at}

-- where entry k of item n stands in a table of so many items
abbrev pub place_in : (count n k : ℕ) → ℕ
place_in count n k = k * count + n

-- how many of an item's first entries are looked at
abbrev pub used_at : List ℕ → ℕ → ℕ
used_at used n = slice_index_or used n 0

-- behind so many entries of item n, of at most `width`, none has an area
pub record IsEnd (areas : List ℤ) (count width n end : ℕ) : Type 0 where
  pub most : end ≤ width
  pub rest : (k : ℕ) → end ≤ k → k < width → at areas (place_in count n k) ≡ pos 0

-- the same of all items
pub record AreEnds (areas : List ℤ) (used : List ℕ) (items width : ℕ) : Type 0 where
  pub count : length used ≡ items
  pub each : (n : ℕ) → n < items → IsEnd areas items width n (used_at used n)
