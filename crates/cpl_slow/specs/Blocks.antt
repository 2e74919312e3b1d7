-- Lists whose numbers change block by block.
use Rattle.std.specs.Prelude.{◌≡◌, ℕ, ◌+◌, ◌<◌, ◌≤◌, List, length, ℤ}
use Rattle.cpl_fixed.specs.Amounts.{at}

-- as many numbers of a block stand in a list from a place on, and the others as before
pub record IsPut (start width : ℕ) (block old new : List ℤ) : Type 0 where
  pub count : length new ≡ length old
  pub before : (i : ℕ) → i < start → at new i ≡ at old i
  pub inside : (k : ℕ) → k < width → at new (start + k) ≡ at block k
  pub behind : (i : ℕ) → start + width ≤ i → at new i ≡ at old i

-- the places below a number have their next numbers, and the others those from before
pub record IsPartWay (upto : ℕ) (next : ℕ → ℤ) (old new : List ℤ) : Type 0 where
  pub count : length new ≡ length old
  pub done : (i : ℕ) → i < upto → at new i ≡ next i
  pub left : (i : ℕ) → upto ≤ i → at new i ≡ at old i
