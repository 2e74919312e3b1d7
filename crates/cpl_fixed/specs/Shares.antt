-- The shares of an amount over weights.
use Rattle.std.specs.Prelude.{◌≡◌, ℕ, ◌<◌, ◌+◌, ◌*◌, ◌/◌, ◌^◌, List, [], ◌∷◌, take, length, slice_index_or, ℤ, pos, ◌+ℤ◌, ◌-ℤ◌, ◌*ℤ◌, ◌≤ℤ◌, int_div, All}
use Rattle.cpl_fixed.specs.Totals.{total_of}

-- the part of an amount that a weight has in a whole, rounded down: nothing here is negative
abbrev pub part_of : ℤ → ℤ → ℤ → ℤ
part_of amount weight whole = int_div (amount *ℤ weight) whole

-- what lies between two running sums of the weights
abbrev pub share : ℤ → ℤ → ℤ → ℤ → ℤ
share amount from to whole = part_of amount to whole -ℤ part_of amount from whole

-- the shares of the weights that come after those with the sum `from`, where all have the sum `whole`
abbrev pub shares_from : ℤ → ℤ → ℤ → List ℤ → List ℤ
shares_from amount whole from [] = []
shares_from amount whole from (weight ∷ weights) =
    share amount from (from +ℤ weight) whole ∷ shares_from amount whole (from +ℤ weight) weights

-- the shares of an amount over weights, in order
abbrev pub shares_of : ℤ → List ℤ → List ℤ
shares_of amount weights = shares_from amount (total_of weights) (pos 0) weights

-- an amount and weights that it can be divided over
pub record CanShare (amount : ℤ) (weights : List ℤ) : Type 0 where
  pub amount_least : pos 0 ≤ℤ amount
  pub each : All (λ weight. pos 0 ≤ℤ weight) weights
  pub some : pos 1 ≤ℤ total_of weights

-- One share for each weight. Together they are the amount, and none is negative or above it. The n-th lies between the sum
-- of the weights before it and that sum with its own weight.
pub record SharesAgree (amount : ℤ) (weights shares : List ℤ) : Type 0 where
  pub count : length shares ≡ length weights
  pub total : total_of shares ≡ amount
  pub least : All (λ share. pos 0 ≤ℤ share) shares
  pub most : All (λ share. share ≤ℤ amount) shares
  pub each : (n : ℕ) → n < length weights
      → slice_index_or shares n (pos 0) ≡ share amount (total_of (take n weights)) (total_of (take (n + 1) weights)) (total_of weights)

-- what an iterator keeps that has given the shares up to the running sum `from`, and `given` with them
pub record IsPartWay (amount whole from given : ℕ) (weights : List ℤ) : Type 0 where
  pub amount_most : amount < 2 ^ 63
  pub each : All (λ weight. pos 0 ≤ℤ weight) weights
  pub within : (pos from +ℤ total_of weights) ≤ℤ pos whole
  pub some : 0 < whole
  pub so_far : given ≡ amount * from / whole
