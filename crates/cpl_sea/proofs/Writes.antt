-- Lists after a write at a place.
use Rattle.std.proofs.Common.{◌≡◌, ◌≢◌, ◌∙◌, ℕ, ◌+◌, ◌<◌, ◌≤◌, arith, List, length, slice_set, slice_index_or, get_or-set_same, get_or-set_other, below_more}
use Rattle.std.specs.Prelude.{ℤ, pos, All}
use Rattle.std.proofs.lemmas.Int.{ints}
use Rattle.std.proofs.lemmas.List.Elements.{All-get_or}
use Rattle.cpl_fixed.specs.Amounts.{at}
use Rattle.cpl_transport.specs.Heights.{IsFaceNumber}
use Rattle.cpl_transport.proofs.Bounds.{read}

pub own_number : (u : ℤ) → IsFaceNumber u → read u ≡ u
own_number u h = omega (arith, ints, h.0, h.1)

pub at_all : (P : ℤ → Type 0) (xs : List ℤ) (n : ℕ) → All P xs → n < length xs → P (at xs n)
at_all P xs n all l = All-get_or P xs n (pos 0) l all

-- after a write at `begin + n`, where every place after `begin` and before it holds what it shall
module _ {X : Type 0} (d : X) (xs : List X) (begin n : ℕ) (v : X) (within : begin + n < length xs) where
  pub written_here : slice_index_or (slice_set xs (begin + n) v) (begin + n) d ≡ v
  written_here = get_or-set_same xs (begin + n) v d within

  pub written_other : (place : ℕ) → place ≢ begin + n → slice_index_or (slice_set xs (begin + n) v) place d ≡ slice_index_or xs place d
  written_other place ne = get_or-set_other xs (begin + n) place v d ne

  pub written : (f : ℕ → X) → v ≡ f n → ((k : ℕ) → k < n → slice_index_or xs (begin + k) d ≡ f k) → (k : ℕ) → k < n + 1 → slice_index_or (slice_set xs (begin + n) v) (begin + k) d ≡ f k
  written f e done =
      below_more (λ k. slice_index_or (slice_set xs (begin + n) v) (begin + k) d ≡ f k) n
      (λ k l. written_other (begin + k) (λ same. omega arith) ∙ done k l)
      (written_here ∙ e)

  -- where only the places from one on do
  pub written_from : (from : ℕ) (f : ℕ → X) → v ≡ f n → ((k : ℕ) → from ≤ k → k < n → slice_index_or xs (begin + k) d ≡ f k)
      → (k : ℕ) → from ≤ k → k < n + 1 → slice_index_or (slice_set xs (begin + n) v) (begin + k) d ≡ f k
  written_from from f e done k le l =
      below_more (λ k. from ≤ k → slice_index_or (slice_set xs (begin + n) v) (begin + k) d ≡ f k) n
      (λ k l le. written_other (begin + k) (λ same. omega arith) ∙ done k le l)
      (λ le. written_here ∙ e) k l le

  pub written_behind : (ys : List X) → ((place : ℕ) → begin + n ≤ place → slice_index_or xs place d ≡ slice_index_or ys place d)
      → (place : ℕ) → begin + (n + 1) ≤ place → slice_index_or (slice_set xs (begin + n) v) place d ≡ slice_index_or ys place d
  written_behind ys rest place l = written_other place (λ same. omega arith) ∙ rest place (omega arith)

  pub kept_before : (from : ℕ) → from ≤ n → (ys : List X) → ((place : ℕ) → place < begin + from → slice_index_or xs place d ≡ slice_index_or ys place d)
      → (place : ℕ) → place < begin + from → slice_index_or (slice_set xs (begin + n) v) place d ≡ slice_index_or ys place d
  kept_before from le ys before place l = written_other place (λ same. omega arith) ∙ before place l

  pub written_before : (ys : List X) → ((place : ℕ) → place < begin → slice_index_or xs place d ≡ slice_index_or ys place d)
      → (place : ℕ) → place < begin → slice_index_or (slice_set xs (begin + n) v) place d ≡ slice_index_or ys place d
  written_before ys before place l = written_other place (λ same. omega arith) ∙ before place l
