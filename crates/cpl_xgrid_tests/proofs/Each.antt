-- A fact of each item up to a place.
use Rattle.std.proofs.Common.{◌≡◌, subst, ℕ, ◌+◌, ◌<◌, arith, List, length, get_or, inl, inr}
use Rattle.std.proofs.lemmas.Bool.{cases_lt}
use Rattle.std.proofs.lemmas.List.{get_or_default}

pub each_more : {X : Type 0} (P : X → Type 0) (xs : List X) (n : ℕ) (d : X) → n < length xs → ((k : ℕ) (e : X) → k < n → P (get_or xs k e)) → P (get_or xs n d) → (k : ℕ) (e : X) → k < n + 1 → P (get_or xs k e)
each_more P xs n d within before here k e h = elim (cases_lt k n) [
  | inl less ↦ before k e less
  | inr past ↦
      let same : n ≡ k = omega arith in
      subst (λ (m : ℕ). P (get_or xs m e)) same (subst P (get_or_default xs n d e within) here)
]
