-- What holds of each number of a list, and totals.
use Rattle.std.proofs.Common.{◌≡◌, ◌∙◌, ap, subst, ℕ, ◌+◌, ◌<◌, ◌++◌, ◌∷◌, [], List, length, get_or, take, arith, inl, inr}
use Rattle.std.proofs.Common.{false}
use lib.Signed.{lt_z}
use Rattle.std.specs.Prelude.{ℤ, pos, ◌+ℤ◌, ◌≤ℤ◌}
use Rattle.std.proofs.lemmas.Int.{ints}
use Rattle.std.proofs.lemmas.Bool.{cases_lt}
use Rattle.std.proofs.lemmas.List.{get_or_default, take_more}
use Rattle.cpl_state.specs.Diffusion.{total_of}

pub not_below : (a b : ℤ) → lt_z a b ≡ false → b ≤ℤ a
not_below a b h = grind (arith, ints)

pub each_more : (P : ℤ → Type 0) (xs : List ℤ) (i : ℕ) → i < length xs → ((k : ℕ) (d : ℤ) → k < i → P (get_or xs k d)) → P (get_or xs i (pos 0)) → (k : ℕ) (d : ℤ) → k < i + 1 → P (get_or xs k d)
each_more P xs i l before here k d h = elim (cases_lt k i) [
  | inl lt ↦ before k d lt
  | inr ge ↦
      let same : i ≡ k = omega arith in
      subst P (get_or_default xs i (pos 0) d l ∙ ap (λ k. get_or xs k d) same) here
]

total_of-push : (xs : List ℤ) (x : ℤ) → total_of (xs ++ x ∷ []) ≡ total_of xs +ℤ x
total_of-push [] x = omega (arith, ints)
total_of-push (y ∷ xs) x = let e = total_of-push xs x in omega (arith, ints)

pub total_more : (xs : List ℤ) (i : ℕ) → i < length xs → total_of (take (i + 1) xs) ≡ total_of (take i xs) +ℤ get_or xs i (pos 0)
total_more xs i l = ap total_of (take_more xs i (pos 0) l) ∙ total_of-push (take i xs) (get_or xs i (pos 0))
