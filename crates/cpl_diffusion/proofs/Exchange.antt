-- What flows out of sides adds up to nothing, where each flows into its mate.
use Rattle.std.proofs.Common.{◌≡◌, ◌∙◌, refl, sym, ap, ℕ, zero, suc, ◌<◌, ◌≤◌, arith, Option, Some, None, cond, nat_eq, inl, inr}
use Rattle.std.specs.Prelude.{ℤ, pos, ◌-ℤ◌}
use Rattle.std.proofs.lemmas.Int.{ints}
use Rattle.std.proofs.lemmas.Bool.{cases_eq}
use Rattle.std.proofs.lemmas.Bool.Decides.{nat_tests}
use Rattle.cpl_diffusion.proofs.Sums.{sum_to, sum_to-same, sum_to-none, sum_to-cross}

-- the flow into this side, where there is one: nothing at a wall
abbrev pub through : Option ℕ → (ℕ → ℤ) → ℤ
through None flow = pos 0
through (Some other) flow = flow other

-- what flows out of a side
abbrev pub out : (ℕ → Option ℕ) → (ℕ → ℕ → ℤ) → ℕ → ℤ
out mate flow side = through (mate side) (flow side)

-- the flow into one side, where it goes there
abbrev hit : Option ℕ → ℕ → ℤ → ℤ
hit None q v = pos 0
hit (Some r) q v = cond (nat_eq r q) v (pos 0)

is_hit : (r q : ℕ) (v : ℤ) → r ≡ q → cond (nat_eq r q) v (pos 0) ≡ v
is_hit r q v e = grind (arith, nat_tests)

is_miss : (r q : ℕ) (v : ℤ) → (r ≡ q → ⊥) → cond (nat_eq r q) v (pos 0) ≡ pos 0
is_miss r q v ne = grind (arith, nat_tests)

sum_to-misses : (f : ℕ → ℤ) (r n : ℕ) → n ≤ r → sum_to (λ q. cond (nat_eq r q) (f q) (pos 0)) n ≡ pos 0
sum_to-misses f r n le = sum_to-none (λ q. cond (nat_eq r q) (f q) (pos 0)) n (λ q l. is_miss r q (f q) (λ e. omega arith))

sum_to-hit : (f : ℕ → ℤ) (r n : ℕ) → r < n → sum_to (λ q. cond (nat_eq r q) (f q) (pos 0)) n ≡ f r
sum_to-hit f r zero lt = absurd (omega arith)
sum_to-hit f r (suc n) lt = elim (cases_eq r n) [
  | inl e ↦
      let a = sum_to-misses f r n (omega arith) in
      let b = is_hit r n (f n) e in
      let c = ap f e in
      omega (arith, ints)
  | inr ne ↦
      let a = sum_to-hit f r n (omega arith) in
      let b = is_miss r n (f n) ne in
      omega (arith, ints)
]

row : (o : Option ℕ) (f : ℕ → ℤ) (n : ℕ) → ((q : ℕ) → o ≡ Some q → q < n) → sum_to (λ q. hit o q (f q)) n ≡ through o f
row None f n within = sum_to-none (λ q. pos 0) n (λ q l. refl)
row (Some r) f n within = sum_to-hit f r n (within r refl)

turned : (a b : Option ℕ) (p q : ℕ) (v w : ℤ) → (a ≡ Some q → b ≡ Some p) → (b ≡ Some p → a ≡ Some q) → v ≡ pos 0 -ℤ w → hit a q v ≡ pos 0 -ℤ hit b p w
turned None None p q v w there back e = refl
turned None (Some s) p q v w there back e = elim (cases_eq s p) [
  | inl is ↦ let no = back (ap Some is) in absurd (cc no)
  | inr ne ↦ ap (λ x. pos 0 -ℤ x) (sym (is_miss s p w ne))
]
turned (Some r) None p q v w there back e = elim (cases_eq r q) [
  | inl is ↦ let no = there (ap Some is) in absurd (cc no)
  | inr ne ↦ is_miss r q v ne
]
turned (Some r) (Some s) p q v w there back e = elim (cases_eq r q) [
  | inl is ↦
      let other : s ≡ p = let d = there (ap Some is) in cc in
      is_hit r q v is ∙ e ∙ ap (λ x. pos 0 -ℤ x) (sym (is_hit s p w other))
  | inr ne ↦
      let other : s ≡ p → ⊥ = λ same. ne (let d = back (ap Some same) in cc) in
      is_miss r q v ne ∙ ap (λ x. pos 0 -ℤ x) (sym (is_miss s p w other))
]

-- mates of sides below n are each other's, and below n
abbrev pub AreMates : (ℕ → Option ℕ) → ℕ → Type 0
AreMates mate n = (p q : ℕ) → p < n → mate p ≡ Some q → (mate q ≡ Some p) × (q < n)

pub exchanged : (mate : ℕ → Option ℕ) (flow : ℕ → ℕ → ℤ) (n : ℕ) → AreMates mate n → ((p q : ℕ) → flow p q ≡ pos 0 -ℤ flow q p) → sum_to (out mate flow) n ≡ pos 0
exchanged mate flow n mates back =
    sum_to-same (out mate flow) (λ p. sum_to (λ q. hit (mate p) q (flow p q)) n) n (λ p l. sym (row (mate p) (flow p) n (λ q e. (mates p q l e).1)))
    ∙ sum_to-cross (λ p q. hit (mate p) q (flow p q)) n (λ p q l m. turned (mate p) (mate q) p q (flow p q) (flow q p) (λ e. (mates p q l e).0) (λ e. (mates q p m e).0) (back p q))
