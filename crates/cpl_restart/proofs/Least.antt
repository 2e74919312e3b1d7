-- The least number that a test finds.
use Rattle.std.proofs.Common.{◌≡◌, ℕ, zero, suc, ◌+◌, ◌<◌, ◌≤◌, Bool, true, false, Some, None, refl, sym, ap, ◌∙◌, arith, inl, inr}
use Rattle.std.specs.List.{find, range_with_len}
use Rattle.std.proofs.lemmas.Bool.{cond-true, cond-false, cases_Bool, cases_eq}
use Rattle.cpl_restart.specs.Lawful.{least}

none_from : (test : ℕ → Bool) (a n : ℕ) → ((k : ℕ) → a ≤ k → k < a + n → test k ≡ false) → find test (range_with_len a n) ≡ None
none_from test a zero all = refl
none_from test a (suc n) all =
    cond-false (test a) (Some a) (find test (range_with_len (a + 1) n)) (all a (omega arith) (omega arith))
    ∙ none_from test (a + 1) n (λ k le lt. all k (omega arith) (omega arith))

-- where no number is found
pub least_none : (test : ℕ → Bool) (count : ℕ) → ((k : ℕ) → k < count → test k ≡ false) → least test count ≡ None
least_none test count all = none_from test 0 count (λ k le lt. all k (omega arith))

all_from : (test : ℕ → Bool) (a n k : ℕ) → find test (range_with_len a n) ≡ None → a ≤ k → k < a + n → test k ≡ false
all_from test a zero k e le lt = absurd (omega arith)
all_from test a (suc n) k e le lt = elim (cases_Bool (test a)) [
  | inl passes ↦ absurd (let h = cond-true (test a) (Some a) (find test (range_with_len (a + 1) n)) passes in cc)
  | inr fails ↦
      let rest = sym (cond-false (test a) (Some a) (find test (range_with_len (a + 1) n)) fails) ∙ e in
      elim (cases_eq a k) [
        | inl same ↦ rw same at fails
        | inr other ↦ all_from test (a + 1) n k rest (omega arith) (omega arith)
      ]
]

pub none_least : (test : ℕ → Bool) (count k : ℕ) → least test count ≡ None → k < count → test k ≡ false
none_least test count k e lt = all_from test 0 count k e (omega arith) (omega arith)

some_from : (test : ℕ → Bool) (a n k : ℕ) → a ≤ k → k < a + n → ((i : ℕ) → a ≤ i → i < k → test i ≡ false) → test k ≡ true → find test (range_with_len a n) ≡ Some k
some_from test a zero k le lt before here = absurd (omega arith)
some_from test a (suc n) k le lt before here = elim (cases_eq a k) [
  | inl same ↦ let passes : test a ≡ true = ap test same ∙ here in cond-true (test a) (Some a) (find test (range_with_len (a + 1) n)) passes ∙ ap (λ (i : ℕ). Some i) same
  | inr other ↦
      cond-false (test a) (Some a) (find test (range_with_len (a + 1) n)) (before a (omega arith) (omega arith))
      ∙ some_from test (a + 1) n k (omega arith) (omega arith) (λ i le lt. before i (omega arith) lt) here
]

-- where this number is the first that is found
pub least_some : (test : ℕ → Bool) (count k : ℕ) → k < count → ((i : ℕ) → i < k → test i ≡ false) → test k ≡ true → least test count ≡ Some k
least_some test count k lt before here = some_from test 0 count k (omega arith) (omega arith) (λ i le lt. before i lt) here
