-- The first item that passes a test, by the numbers of those that pass, and a strip by its pieces.
use Rattle.std.proofs.Common.{◌≡◌, ◌∙◌, refl, sym, ap, subst, ℕ, zero, suc, ◌+◌, ◌-◌, ◌<◌, ◌≤◌, arith, inl, inr, Bool, true, List, [], ◌∷◌, length, get_or, Some, None}
use Rattle.std.specs.Prelude.{slice_get}
use Rattle.std.proofs.lemmas.Bool.{cond-true, cond-false, cases_Bool}
use Rattle.cpl_xgrid.specs.Groups.{numbers_from}
use Rattle.cpl_wires.specs.Tables.{first_that}

-- none passes
pub none_first : {T : Type 0} (test : T → Bool) (n : ℕ) (items : List T) → slice_get (numbers_from test n items) 0 ≡ None → first_that test items ≡ None
none_first test n [] none = refl
none_first test n (item ∷ items) none = elim (cases_Bool (test item)) [
  | inl good ↦ let head = ap (λ (xs : List ℕ). slice_get xs 0) (cond-true (test item) (n ∷ numbers_from test (n + 1) items) (numbers_from test (n + 1) items) good) in cc
  | inr bad ↦
      let rest = cond-false (test item) (n ∷ numbers_from test (n + 1) items) (numbers_from test (n + 1) items) bad in
      cond-false (test item) (Some item) (first_that test items) bad ∙ none_first test (n + 1) items (ap (λ (xs : List ℕ). slice_get xs 0) (sym rest) ∙ none)
]

-- the item of a number is the first that passes
pub record IsFirst {T : Type 0} (test : T → Bool) (items : List T) (k : ℕ) (d : T) : Type 0 where
  pub within : k < length items
  pub is : first_that test items ≡ Some (get_or items k d)

pub some_first : {T : Type 0} (test : T → Bool) (n m : ℕ) (items : List T) (d : T) → slice_get (numbers_from test n items) 0 ≡ Some m → (n ≤ m) × IsFirst test items (m - n) d
some_first test n m [] d is = cc
some_first test n m (item ∷ items) d is = elim (cases_Bool (test item)) [
  | inl good ↦
      let head = ap (λ (xs : List ℕ). slice_get xs 0) (cond-true (test item) (n ∷ numbers_from test (n + 1) items) (numbers_from test (n + 1) items) good) in
      let same : n ≡ m = cc in
      let at : 0 ≡ m - n = omega arith in
      (omega arith, subst (λ (k : ℕ). IsFirst test (item ∷ items) k d) at (record { within = omega arith; is = cond-true (test item) (Some item) (first_that test items) good }))
  | inr bad ↦
      let rest = cond-false (test item) (n ∷ numbers_from test (n + 1) items) (numbers_from test (n + 1) items) bad in
      let next = some_first test (n + 1) m items d (ap (λ (xs : List ℕ). slice_get xs 0) (sym rest) ∙ is) in
      let at : suc (m - (n + 1)) ≡ m - n = omega (arith, next.0) in (
        omega (arith, next.0),
        subst (λ (k : ℕ). IsFirst test (item ∷ items) k d) at (record {
          within = let l = next.1.within in omega arith;
          is = cond-false (test item) (Some item) (first_that test items) bad ∙ next.1.is;
        }),
      )
]

-- where all that pass are one, and one passes, it is the first
pub first_is : {T : Type 0} (test : T → Bool) (x : T) (items : List T) (k : ℕ) (d : T) → ((j : ℕ) → j < length items → test (get_or items j d) ≡ true → get_or items j d ≡ x)
    → k < length items → test (get_or items k d) ≡ true → first_that test items ≡ Some x
first_is test x [] k d only l passes = absurd (omega arith)
first_is test x (item ∷ items) zero d only l passes = cond-true (test item) (Some item) (first_that test items) passes ∙ ap Some (only 0 (omega arith) passes)
first_is test x (item ∷ items) (suc k) d only l passes = elim (cases_Bool (test item)) [
  | inl good ↦ cond-true (test item) (Some item) (first_that test items) good ∙ ap Some (only 0 (omega arith) good)
  | inr bad ↦ cond-false (test item) (Some item) (first_that test items) bad ∙ first_is test x items k d (λ j h. only (suc j) (omega arith)) (omega arith) passes
]

-- where none passes
pub first_none : {T : Type 0} (test : T → Bool) (items : List T) (d : T) → ((j : ℕ) → j < length items → test (get_or items j d) ≡ true → ⊥) → first_that test items ≡ None
first_none test [] d never = refl
first_none test (item ∷ items) d never = elim (cases_Bool (test item)) [
  | inl good ↦ absurd (never 0 (omega arith) good)
  | inr bad ↦ cond-false (test item) (Some item) (first_that test items) bad ∙ first_none test items d (λ j h. never (suc j) (omega arith))
]
