-- Lists over ranges of numbers: what of them passes a test, and their sums.
use Rattle.std.proofs.Common.{◌≡◌, refl, sym, ◌∙◌, ap, Bool, true, false, cond, not, ℕ, zero, suc, ◌+◌, ◌-◌, ◌<◌, ◌≤◌, arith, List, [], ◌∷◌, ◌++◌, append_assoc, map, Some, None, inl, inr}
use Rattle.std.specs.Prelude.{ℤ, pos, ◌+ℤ◌, All}
use Rattle.std.specs.List.{filter, find, flat_map, range_with_len, list_any}
use Rattle.std.proofs.lemmas.Int.{ints}
use Rattle.std.proofs.lemmas.Bool.{cond-true, cond-false, cases_Bool, cases_eq, or_left, or_right}
use Rattle.std.proofs.lemmas.List.{append-nil, map-append}
use Rattle.std.proofs.lemmas.List.Concat.{flat_map-append}
use Rattle.std.proofs.lemmas.List.Elements.{filter-append, All-append, All-nil}
use Rattle.cpl_fixed.specs.Totals.{total_of}

-- FILTERS

-- a range whose numbers all fail a test, and one whose numbers all pass it
pub filter_none : (p : ℕ → Bool) (a n : ℕ) → ((k : ℕ) → a ≤ k → k < a + n → p k ≡ false) → filter p (range_with_len a n) ≡ []
filter_none p a zero none = refl
filter_none p a (suc n) none =
    cond-false (p a) (a ∷ filter p (range_with_len (a + 1) n)) (filter p (range_with_len (a + 1) n)) (none a (omega arith) (omega arith))
    ∙ filter_none p (a + 1) n (λ k le lt. none k (omega arith) (omega arith))

pub filter_whole : (p : ℕ → Bool) (a n : ℕ) → ((k : ℕ) → a ≤ k → k < a + n → p k ≡ true) → filter p (range_with_len a n) ≡ range_with_len a n
filter_whole p a zero all = refl
filter_whole p a (suc n) all =
    cond-true (p a) (a ∷ filter p (range_with_len (a + 1) n)) (filter p (range_with_len (a + 1) n)) (all a (omega arith) (omega arith))
    ∙ ap (λ (l : List ℕ). a ∷ l) (filter_whole p (a + 1) n (λ k le lt. all k (omega arith) (omega arith)))

-- a range in two parts
pub range_split : (a m n : ℕ) → range_with_len a (m + n) ≡ range_with_len a m ++ range_with_len (a + m) n
range_split a zero n =
    let none : zero + n ≡ n = omega arith in
    let start : a ≡ a + zero = omega arith in
    ap (range_with_len a) none ∙ ap (λ (b : ℕ). range_with_len b n) start
range_split a (suc m) n =
    let more : suc m + n ≡ suc (m + n) = omega arith in
    let start : (a + 1) + m ≡ a + suc m = omega arith in
    ap (range_with_len a) more
    ∙ ap (λ (l : List ℕ). a ∷ l) (range_split (a + 1) m n ∙ ap (λ (b : ℕ). range_with_len (a + 1) m ++ range_with_len b n) start)

-- the numbers of a range that pass a test which exactly those from low to high pass
pub filter_range : (p : ℕ → Bool) (n low high : ℕ) → low ≤ high → high ≤ n
    → ((k : ℕ) → k < low → p k ≡ false) → ((k : ℕ) → low ≤ k → k < high → p k ≡ true) → ((k : ℕ) → high ≤ k → k < n → p k ≡ false)
    → filter p (range_with_len 0 n) ≡ range_with_len low (high - low)
filter_range p n low high order within before inside after =
    let whole : n ≡ low + ((high - low) + (n - high)) = omega arith in
    let first : 0 + low ≡ low = omega arith in
    let last : low + (high - low) ≡ high = omega arith in
    let others = range_with_len low (high - low) ++ range_with_len high (n - high) in
    let cut : range_with_len 0 n ≡ range_with_len 0 low ++ (range_with_len low (high - low) ++ range_with_len high (n - high)) =
    ap (range_with_len 0) whole ∙ range_split 0 low ((high - low) + (n - high))
    ∙ ap (λ (a : ℕ). range_with_len 0 low ++ range_with_len a ((high - low) + (n - high))) first
    ∙ ap (λ (l : List ℕ). range_with_len 0 low ++ l) (range_split low (high - low) (n - high) ∙ ap (λ (a : ℕ). range_with_len low (high - low) ++ range_with_len a (n - high)) last) in
    let none = filter_none p 0 low (λ k le lt. before k (omega arith)) in
    let some = filter_whole p low (high - low) (λ k le lt. inside k le (omega arith)) in
    let rest = filter_none p high (n - high) (λ k le lt. after k le (omega arith)) in
    ap (filter p) cut ∙ filter-append p (range_with_len 0 low) others
    ∙ ap (λ (l : List ℕ). l ++ filter p others) none
    ∙ filter-append p (range_with_len low (high - low)) (range_with_len high (n - high))
    ∙ ap (λ (l : List ℕ). l ++ filter p (range_with_len high (n - high))) some
    ∙ ap (λ (l : List ℕ). range_with_len low (high - low) ++ l) rest
    ∙ append-nil (range_with_len low (high - low))

-- one number more
pub range_push : (a n : ℕ) → range_with_len a (n + 1) ≡ range_with_len a n ++ (a + n) ∷ []
range_push a n = range_split a n 1

pub filter_push : (p : ℕ → Bool) (a n : ℕ) → filter p (range_with_len a (n + 1)) ≡ filter p (range_with_len a n) ++ filter p ((a + n) ∷ [])
filter_push p a n = ap (filter p) (range_push a n) ∙ filter-append p (range_with_len a n) ((a + n) ∷ [])

-- ELEMENTS

-- what holds of each number of a range
pub All-range : (P : ℕ → Type 0) (a n : ℕ) → ((k : ℕ) → a ≤ k → k < a + n → P k) → All P (range_with_len a n)
All-range P a zero each k d below = absurd (omega arith)
All-range P a (suc n) each zero d below = each a (omega arith) (omega arith)
All-range P a (suc n) each (suc k) d below = All-range P (a + 1) n (λ m le lt. each m (omega arith) (omega arith)) k d (omega arith)

-- what holds of each element of lists that are made of the numbers of a range
pub All-flat_range : {X : Type 0} (P : X → Type 0) (f : ℕ → List X) (a n : ℕ) → ((k : ℕ) → a ≤ k → k < a + n → All P (f k)) → All P (flat_map f (range_with_len a n))
All-flat_range P f a zero each = All-nil P
All-flat_range P f a (suc n) each =
    All-append P (f a) (flat_map f (range_with_len (a + 1) n)) (each a (omega arith) (omega arith))
    (All-flat_range P f (a + 1) n (λ k le lt. each k (omega arith) (omega arith)))

-- a number of a range that passes both tests
pub any_in_range : {X : Type 0} (test : X → Bool) (f : ℕ → X) (p : ℕ → Bool) (a n k : ℕ) → a ≤ k → k < a + n → p k ≡ true → test (f k) ≡ true → list_any test (map f (filter p (range_with_len a n))) ≡ true
any_in_range test f p a zero k le lt passes holds = absurd (omega arith)
any_in_range test f p a (suc n) k le lt passes holds =
    elim (cases_eq a k) [
      | inl same ↦
          let own : p a ≡ true = ap p same ∙ passes in
          let here : test (f a) ≡ true = ap (λ (m : ℕ). test (f m)) same ∙ holds in
          ap (λ (l : List ℕ). list_any test (map f l)) (cond-true (p a) (a ∷ filter p (range_with_len (a + 1) n)) (filter p (range_with_len (a + 1) n)) own)
          ∙ or_left (test (f a)) (list_any test (map f (filter p (range_with_len (a + 1) n)))) here
      | inr other ↦
          let later = any_in_range test f p (a + 1) n k (omega arith) (omega arith) passes holds in
          elim (cases_Bool (p a)) [
            | inl own ↦
                ap (λ (l : List ℕ). list_any test (map f l)) (cond-true (p a) (a ∷ filter p (range_with_len (a + 1) n)) (filter p (range_with_len (a + 1) n)) own)
                ∙ or_right (test (f a)) (list_any test (map f (filter p (range_with_len (a + 1) n)))) later
            | inr fails ↦ ap (λ (l : List ℕ). list_any test (map f l)) (cond-false (p a) (a ∷ filter p (range_with_len (a + 1) n)) (filter p (range_with_len (a + 1) n)) fails) ∙ later
          ]
    ]

-- SUMS

-- all are nothing, and all but one
pub total_nothing : (g : ℕ → ℤ) (a n : ℕ) → ((k : ℕ) → a ≤ k → k < a + n → g k ≡ pos 0) → total_of (map g (range_with_len a n)) ≡ pos 0
total_nothing g a zero none = refl
total_nothing g a (suc n) none =
    let first = none a (omega arith) (omega arith) in
    let rest = total_nothing g (a + 1) n (λ k le lt. none k (omega arith) (omega arith)) in
    omega (arith, ints, first, rest)

pub total_one : (g : ℕ → ℤ) (a n m : ℕ) → a ≤ m → m < a + n → ((k : ℕ) → a ≤ k → k < a + n → (k ≡ m → ⊥) → g k ≡ pos 0) → total_of (map g (range_with_len a n)) ≡ g m
total_one g a zero m le lt none = absurd (omega arith)
total_one g a (suc n) m le lt none = elim (cases_eq a m) [
  | inl same ↦
      let own : g a ≡ g m = ap g same in
      let rest = total_nothing g (a + 1) n (λ k le lt. none k (omega arith) (omega arith) (λ e. omega arith)) in
      omega (arith, ints, own, rest)
  | inr other ↦
      let first = none a (omega arith) (omega arith) other in
      let rest = total_one g (a + 1) n m (omega arith) (omega arith) (λ k le lt ne. none k (omega arith) (omega arith) ne) in
      omega (arith, ints, first, rest)
]

-- what passes a test and what fails it sum to all
pub total_split : (g : ℕ → ℤ) (p : ℕ → Bool) (ns : List ℕ) → total_of (map g (filter p ns)) +ℤ total_of (map g (filter (λ n. not (p n)) ns)) ≡ total_of (map g ns)
total_split g p [] = refl
total_split g p (n ∷ ns) =
    let rest = total_split g p ns in
    elim (cases_Bool (p n)) [
      | inl own ↦
          let first : total_of (map g (filter p (n ∷ ns))) ≡ g n +ℤ total_of (map g (filter p ns)) = ap (λ (b : Bool). total_of (map g (cond b (n ∷ filter p ns) (filter p ns)))) own in
          let second : total_of (map g (filter (λ m. not (p m)) (n ∷ ns))) ≡ total_of (map g (filter (λ m. not (p m)) ns)) = ap (λ (b : Bool). total_of (map g (cond (not b) (n ∷ filter (λ m. not (p m)) ns) (filter (λ m. not (p m)) ns)))) own in
          omega (arith, ints, first, second, rest)
      | inr own ↦
          let first : total_of (map g (filter p (n ∷ ns))) ≡ total_of (map g (filter p ns)) = ap (λ (b : Bool). total_of (map g (cond b (n ∷ filter p ns) (filter p ns)))) own in
          let second : total_of (map g (filter (λ m. not (p m)) (n ∷ ns))) ≡ g n +ℤ total_of (map g (filter (λ m. not (p m)) ns)) = ap (λ (b : Bool). total_of (map g (cond (not b) (n ∷ filter (λ m. not (p m)) ns) (filter (λ m. not (p m)) ns)))) own in
          omega (arith, ints, first, second, rest)
    ]

-- LOOPS

-- one number more, which passes the test or fails it
kept_more : {X : Type 0} (f : ℕ → X) (p : ℕ → Bool) (a o : ℕ) → a ≤ o → p o ≡ true → map f (filter p (range_with_len a (o + 1 - a))) ≡ map f (filter p (range_with_len a (o - a))) ++ f o ∷ []
kept_more f p a o le passes =
    let count : o + 1 - a ≡ (o - a) + 1 = omega arith in
    let at : a + (o - a) ≡ o = omega arith in
    ap (λ (n : ℕ). map f (filter p (range_with_len a n))) count
    ∙ ap (map f) (filter_push p a (o - a) ∙ ap (λ (m : ℕ). filter p (range_with_len a (o - a)) ++ filter p (m ∷ [])) at ∙ ap (λ (l : List ℕ). filter p (range_with_len a (o - a)) ++ l) (cond-true (p o) (o ∷ []) [] passes))
    ∙ map-append f (filter p (range_with_len a (o - a))) (o ∷ [])

left_more : {X : Type 0} (f : ℕ → X) (p : ℕ → Bool) (a o : ℕ) → a ≤ o → p o ≡ false → map f (filter p (range_with_len a (o + 1 - a))) ≡ map f (filter p (range_with_len a (o - a)))
left_more f p a o le fails =
    let count : o + 1 - a ≡ (o - a) + 1 = omega arith in
    let at : a + (o - a) ≡ o = omega arith in
    ap (λ (n : ℕ). map f (filter p (range_with_len a n))) count
    ∙ ap (map f) (filter_push p a (o - a) ∙ ap (λ (m : ℕ). filter p (range_with_len a (o - a)) ++ filter p (m ∷ [])) at ∙ ap (λ (l : List ℕ). filter p (range_with_len a (o - a)) ++ l) (cond-false (p o) (o ∷ []) [] fails) ∙ append-nil (filter p (range_with_len a (o - a))))

-- the same from 0 on
pub kept_next : {X : Type 0} (f : ℕ → X) (p : ℕ → Bool) (n : ℕ) → p n ≡ true → map f (filter p (range_with_len 0 (n + 1))) ≡ map f (filter p (range_with_len 0 n)) ++ f n ∷ []
kept_next f p n passes =
    let now : n - 0 ≡ n = omega arith in
    let next : n + 1 - 0 ≡ n + 1 = omega arith in
    ap (λ (m : ℕ). map f (filter p (range_with_len 0 m))) (sym next) ∙ kept_more f p 0 n (omega arith) passes ∙ ap (λ (m : ℕ). map f (filter p (range_with_len 0 m)) ++ f n ∷ []) now

pub left_next : {X : Type 0} (f : ℕ → X) (p : ℕ → Bool) (n : ℕ) → p n ≡ false → map f (filter p (range_with_len 0 (n + 1))) ≡ map f (filter p (range_with_len 0 n))
left_next f p n fails =
    let now : n - 0 ≡ n = omega arith in
    let next : n + 1 - 0 ≡ n + 1 = omega arith in
    ap (λ (m : ℕ). map f (filter p (range_with_len 0 m))) (sym next) ∙ left_more f p 0 n (omega arith) fails ∙ ap (λ (m : ℕ). map f (filter p (range_with_len 0 m))) now

-- behind other elements, one number more that passes the test or fails it
pub pushed : {X : Type 0} (f : ℕ → X) (p : ℕ → Bool) (a o : ℕ) (xs ys : List X) (x : X) → a ≤ o → p o ≡ true → x ≡ f o → ys ≡ xs ++ map f (filter p (range_with_len a (o - a)))
    → ys ++ x ∷ [] ≡ xs ++ map f (filter p (range_with_len a (o + 1 - a)))
pushed {X} f p a o xs ys x le passes same so_far =
    (λ i. so_far i ++ same i ∷ [])
    ∙ append_assoc xs (map f (filter p (range_with_len a (o - a)))) (f o ∷ [])
    ∙ ap (λ (l : List X). xs ++ l) (sym (kept_more f p a o le passes))

pub passed_over : {X : Type 0} (f : ℕ → X) (p : ℕ → Bool) (a o : ℕ) (xs ys : List X) → a ≤ o → p o ≡ false → ys ≡ xs ++ map f (filter p (range_with_len a (o - a)))
    → ys ≡ xs ++ map f (filter p (range_with_len a (o + 1 - a)))
passed_over {X} f p a o xs ys le fails so_far = so_far ∙ ap (λ (l : List X). xs ++ l) (sym (left_more f p a o le fails))

-- the lists of one number more
pub flat_more : {X : Type 0} (f : ℕ → List X) (n : ℕ) → flat_map f (range_with_len 0 (n + 1)) ≡ flat_map f (range_with_len 0 n) ++ f n
flat_more {X} f n =
    let at : 0 + n ≡ n = omega arith in
    ap (flat_map f) (range_push 0 n ∙ ap (λ (m : ℕ). range_with_len 0 n ++ m ∷ []) at)
    ∙ flat_map-append f (range_with_len 0 n) (n ∷ [])
    ∙ ap (λ (l : List X). flat_map f (range_with_len 0 n) ++ l) (append-nil (f n))

-- SEARCHES

pub find_none : (p : ℕ → Bool) (a n : ℕ) → ((k : ℕ) → a ≤ k → k < a + n → p k ≡ false) → find p (range_with_len a n) ≡ None
find_none p a zero none = refl
find_none p a (suc n) none =
    cond-false (p a) (Some a) (find p (range_with_len (a + 1) n)) (none a (omega arith) (omega arith))
    ∙ find_none p (a + 1) n (λ k le lt. none k (omega arith) (omega arith))

pub find_first : (p : ℕ → Bool) (a n k : ℕ) → a ≤ k → k < a + n → ((i : ℕ) → a ≤ i → i < k → p i ≡ false) → p k ≡ true → find p (range_with_len a n) ≡ Some k
find_first p a zero k le lt none here = absurd (omega arith)
find_first p a (suc n) k le lt none here = elim (cases_eq a k) [
  | inl same ↦
      let own : p a ≡ true = ap p same ∙ here in
      cond-true (p a) (Some a) (find p (range_with_len (a + 1) n)) own ∙ ap (λ (m : ℕ). Some m) same
  | inr other ↦
      cond-false (p a) (Some a) (find p (range_with_len (a + 1) n)) (none a (omega arith) (omega arith))
      ∙ find_first p (a + 1) n k (omega arith) (omega arith) (λ i le lt. none i (omega arith) lt) here
]

-- what was found lies in the range and passes
pub find_passes : (p : ℕ → Bool) (a n k : ℕ) → find p (range_with_len a n) ≡ Some k → (k < a + n) × (p k ≡ true)
find_passes p a zero k e = absurd (cc)
find_passes p a (suc n) k e = elim (cases_Bool (p a)) [
  | inl own ↦
      let found : Some a ≡ Some k = sym (cond-true (p a) (Some a) (find p (range_with_len (a + 1) n)) own) ∙ e in
      let same : a ≡ k = cc in
      (omega arith, sym (ap p same) ∙ own)
  | inr fails ↦
      let later = find_passes p (a + 1) n k (sym (cond-false (p a) (Some a) (find p (range_with_len (a + 1) n)) fails) ∙ e) in
      let below = later.0 in
      (omega arith, later.1)
]

-- none yet
pub none_yet : {X : Type 0} (f : ℕ → X) (p : ℕ → Bool) (a o : ℕ) (xs : List X) → o ≡ a → xs ≡ xs ++ map f (filter p (range_with_len a (o - a)))
none_yet f p a o xs same =
    let none : o - a ≡ 0 = omega arith in
    sym (append-nil xs) ∙ ap (λ (n : ℕ). xs ++ map f (filter p (range_with_len a n))) (sym none)
