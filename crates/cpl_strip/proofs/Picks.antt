-- What a function gives of the numbers below k: where each of it comes from.
use Rattle.std.proofs.Common.{◌≡◌, refl, sym, ◌∙◌, ap, subst, cond, ltb, ℕ, zero, suc, ◌<◌, ◌≤◌, arith, [], ◌∷◌, ◌++◌, length, get_or, Option, Some, None, inl, inr, ◌⊎◌}
use Rattle.std.specs.Option.{option_to_list}
use Rattle.std.proofs.lemmas.Bool.{cond-true, cond-false, lt-ltb, le-ltb, cases_lt}
use Rattle.std.proofs.lemmas.List.{append-nil, length-append, get_or_append_left, get_or_at}
use Rattle.cpl_strip.specs.Tables.{picks}

-- an option is none, or some value
pub cases_option : {X : Type 0} (o : Option X) → (o ≡ None) ⊎ ((x : X) × (o ≡ Some x))
cases_option None = inl refl
cases_option (Some x) = inr (x, refl)

-- one more number of which there is nothing, or something
pub pick_none : {Y : Type 0} (f : ℕ → Option Y) (k : ℕ) → f k ≡ None → picks f (suc k) ≡ picks f k
pick_none f k none = ap (λ o. picks f k ++ option_to_list o) none ∙ append-nil (picks f k)

pub pick_some : {Y : Type 0} (f : ℕ → Option Y) (k : ℕ) (y : Y) → f k ≡ Some y → picks f (suc k) ≡ picks f k ++ y ∷ []
pick_some f k y some = ap (λ o. picks f k ++ option_to_list o) some

-- the number that the i-th comes from
pub source : {Y : Type 0} → (ℕ → Option Y) → ℕ → ℕ → ℕ
source f zero i = 0
source f (suc k) i = cond (ltb i (length (picks f k))) (source f k i) k

-- what is known of it
pub record ComesFrom {Y : Type 0} (f : ℕ → Option Y) (k i m : ℕ) : Type 0 where
  pub below : m < k
  pub is : (d : Y) → f m ≡ Some (get_or (picks f k) i d)

-- the last number gave the last item
last_item : {Y : Type 0} (f : ℕ → Option Y) (k i : ℕ) → length (picks f k) ≤ i → i < length (picks f (suc k)) → (d : Y) → f k ≡ Some (get_or (picks f (suc k)) i d)
last_item f k i past below d = elim (cases_option (f k)) [
  | inl none ↦ absurd (let same = ap length (pick_none f k none) in omega arith)
  | inr (y, some) ↦
      let more = ap length (pick_some f k y some) ∙ length-append (picks f k) (y ∷ []) in
      let at : length (picks f k) ≡ i = omega arith in
      some ∙ ap Some (sym (ap (λ l. get_or l i d) (pick_some f k y some) ∙ get_or_at (picks f k) y [] d i at))
]

-- the i-th item comes from a number below k
pub comes_from : {Y : Type 0} (f : ℕ → Option Y) (k i : ℕ) → i < length (picks f k) → ComesFrom f k i (source f k i)
unfolding source
comes_from f zero i below = absurd (omega arith)
comes_from f (suc k) i below = elim (cases_lt i (length (picks f k))) [
  | inl before ↦
      let from = comes_from f k i before in
      let at = cond-true {A = ℕ} (ltb i (length (picks f k))) (source f k i) k (lt-ltb i (length (picks f k)) before) in
      subst (ComesFrom f (suc k) i) (sym at) (record {
        below = let b = from.below in omega arith;
        is = λ d. from.is d ∙ ap Some (sym (get_or_append_left (picks f k) (option_to_list (f k)) d i before));
      })
  | inr past ↦
      let at = cond-false {A = ℕ} (ltb i (length (picks f k))) (source f k i) k (le-ltb i (length (picks f k)) past) in
      subst (ComesFrom f (suc k) i) (sym at) (record { below = omega arith; is = λ d. last_item f k i past below d })
]

at_most_one : {Y : Type 0} (o : Option Y) → length (option_to_list o) ≤ 1
at_most_one None = omega arith
at_most_one (Some y) = omega arith

-- later items come from later numbers
pub source_order : {Y : Type 0} (f : ℕ → Option Y) (k i j : ℕ) → i < j → j < length (picks f k) → source f k i < source f k j
unfolding source
source_order f zero i j order below = absurd (omega arith)
source_order f (suc k) i j order below = elim (cases_lt j (length (picks f k))) [
  | inl before ↦
      let at_i = cond-true {A = ℕ} (ltb i (length (picks f k))) (source f k i) k (lt-ltb i (length (picks f k)) (omega arith)) in
      let at_j = cond-true {A = ℕ} (ltb j (length (picks f k))) (source f k j) k (lt-ltb j (length (picks f k)) before) in
      let rest = source_order f k i j order before in
      omega arith
  | inr past ↦
      let few : length (option_to_list (f k)) ≤ 1 = at_most_one (f k) in
      let all = length-append (picks f k) (option_to_list (f k)) in
      let before : i < length (picks f k) = omega arith in
      let at_i = cond-true {A = ℕ} (ltb i (length (picks f k))) (source f k i) k (lt-ltb i (length (picks f k)) before) in
      let at_j = cond-false {A = ℕ} (ltb j (length (picks f k))) (source f k j) k (le-ltb j (length (picks f k)) past) in
      let from = (comes_from f k i before).below in
      omega arith
]

-- what is given of a number below k is there
pub picked : {Y : Type 0} (f : ℕ → Option Y) (k m : ℕ) (y : Y) → m < k → f m ≡ Some y → (i : ℕ) × (i < length (picks f k)) × (source f k i ≡ m)
unfolding source
picked f zero m y below some = absurd (omega arith)
picked f (suc k) m y below some = elim (cases_lt m k) [
  | inl before ↦
      let rest = picked f k m y before some in
      let all = length-append (picks f k) (option_to_list (f k)) in
      let within = rest.1 in
      (rest.0, omega arith, cond-true {A = ℕ} (ltb rest.0 (length (picks f k))) (source f k rest.0) k (lt-ltb rest.0 (length (picks f k)) rest.1) ∙ rest.2)
  | inr last ↦
      let same : m ≡ k = omega arith in
      let more = ap length (pick_some f k y (sym (ap f same) ∙ some)) ∙ length-append (picks f k) (y ∷ []) in
      (length (picks f k), omega arith, cond-false {A = ℕ} (ltb (length (picks f k)) (length (picks f k))) (source f k (length (picks f k))) k (le-ltb (length (picks f k)) (length (picks f k)) (omega arith)) ∙ sym same)
]
