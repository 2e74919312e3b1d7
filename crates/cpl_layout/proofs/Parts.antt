-- Parts of a row of cells: where they begin and end, and which part a cell lies in.
use Rattle.std.proofs.Common.{◌≡◌, refl, sym, ap, subst, Bool, true, false, cond, ltb, leb, ℕ, zero, suc, ◌+◌, ◌-◌, ◌*◌, ◌<◌, ◌≤◌, arith, inl, inr}
use Rattle.std.specs.Prelude.{◌/◌, ◌%◌, min, count_by}
use Rattle.std.specs.List.{range_with_len}
use Rattle.std.proofs.lemmas.Bool.{cond-true, cond-false, lt-ltb, le-ltb, le-leb, lt-leb, cases_lt, cases_order}
use Rattle.std.proofs.lemmas.List.Sums.{sum_by-cons}
use Rattle.std.proofs.lemmas.Nat.{div-add-mod', div_below, mod_below, le-div}
use Rattle.cpl_layout.specs.Extents.{extent_length, extent_start, part_of, ExtentsCover}

pub length_long : (n parts p : ℕ) → p < n % parts → extent_length n parts p ≡ n / parts + 1
length_long n parts p h = cond-true (ltb p (n % parts)) (n / parts + 1) (n / parts) (lt-ltb p (n % parts) h)

pub length_short : (n parts p : ℕ) → n % parts ≤ p → extent_length n parts p ≡ n / parts
length_short n parts p h = cond-false (ltb p (n % parts)) (n / parts + 1) (n / parts) (le-ltb p (n % parts) h)

-- where a part begins, in closed form
pub start_is : (n parts p : ℕ) → extent_start n parts p ≡ p * (n / parts) + min p (n % parts)
start_is n parts zero = omega arith
start_is n parts (suc p) =
    let before = start_is n parts p in
    elim (cases_lt p (n % parts)) [
      | inl h ↦ let long = length_long n parts p h in omega arith
      | inr h ↦ let short = length_short n parts p h in omega arith
    ]

-- a part ends before each later one begins
pub start_after : (n parts p k : ℕ) → p < k → extent_start n parts p + extent_length n parts p ≤ extent_start n parts k
start_after n parts p zero h = absurd (omega arith)
start_after n parts p (suc k) h = elim (cases_order p k) [
  | inl same ↦ subst (λ (m : ℕ). extent_start n parts p + extent_length n parts p ≤ extent_start n parts m + extent_length n parts m) same (omega arith)
  | inr (inl before) ↦ let rest = start_after n parts p k before in omega arith
  | inr (inr past) ↦ absurd (omega arith)
]

-- the last part ends at n
pub end_is : (n parts : ℕ) → 1 ≤ parts → extent_start n parts parts ≡ n
end_is n parts some =
    let at = start_is n parts parts in
    let whole = div-add-mod' n parts in
    let rest = mod_below n parts (omega arith) in
    omega arith

pub length_some : (n parts p : ℕ) → 1 ≤ parts → parts ≤ n → 1 ≤ extent_length n parts p
length_some n parts p some enough =
    let least = le-div 1 n parts (omega arith) (omega arith) in
    elim (cases_lt p (n % parts)) [
      | inl h ↦ let long = length_long n parts p h in omega arith
      | inr h ↦ let short = length_short n parts p h in omega arith
    ]

pub part_within : (n parts p : ℕ) → 1 ≤ parts → p < parts → extent_start n parts p + extent_length n parts p ≤ n
part_within n parts p some below =
    let last = end_is n parts some in
    let after = start_after n parts p parts below in
    omega arith

pub extents_cover : (n parts : ℕ) → 1 ≤ parts → parts ≤ n → ExtentsCover n parts
extents_cover n parts some enough = record {
  first = refl;
  next = λ p. let next : p + 1 ≡ suc p = omega arith in ap (extent_start n parts) next;
  last = end_is n parts some;
  some = λ p below. length_some n parts p some enough;
}

-- a test that fails from p on never passes there
count_none : (test : ℕ → Bool) (from len p : ℕ) → p ≤ from → ((k : ℕ) → p ≤ k → test k ≡ false) → count_by test (range_with_len from len) ≡ 0
count_none test from zero p low fails = refl
count_none test from (suc len) p low fails =
    let step : count_by test (range_with_len from (suc len)) ≡ cond (test from) 1 0 + count_by test (range_with_len (from + 1) len) = sum_by-cons (λ k. cond (test k) 1 0) from (range_with_len (from + 1) len) in
    let first : cond {A = ℕ} (test from) 1 0 ≡ 0 = cond-false {A = ℕ} (test from) 1 0 (fails from low) in
    let rest = count_none test (from + 1) len p (omega arith) fails in
    omega arith

-- a test that passes below p and fails from p on passes p times
count_upto : (test : ℕ → Bool) (from len p : ℕ) → from ≤ p → p ≤ from + len → ((k : ℕ) → k < p → test k ≡ true) → ((k : ℕ) → p ≤ k → test k ≡ false) → count_by test (range_with_len from len) + from ≡ p
count_upto test from zero p low high passes fails = omega arith
count_upto test from (suc len) p low high passes fails =
    let step : count_by test (range_with_len from (suc len)) ≡ cond (test from) 1 0 + count_by test (range_with_len (from + 1) len) = sum_by-cons (λ k. cond (test k) 1 0) from (range_with_len (from + 1) len) in
    elim (cases_lt from p) [
      | inl below ↦
          let first : cond {A = ℕ} (test from) 1 0 ≡ 1 = cond-true {A = ℕ} (test from) 1 0 (passes from below) in
          let rest = count_upto test (from + 1) len p (omega arith) (omega arith) passes fails in
          omega arith
      | inr above ↦
          let first : cond {A = ℕ} (test from) 1 0 ≡ 0 = cond-false {A = ℕ} (test from) 1 0 (fails from (omega arith)) in
          let rest = count_none test (from + 1) len p (omega arith) fails in
          omega arith
    ]

-- a cell before the end of a part is before the end of each later one
before_end : (n parts i p k : ℕ) → i < extent_start n parts p + extent_length n parts p → p ≤ k → i < extent_start n parts k + extent_length n parts k
before_end n parts i p k high from = elim (cases_order p k) [
  | inl same ↦ subst (λ (m : ℕ). i < extent_start n parts m + extent_length n parts m) same high
  | inr (inl before) ↦ let after = start_after n parts p k before in omega arith
  | inr (inr later) ↦ absurd (omega arith)
]

-- the part whose extent has the cell is the cell's part
pub part_is : (n parts i p : ℕ) → p < parts → extent_start n parts p ≤ i → i < extent_start n parts p + extent_length n parts p → part_of n parts i ≡ p
part_is n parts i p below low high =
    let count = count_upto (λ k. leb (extent_start n parts k + extent_length n parts k) i) 0 parts p (omega arith) (omega arith)
    (λ k before. le-leb (extent_start n parts k + extent_length n parts k) i (let after = start_after n parts k p before in omega arith))
    (λ k from. lt-leb (extent_start n parts k + extent_length n parts k) i (before_end n parts i p k high from)) in
    omega arith

-- a part that has the cell
pub record HasCell (n parts i p : ℕ) : Type 0 where
  pub below : p < parts
  pub low : extent_start n parts p ≤ i
  pub high : i < extent_start n parts p + extent_length n parts p

-- the first parts have each cell before the end of the last of them
found : (n parts i k : ℕ) → k ≤ parts → i < extent_start n parts k → (p : ℕ) × HasCell n parts i p
found n parts i zero most before = absurd (omega arith)
found n parts i (suc k) most before = elim (cases_lt i (extent_start n parts k)) [
  | inl earlier ↦ found n parts i k (omega arith) earlier
  | inr here ↦ (k, record { below = omega arith; low = here; high = before })
]

-- each cell lies in its part
pub in_part : (n parts i : ℕ) → 1 ≤ parts → i < n → HasCell n parts i (part_of n parts i)
in_part n parts i some within =
    let last = end_is n parts some in
    let has = found n parts i parts (omega arith) (omega arith) in
    let same = part_is n parts i has.0 has.1.below has.1.low has.1.high in
    subst (HasCell n parts i) (sym same) has.1

-- among the longer parts
pub in_longer : (n parts i : ℕ) → 1 ≤ parts → i < n % parts * (n / parts + 1) → HasCell n parts i (i / (n / parts + 1))
in_longer n parts i some within =
    let p = i / (n / parts + 1) in
    let below : i / (n / parts + 1) < n % parts = div_below i (n / parts + 1) (n % parts) (omega arith) within in
    let most = mod_below n parts (omega arith) in
    let start = start_is n parts (i / (n / parts + 1)) in
    let long = length_long n parts (i / (n / parts + 1)) below in
    let split = div-add-mod' i (n / parts + 1) in
    let rest = mod_below i (n / parts + 1) (omega arith) in
    record { below = omega arith; low = omega arith; high = omega arith }

-- among the others: m of them, each with q cells
others : (m r q k i n parts : ℕ) → m + r ≡ parts → parts * q + r ≡ n → i < n → k + r * (q + 1) ≡ i → k < m * q
others m r q k i n parts all whole within at =
    let parts_is : (m + r) * q + r ≡ n = subst (λ (x : ℕ). x * q + r ≡ n) (sym all) whole in
    omega arith

pub in_shorter : (n parts i : ℕ) → 1 ≤ parts → parts ≤ n → i < n → n % parts * (n / parts + 1) ≤ i → HasCell n parts i (n % parts + (i - n % parts * (n / parts + 1)) / (n / parts))
in_shorter n parts i some enough within past =
    let k = i - n % parts * (n / parts + 1) in
    let least = le-div 1 n parts (omega arith) (omega arith) in
    let whole = div-add-mod' n parts in
    let most = mod_below n parts (omega arith) in
    let at : (i - n % parts * (n / parts + 1)) + n % parts * (n / parts + 1) ≡ i = omega arith in
    let few = others (parts - n % parts) (n % parts) (n / parts) (i - n % parts * (n / parts + 1)) i n parts (omega arith) (omega arith) within at in
    let below = div_below (i - n % parts * (n / parts + 1)) (n / parts) (parts - n % parts) (omega arith) few in
    let start = start_is n parts (n % parts + (i - n % parts * (n / parts + 1)) / (n / parts)) in
    let short = length_short n parts (n % parts + (i - n % parts * (n / parts + 1)) / (n / parts)) (omega arith) in
    let split = div-add-mod' (i - n % parts * (n / parts + 1)) (n / parts) in
    let rest = mod_below (i - n % parts * (n / parts + 1)) (n / parts) (omega arith) in
    record { below = omega arith; low = omega arith; high = omega arith }
