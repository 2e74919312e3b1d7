-- The numbers of the items of a list that pass a test.
use Rattle.std.proofs.Common.{cond, ◌≡◌, refl, ap, subst, ℕ, zero, suc, ◌+◌, ◌<◌, ◌≤◌, arith, Bool, true, false, List, [], ◌∷◌, length, get_or, eqb}
use Rattle.std.specs.Prelude.{All}
use Rattle.std.specs.List.{count_by}
use Rattle.std.proofs.lemmas.Bool.{eq-eqb, ne_eqb}
use Rattle.std.proofs.lemmas.List.Sums.{sum_by-cons}
use Rattle.cpl_xgrid.specs.Groups.{numbers_from}

within_cond : (b : Bool) (n most : ℕ) (xs : List ℕ) → n < most → All (λ m. m < most) xs → All (λ m. m < most) (cond b (n ∷ xs) xs)
within_cond false n most xs below each k d h = each k d h
within_cond true n most xs below each zero d h = below
within_cond true n most xs below each (suc k) d h = each k d (omega arith)

-- they are of the list
pub numbers_within : {T : Type 0} (passes : T → Bool) (n : ℕ) (items : List T) → All (λ m. m < n + length items) (numbers_from passes n items)
numbers_within passes n [] k d h = absurd (omega arith)
numbers_within passes n (item ∷ items) k d h =
    let rest : All (λ m. m < n + suc (length items)) (numbers_from passes (n + 1) items) = λ k d h. let below = numbers_within passes (n + 1) items k d h in omega arith in
    within_cond (passes item) n (n + suc (length items)) (numbers_from passes (n + 1) items) (omega arith) rest k d h

few_cond : (b : Bool) (n most : ℕ) (xs : List ℕ) → length xs ≤ most → length (cond b (n ∷ xs) xs) ≤ suc most
few_cond false n most xs few = omega arith
few_cond true n most xs few = omega arith

-- no more than the list has
pub numbers_few : {T : Type 0} (passes : T → Bool) (n : ℕ) (items : List T) → length (numbers_from passes n items) ≤ length items
numbers_few passes n [] = omega arith
numbers_few passes n (item ∷ items) = few_cond (passes item) n (length items) (numbers_from passes (n + 1) items) (numbers_few passes (n + 1) items)

count_cond : (p : ℕ → Bool) (b : Bool) (n : ℕ) (xs : List ℕ) → count_by p (cond b (n ∷ xs) xs) ≡ cond b (cond (p n) 1 0) 0 + count_by p xs
count_cond p true n xs = sum_by-cons (λ m. cond (p m) 1 0) n xs
count_cond p false n xs = omega arith

none_if : (b c : Bool) → c ≡ false → cond b (cond c 1 0) 0 + 0 ≡ 0
none_if true c e = ap (λ (d : Bool). cond d 1 0 + 0) e
none_if false c e = refl

-- a number before the first is not among them
pub count_before : {T : Type 0} (passes : T → Bool) (e n : ℕ) (items : List T) → e < n → count_by (λ m. eqb m e) (numbers_from passes n items) ≡ 0
count_before passes e n [] l = refl
count_before passes e n (item ∷ items) l =
    let rest = count_before passes e (n + 1) items (omega arith) in
    let split = count_cond (λ m. eqb m e) (passes item) n (numbers_from passes (n + 1) items) in
    let none = none_if (passes item) (eqb n e) (ne_eqb n e (omega arith)) in omega arith

one_if : (b c : Bool) → c ≡ true → cond b (cond c 1 0) 0 + 0 ≡ cond b 1 0 + 0
one_if true c e = ap (λ (d : Bool). cond d 1 0 + 0) e
one_if false c e = refl

-- the number of an item is there once where it passes
pub count_at : {T : Type 0} (passes : T → Bool) (n k : ℕ) (items : List T) (d : T) → k < length items
    → count_by (λ m. eqb m (n + k)) (numbers_from passes n items) ≡ cond (passes (get_or items k d)) 1 0
count_at passes n k [] d l = absurd (omega arith)
count_at passes n zero (item ∷ items) d l =
    let rest = count_before passes (n + 0) (n + 1) items (omega arith) in
    let split = count_cond (λ m. eqb m (n + 0)) (passes item) n (numbers_from passes (n + 1) items) in
    let same : n ≡ n + 0 = omega arith in
    let one = one_if (passes item) (eqb n (n + 0)) (eq-eqb n (n + 0) same) in omega arith
count_at passes n (suc k) (item ∷ items) d l =
    let same : n + 1 + k ≡ n + suc k = omega arith in
    let rest = ap (λ (e : ℕ). count_by (λ m. eqb m e) (numbers_from passes (n + 1) items)) same in
    let deeper = count_at passes (n + 1) k items d (omega arith) in
    let split = count_cond (λ m. eqb m (n + suc k)) (passes item) n (numbers_from passes (n + 1) items) in
    let none = none_if (passes item) (eqb n (n + suc k)) (ne_eqb n (n + suc k) (omega arith)) in omega arith

all_cond : (P : ℕ → Type 0) (b : Bool) (n : ℕ) (xs : List ℕ) → (b ≡ true → P n) → All P xs → All P (cond b (n ∷ xs) xs)
all_cond P false n xs own rest k d h = rest k d h
all_cond P true n xs own rest zero d h = own refl
all_cond P true n xs own rest (suc k) d h = rest k d (omega arith)

-- what holds of the number of each item that passes
pub numbers_each : {T : Type 0} (P : ℕ → Type 0) (passes : T → Bool) (n : ℕ) (items : List T) (d : T)
    → ((k : ℕ) → k < length items → passes (get_or items k d) ≡ true → P (n + k)) → All P (numbers_from passes n items)
numbers_each P passes n [] d each = λ k e h. absurd (omega arith)
numbers_each P passes n (item ∷ items) d each =
    let first : n + 0 ≡ n = omega arith in
    all_cond P (passes item) n (numbers_from passes (n + 1) items) (λ e. subst P first (each 0 (omega arith) e))
    (numbers_each P passes (n + 1) items d
    (λ k l e. let same : n + suc k ≡ n + 1 + k = omega arith in subst P same (each (suc k) (omega arith) e)))
