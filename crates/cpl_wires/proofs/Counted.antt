-- Lists whose items are counted as they come: the items that pass a test are numbered, from a number on.
use Rattle.std.proofs.Common.{cond, ◌≡◌, ◌∙◌, refl, sym, ap, subst, ℕ, zero, suc, ◌+◌, ◌<◌, ◌≤◌, arith, Bool, true, List, [], ◌∷◌, ◌++◌, length, take, get_or}
use Rattle.std.specs.Prelude.{map}
use Rattle.std.specs.List.{flat_map, range_with_len, count_by}
use Rattle.std.proofs.lemmas.List.Sums.{sum_by-append, sum_by-cons}

-- each item that passes has the number of those that passed before it, where the first has the number `from`
abbrev pub AreUses : {T : Type 0} → (T → Bool) → (T → ℕ) → ℕ → List T → Type 0
AreUses passes number from [] = Unit {0}
AreUses passes number from (x ∷ xs) = (passes x ≡ true → number x ≡ from) × AreUses passes number (cond (passes x) 1 0 + from) xs

-- so are all of a list, which leads from one number to another
pub record Counted {T : Type 0} (passes : T → Bool) (number : T → ℕ) (from to : ℕ) (xs : List T) : Type 0 where
  pub uses : AreUses passes number from xs
  pub total : count_by passes xs + from ≡ to

pub count_cons : {T : Type 0} (passes : T → Bool) (x : T) (xs : List T) → count_by passes (x ∷ xs) ≡ cond (passes x) 1 0 + count_by passes xs
count_cons passes x xs = sum_by-cons (λ y. cond (passes y) 1 0) x xs

pub count_append : {T : Type 0} (passes : T → Bool) (xs ys : List T) → count_by passes (xs ++ ys) ≡ count_by passes xs + count_by passes ys
count_append passes xs ys = sum_by-append (λ y. cond (passes y) 1 0) xs ys

uses_append : {T : Type 0} (passes : T → Bool) (number : T → ℕ) (from : ℕ) (xs ys : List T) → AreUses passes number from xs → AreUses passes number (count_by passes xs + from) ys
    → AreUses passes number from (xs ++ ys)
uses_append passes number from [] ys h k = let same : count_by passes [] + from ≡ from = omega arith in subst (λ (n : ℕ). AreUses passes number n ys) same k
uses_append passes number from (x ∷ xs) ys h k =
    let cons = count_cons passes x xs in
    let same : count_by passes (x ∷ xs) + from ≡ count_by passes xs + (cond (passes x) 1 0 + from) = omega (arith, cons) in
    (h.0, uses_append passes number (cond (passes x) 1 0 + from) xs ys h.1 (subst (λ (n : ℕ). AreUses passes number n ys) same k))

pub counted_append : {T : Type 0} (passes : T → Bool) (number : T → ℕ) (a b c : ℕ) (xs ys : List T) → Counted passes number a b xs → Counted passes number b c ys → Counted passes number a c (xs ++ ys)
counted_append passes number a b c xs ys h k = record {
  uses = uses_append passes number a xs ys h.uses (subst (λ (n : ℕ). AreUses passes number n ys) (sym h.total) k.uses);
  total = let both = count_append passes xs ys in omega (arith, both, h.total, k.total);
}

pub counted_nothing : {T : Type 0} (passes : T → Bool) (number : T → ℕ) (a : ℕ) → Counted passes number a a []
counted_nothing passes number a = record { uses = tt; total = omega arith }

-- blocks, each from one number to the next
pub counted_blocks : {T : Type 0} (passes : T → Bool) (number : T → ℕ) (f : ℕ → List T) (at : ℕ → ℕ) (start n : ℕ)
    → ((k : ℕ) → start ≤ k → k < start + n → Counted passes number (at k) (at (k + 1)) (f k))
    → Counted passes number (at start) (at (start + n)) (flat_map f (range_with_len start n))
counted_blocks passes number f at start zero each =
    let same : start + 0 ≡ start = omega arith in
    subst (λ (b : ℕ). Counted passes number (at start) (at b) []) (sym same) (counted_nothing passes number (at start))
counted_blocks passes number f at start (suc n) each =
    let rest = counted_blocks passes number f at (start + 1) n (λ k low high. each k (omega arith) (omega arith)) in
    let same : start + 1 + n ≡ start + suc n = omega arith in
    counted_append passes number (at start) (at (start + 1)) (at (start + suc n)) (f start) (flat_map f (range_with_len (start + 1) n))
    (each start (omega arith) (omega arith))
    (subst (λ (b : ℕ). Counted passes number (at (start + 1)) (at b) (flat_map f (range_with_len (start + 1) n))) same rest)

-- an item that passes counts one
counts_one : (b : Bool) (n : ℕ) → b ≡ true → cond b 1 0 + n ≡ 1 + n
counts_one b n e = ap (λ (c : Bool). cond c 1 0 + n) e

uses_none : {T : Type 0} (passes : T → Bool) (number : T → ℕ) (from : ℕ) (xs : List T) → count_by passes xs ≡ 0 → AreUses passes number from xs
uses_none passes number from [] none = tt
uses_none passes number from (x ∷ xs) none =
    let cons = count_cons passes x xs in (
      λ e. let one = counts_one (passes x) 0 e in absurd (omega arith),
      uses_none passes number (cond (passes x) 1 0 + from) xs (omega arith),
    )

-- where none passes, no number is used
pub counted_none : {T : Type 0} (passes : T → Bool) (number : T → ℕ) (from : ℕ) (xs : List T) → count_by passes xs ≡ 0 → Counted passes number from from xs
counted_none passes number from xs none = record { uses = uses_none passes number from xs none; total = omega arith }

pub count_map : {S T : Type 0} (passes : T → Bool) (g : S → T) (ys : List S) → count_by passes (map g ys) ≡ count_by (λ y. passes (g y)) ys
count_map passes g [] = refl
count_map passes g (y ∷ ys) =
    let one = count_cons passes (g y) (map g ys) in
    let other = count_cons (λ z. passes (g z)) y ys in
    let rest = count_map passes g ys in omega arith

uses_once : {S T : Type 0} (passes : T → Bool) (number : T → ℕ) (g : S → T) (u from : ℕ) (ys : List S) → ((y : S) → number (g y) ≡ u)
    → count_by (λ y. passes (g y)) ys ≤ 1 → (count_by (λ y. passes (g y)) ys ≡ 1 → u ≡ from)
    → AreUses passes number from (map g ys)
uses_once passes number g u from [] same few once = tt
uses_once passes number g u from (y ∷ ys) same few once =
    let cons = count_cons (λ z. passes (g z)) y ys in (
      λ e. let one = counts_one (passes (g y)) 0 e in same y ∙ once (omega arith),
      uses_once passes number g u (cond (passes (g y)) 1 0 + from) ys same (omega arith)
          (λ e. let first = once (omega arith) in omega arith),
    )

-- Items that all have one number, of which at most one passes: they are counted where that one has the number.
pub counted_once : {S T : Type 0} (passes : T → Bool) (number : T → ℕ) (g : S → T) (u from : ℕ) (ys : List S) → ((y : S) → number (g y) ≡ u)
    → count_by (λ y. passes (g y)) ys ≤ 1 → (count_by (λ y. passes (g y)) ys ≡ 1 → u ≡ from)
    → Counted passes number from (count_by (λ y. passes (g y)) ys + from) (map g ys)
counted_once passes number g u from ys same few once = record {
  uses = uses_once passes number g u from ys same few once;
  total = ap (λ (n : ℕ). n + from) (count_map passes g ys);
}

-- what is said of a number that an item has: how many passed before it
pub used_at : {T : Type 0} (passes : T → Bool) (number : T → ℕ) (from : ℕ) (xs : List T) (m : ℕ) (d : T) → AreUses passes number from xs
    → m < length xs → passes (get_or xs m d) ≡ true → count_by passes (take m xs) + from ≡ number (get_or xs m d)
used_at passes number from [] m d uses l e = absurd (omega arith)
used_at passes number from (x ∷ xs) zero d uses l e = let is = uses.0 e in omega arith
used_at passes number from (x ∷ xs) (suc m) d uses l e =
    let cons = count_cons passes x (take m xs) in
    let rest = used_at passes number (cond (passes x) 1 0 + from) xs m d uses.1 (omega arith) e in omega arith

-- Lists in place of items: each list has its item's numbers.
pub uses_lists : {S T : Type 0} (passes : S → Bool) (number : S → ℕ) (tests : T → Bool) (numbers : T → ℕ) (f : S → List T) (from to : ℕ) (xs : List S)
    → ((x : S) (a : ℕ) → (passes x ≡ true → number x ≡ a) → Counted tests numbers a (cond (passes x) 1 0 + a) (f x))
    → Counted passes number from to xs → Counted tests numbers from to (flat_map f xs)
uses_lists passes number tests numbers f from to [] each counted = record { uses = tt; total = counted.total }
uses_lists passes number tests numbers f from to (x ∷ xs) each counted =
    let next = cond (passes x) 1 0 + from in
    let cons = count_cons passes x xs in
    let total = counted.total in
    counted_append tests numbers from next to (f x) (flat_map f xs) (each x from counted.uses.0)
    (uses_lists passes number tests numbers f next to xs each (record { uses = counted.uses.1; total = omega arith }))
