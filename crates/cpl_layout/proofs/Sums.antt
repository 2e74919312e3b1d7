-- Sums over numbers below a bound, and sums over lists.
use Rattle.std.proofs.Common.{◌≡◌, ◌∙◌, refl, sym, ap, ℕ, zero, suc, ◌<◌, arith, inl, inr, List, [], ◌∷◌, ◌++◌, map, length, get_or}
use Rattle.std.specs.Prelude.{ℤ, pos, ◌+ℤ◌}
use Rattle.std.specs.List.{range_with_len, flat_map}
use Rattle.std.proofs.lemmas.Int.{ints}
use Rattle.std.proofs.lemmas.Bool.{cases_eq}
use Rattle.std.proofs.lemmas.List.{map-append}
use Rattle.std.proofs.lemmas.List.FromFn.{length-range_with_len, get_or-range_with_len}
use Rattle.cpl_fixed.specs.Totals.{total_of}

-- f 0 + .. + f (n - 1)
abbrev pub sum_to : (ℕ → ℤ) → ℕ → ℤ
sum_to f zero = pos 0
sum_to f (suc n) = sum_to f n +ℤ f n

pub sum_to-same : (f g : ℕ → ℤ) (n : ℕ) → ((i : ℕ) → i < n → f i ≡ g i) → sum_to f n ≡ sum_to g n
sum_to-same f g zero h = refl
sum_to-same f g (suc n) h =
    let a = sum_to-same f g n (λ i l. h i (omega arith)) in
    let b = h n (omega arith) in
    λ i. a i +ℤ b i

sum_to-add : (f g : ℕ → ℤ) (n : ℕ) → sum_to (λ i. f i +ℤ g i) n ≡ sum_to f n +ℤ sum_to g n
sum_to-add f g zero = refl
sum_to-add f g (suc n) = let e = sum_to-add f g n in omega (arith, ints)

pub sum_to-none : (f : ℕ → ℤ) (n : ℕ) → ((i : ℕ) → i < n → f i ≡ pos 0) → sum_to f n ≡ pos 0
sum_to-none f zero h = refl
sum_to-none f (suc n) h =
    let e = sum_to-none f n (λ i l. h i (omega arith)) in
    let d = h n (omega arith) in
    omega (arith, ints)

-- where one number alone has something
pub sum_to-only : (f : ℕ → ℤ) (n j : ℕ) → j < n → ((i : ℕ) → i < n → (i ≡ j → ⊥) → f i ≡ pos 0) → sum_to f n ≡ f j
sum_to-only f zero j below none = absurd (omega arith)
sum_to-only f (suc n) j below none = elim (cases_eq n j) [
  | inl e ↦
      let before = sum_to-none f n (λ i l. none i (omega arith) (λ s. omega arith)) in
      let same = ap f e in
      omega (arith, ints)
  | inr ne ↦
      let before = sum_to-only f n j (omega arith) (λ i l. none i (omega arith)) in
      let last = none n (omega arith) ne in
      omega (arith, ints)
]

-- a sum of sums, in either order
pub sum_to-swap : (f : ℕ → ℕ → ℤ) (m n : ℕ) → sum_to (λ i. sum_to (f i) n) m ≡ sum_to (λ k. sum_to (λ i. f i k) m) n
sum_to-swap f zero n = sym (sum_to-none (λ k. pos 0) n (λ i l. refl))
sum_to-swap f (suc m) n =
    ap (λ (z : ℤ). z +ℤ sum_to (f m) n) (sum_to-swap f m n) ∙ sym (sum_to-add (λ k. sum_to (λ i. f i k) m) (f m) n)

-- the first of the summands apart
sum_to-first : (f : ℕ → ℤ) (n : ℕ) → sum_to f (suc n) ≡ f 0 +ℤ sum_to (λ i. f (suc i)) n
sum_to-first f zero = omega (arith, ints)
sum_to-first f (suc n) = let e = sum_to-first f n in omega (arith, ints)

-- the sum of what a function has of the items of a list
pub total_is : {T : Type 0} (f : T → ℤ) (xs : List T) (d : T) → total_of (map f xs) ≡ sum_to (λ k. f (get_or xs k d)) (length xs)
total_is f [] d = refl
total_is f (x ∷ xs) d =
    let e = total_is f xs d in
    let first = sum_to-first (λ k. f (get_or (x ∷ xs) k d)) (length xs) in
    omega (arith, ints)

-- of the numbers below a bound
pub total_range : (f : ℕ → ℤ) (n : ℕ) → total_of (map f (range_with_len 0 n)) ≡ sum_to f n
total_range f n =
    total_is f (range_with_len 0 n) 0
    ∙ ap (sum_to (λ k. f (get_or (range_with_len 0 n) k 0))) (length-range_with_len 0 n)
    ∙ sum_to-same (λ k. f (get_or (range_with_len 0 n) k 0)) f n (λ i l. ap f (let at = get_or-range_with_len 0 n i 0 l in omega arith))

pub total_append : (xs ys : List ℤ) → total_of (xs ++ ys) ≡ total_of xs +ℤ total_of ys
total_append [] ys = omega (arith, ints)
total_append (x ∷ xs) ys = let e = total_append xs ys in omega (arith, ints)

-- of lists joined end to end
pub total_flat : {T : Type 0} (f : ℕ → ℤ) (g : T → List ℕ) (xs : List T) → total_of (map f (flat_map g xs)) ≡ total_of (map (λ x. total_of (map f (g x))) xs)
total_flat f g [] = refl
total_flat f g (x ∷ xs) =
    ap total_of (map-append f (g x) (flat_map g xs))
    ∙ total_append (map f (g x)) (map f (flat_map g xs))
    ∙ ap (λ (z : ℤ). total_of (map f (g x)) +ℤ z) (total_flat f g xs)
