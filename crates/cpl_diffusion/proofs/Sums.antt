-- Sums over numbers below a bound, and lists as such sums.
use Rattle.std.proofs.Common.{◌≡◌, ◌∙◌, refl, ap, ℕ, zero, suc, ◌+◌, ◌<◌, arith, inl, inr, List, [], ◌∷◌, length, map}
use Rattle.std.specs.Prelude.{ℤ, pos, ◌+ℤ◌, ◌-ℤ◌, ◌≤ℤ◌}
use Rattle.std.specs.List.{range_with_len}
use Rattle.std.proofs.lemmas.Int.{ints}
use Rattle.std.proofs.lemmas.List.FromFn.{length-map-range_with_len, get_or-map-range_with_len}
use Rattle.std.proofs.lemmas.Bool.{cases_eq}
use Rattle.cpl_state.specs.Diffusion.{at, total_of}

-- f 0 + .. + f (n - 1)
abbrev pub sum_to : (ℕ → ℤ) → ℕ → ℤ
sum_to f zero = pos 0
sum_to f (suc n) = sum_to f n +ℤ f n

pub sum_to-same : (f g : ℕ → ℤ) (n : ℕ) → ((i : ℕ) → i < n → f i ≡ g i) → sum_to f n ≡ sum_to g n
sum_to-same f g zero h = refl
sum_to-same f g (suc n) h =
    let a = sum_to-same f g n (λ i l. h i (omega arith)) in
    let b = h n (omega arith) in
    λ i. a i +ℤ b i

pub sum_to-add : (f g : ℕ → ℤ) (n : ℕ) → sum_to (λ i. f i +ℤ g i) n ≡ sum_to f n +ℤ sum_to g n
sum_to-add f g zero = refl
sum_to-add f g (suc n) = let e = sum_to-add f g n in omega (arith, ints)

pub sum_to-sub : (f g : ℕ → ℤ) (n : ℕ) → sum_to (λ i. f i -ℤ g i) n ≡ sum_to f n -ℤ sum_to g n
sum_to-sub f g zero = refl
sum_to-sub f g (suc n) = let e = sum_to-sub f g n in omega (arith, ints)

pub sum_to-none : (f : ℕ → ℤ) (n : ℕ) → ((i : ℕ) → i < n → f i ≡ pos 0) → sum_to f n ≡ pos 0
sum_to-none f zero h = refl
sum_to-none f (suc n) h =
    let e = sum_to-none f n (λ i l. h i (omega arith)) in
    let d = h n (omega arith) in
    omega (arith, ints)

-- the first of the summands apart
pub sum_to-first : (f : ℕ → ℤ) (n : ℕ) → sum_to f (suc n) ≡ f 0 +ℤ sum_to (λ i. f (suc i)) n
sum_to-first f zero = omega (arith, ints)
sum_to-first f (suc n) = let e = sum_to-first f n in omega (arith, ints)

-- what each of two gives the other adds up to nothing
pub sum_to-cross : (flow : ℕ → ℕ → ℤ) (n : ℕ) → ((p q : ℕ) → p < n → q < n → flow p q ≡ pos 0 -ℤ flow q p) → sum_to (λ p. sum_to (flow p) n) n ≡ pos 0
sum_to-cross flow zero h = refl
sum_to-cross flow (suc n) h =
    let before = sum_to-cross flow n (λ p q l m. h p q (omega arith) (omega arith)) in
    let split = sum_to-add (λ p. sum_to (flow p) n) (λ p. flow p n) n in
    let cross = sum_to-add (λ p. flow p n) (λ p. flow n p) n in
    let none = sum_to-none (λ p. flow p n +ℤ flow n p) n (λ p l. let d = h p n (omega arith) (omega arith) in omega (arith, ints)) in
    let own = h n n (omega arith) (omega arith) in
    omega (arith, ints)

-- the total of a list
pub total_of-sum_to : (xs : List ℤ) → total_of xs ≡ sum_to (at xs) (length xs)
total_of-sum_to [] = refl
total_of-sum_to (x ∷ xs) =
    let e = total_of-sum_to xs in
    let first = sum_to-first (at (x ∷ xs)) (length xs) in
    omega (arith, ints)

-- the total of what a function gives below a bound
pub total_range : (f : ℕ → ℤ) (n : ℕ) → total_of (map f (range_with_len 0 n)) ≡ sum_to f n
total_range f n =
    let xs = map f (range_with_len 0 n) in
    total_of-sum_to xs
    ∙ ap (sum_to (at xs)) (length-map-range_with_len f 0 n)
    ∙ sum_to-same (at xs) f n (λ i l. get_or-map-range_with_len f 0 n i i (pos 0) l (omega arith))

-- one sum after another
pub sum_to-split : (f : ℕ → ℤ) (a b : ℕ) → sum_to f (a + b) ≡ sum_to f a +ℤ sum_to (λ k. f (a + k)) b
sum_to-split f a zero =
    let same = ap (sum_to f) (let e : a + 0 ≡ a = omega arith in e) in
    omega (arith, ints, same)
sum_to-split f a (suc b) =
    let same = ap (sum_to f) (let e : a + suc b ≡ suc (a + b) = omega arith in e) in
    let rest = sum_to-split f a b in
    omega (arith, ints, same, rest)

-- none of the summands is negative, so neither is the sum, and none is above it
pub sum_to-least : (f : ℕ → ℤ) (n : ℕ) → ((i : ℕ) → i < n → pos 0 ≤ℤ f i) → pos 0 ≤ℤ sum_to f n
sum_to-least f zero h = omega (arith, ints)
sum_to-least f (suc n) h =
    let e = sum_to-least f n (λ i l. h i (omega arith)) in
    let d = h n (omega arith) in
    omega (arith, ints)

pub sum_to-above : (f : ℕ → ℤ) (n : ℕ) → ((i : ℕ) → i < n → pos 0 ≤ℤ f i) → (i : ℕ) → i < n → f i ≤ℤ sum_to f n
sum_to-above f zero h i l = absurd (omega arith)
sum_to-above f (suc n) h i l = elim (cases_eq i n) [
  | inl e ↦
      let low = sum_to-least f n (λ k m. h k (omega arith)) in
      let same = ap f e in
      omega (arith, ints)
  | inr ne ↦
      let e = sum_to-above f n (λ k m. h k (omega arith)) i (omega arith) in
      let d = h n (omega arith) in
      omega (arith, ints)
]
