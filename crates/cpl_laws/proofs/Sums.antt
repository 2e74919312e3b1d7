-- Sums over lists and over numbers below a bound.
use Rattle.std.proofs.Common.{◌≡◌, ◌∙◌, refl, sym, ap, Bool, cond, eqb, ℕ, zero, suc, ◌+◌, ◌*◌, ◌/◌, ◌%◌, ◌<◌, arith, inl, inr, List, [], ◌∷◌, ◌++◌, map}
use Rattle.std.specs.Prelude.{ℤ, pos, ◌+ℤ◌, ◌-ℤ◌, ◌*ℤ◌}
use Rattle.std.specs.List.{range_with_len}
use Rattle.std.proofs.lemmas.Int.{ints}
use Rattle.std.proofs.lemmas.Nat.{div-mul-add, mod-mul-add, div-add-mod'}
use Rattle.std.proofs.Math.IntN.{*ℤ-zero, zero-*ℤ, suc_ℤ-*ℤ}
use Rattle.std.proofs.lemmas.Bool.{cases_eq, eq-eqb, ne_eqb}
use Rattle.cpl_state.specs.Diffusion.{total_of}
use Rattle.cpl_diffusion.proofs.Sums.{sum_to, sum_to-same, sum_to-none}
pub use Rattle.cpl_diffusion.proofs.Sums.{total_range, sum_to-split}

-- where one number alone has something
pub sum_to-pick : (j n : ℕ) (x : ℤ) → j < n → sum_to (λ i. cond (eqb j i) x (pos 0)) n ≡ x
sum_to-pick j zero x l = absurd (omega arith)
sum_to-pick j (suc n) x l = elim (cases_eq j n) [
  | inl e ↦
      let before = sum_to-none (λ i. cond (eqb j i) x (pos 0)) n (λ i m. ap (λ (b : Bool). cond b x (pos 0)) (ne_eqb j i (λ s. omega arith))) in
      let own : cond (eqb j n) x (pos 0) ≡ x = ap (λ (b : Bool). cond b x (pos 0)) (eq-eqb j n e) in
      omega (arith, ints)
  | inr ne ↦
      let before = sum_to-pick j n x (omega arith) in
      let none : cond (eqb j n) x (pos 0) ≡ pos 0 = ap (λ (b : Bool). cond b x (pos 0)) (ne_eqb j n ne) in
      omega (arith, ints)
]

-- sums over lists
pub total_add : {T : Type 0} (f g : T → ℤ) (xs : List T) → total_of (map (λ x. f x +ℤ g x) xs) ≡ total_of (map f xs) +ℤ total_of (map g xs)
total_add f g [] = refl
total_add f g (x ∷ xs) = let e = total_add f g xs in omega (arith, ints)

pub total_sub : {T : Type 0} (f g : T → ℤ) (xs : List T) → total_of (map (λ x. f x -ℤ g x) xs) ≡ total_of (map f xs) -ℤ total_of (map g xs)
total_sub f g [] = refl
total_sub f g (x ∷ xs) = let e = total_sub f g xs in omega (arith, ints)

pub total_append : (xs ys : List ℤ) → total_of (xs ++ ys) ≡ total_of xs +ℤ total_of ys
total_append [] ys = omega (arith, ints)
total_append (x ∷ xs) ys = let e = total_append xs ys in omega (arith, ints)

-- a sum of sums, in either order
pub total_swap : {T : Type 0} (f : T → ℕ → ℤ) (n : ℕ) (xs : List T) → total_of (map (λ x. sum_to (f x) n) xs) ≡ sum_to (λ k. total_of (map (λ x. f x k) xs)) n
total_swap f zero [] = refl
total_swap f zero (x ∷ xs) = let e = total_swap f zero xs in omega (arith, ints)
total_swap f (suc n) xs = total_add (λ x. sum_to (f x) n) (λ x. f x n) xs ∙ ap (λ (z : ℤ). z +ℤ total_of (map (λ x. f x n) xs)) (total_swap f n xs)

-- a multiple of a sum of two
pub spread : (n : ℕ) (x y : ℤ) → pos n *ℤ (x +ℤ y) ≡ (pos n *ℤ x) +ℤ (pos n *ℤ y)
spread zero x y = let a = zero-*ℤ (x +ℤ y) in let b = zero-*ℤ x in let c = zero-*ℤ y in omega (arith, ints, a, b, c)
spread (suc n) x y =
    let e = spread n x y in
    let a : pos (suc n) *ℤ (x +ℤ y) ≡ pos n *ℤ (x +ℤ y) +ℤ (x +ℤ y) = suc_ℤ-*ℤ (pos n) (x +ℤ y) in
    let b : pos (suc n) *ℤ x ≡ pos n *ℤ x +ℤ x = suc_ℤ-*ℤ (pos n) x in
    let c : pos (suc n) *ℤ y ≡ pos n *ℤ y +ℤ y = suc_ℤ-*ℤ (pos n) y in
    omega (arith, ints, a, b, c, e)

-- a sum over cells, of what agrees in each
pub cells_same : (f g : ℕ → ℤ) (n : ℕ) → ((i : ℕ) → i < n → f i ≡ g i) → total_of (map f (range_with_len 0 n)) ≡ total_of (map g (range_with_len 0 n))
cells_same f g n h = total_range f n ∙ sum_to-same f g n h ∙ sym (total_range g n)

-- a multiple of a sum
pub total_times : {T : Type 0} (c : ℕ) (f : T → ℤ) (xs : List T) → total_of (map (λ x. pos c *ℤ f x) xs) ≡ pos c *ℤ total_of (map f xs)
total_times c f [] = sym (*ℤ-zero (pos c))
total_times c f (x ∷ xs) = ap (λ (z : ℤ). (pos c *ℤ f x) +ℤ z) (total_times c f xs) ∙ sym (spread c (f x) (total_of (map f xs)))

pub sum_to-times : (c : ℕ) (f : ℕ → ℤ) (n : ℕ) → sum_to (λ i. pos c *ℤ f i) n ≡ pos c *ℤ sum_to f n
sum_to-times c f n = sym (total_range (λ i. pos c *ℤ f i) n) ∙ total_times c f (range_with_len 0 n) ∙ ap (λ (z : ℤ). pos c *ℤ z) (total_range f n)

-- numbers in blocks of one width
pub blocks : (f : ℕ → ℕ → ℤ) (width count : ℕ) → 0 < width → sum_to (λ i. f (i / width) (i % width)) (width * count) ≡ sum_to (λ n. sum_to (f n) width) count
blocks f width zero some = ap (sum_to (λ i. f (i / width) (i % width))) (let e : width * 0 ≡ 0 = omega arith in e)
blocks f width (suc count) some =
    let g = λ (i : ℕ). f (i / width) (i % width) in
    let next : width * suc count ≡ count * width + width = omega arith in
    let same : width * count ≡ count * width = omega arith in
    let here = sum_to-same (λ k. g (count * width + k)) (f count) width (λ k l. λ i. f (div-mul-add count width k l i) (mod-mul-add count width k l i)) in
    ap (sum_to g) next
    ∙ sum_to-split g (count * width) width
    ∙ (λ i. (ap (sum_to g) (sym same) ∙ blocks f width count some) i +ℤ here i)

-- each number of such a list in its block
pub in_blocks : (f : ℕ → ℤ) (width count : ℕ) → sum_to (λ i. f ((i / width) * width + i % width)) (width * count) ≡ sum_to f (width * count)
in_blocks f width count = sum_to-same (λ i. f ((i / width) * width + i % width)) f (width * count) (λ i l. ap f (div-add-mod' i width))
