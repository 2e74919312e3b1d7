-- Sums one number after another, and their ranges.
use Rattle.std.proofs.Common.{◌≡◌, ◌∙◌, refl, sym, ap, ℕ, zero, suc, ◌+◌, ◌*◌, ◌/◌, ◌<◌, ◌≤◌, arith, List, [], ◌∷◌, ◌++◌, length, get_or, take, map}
use Rattle.std.specs.Prelude.{ℤ, pos, negsuc, ◌+ℤ◌, ◌≤ℤ◌, All, unsigned_abs}
use Rattle.std.specs.Int.{int_max}
use Rattle.std.specs.Ordering.{ord_max, int_cmp}
use Rattle.std.proofs.Math.Nat.{mul-div-le, mul-le-mul_left}
use Rattle.std.proofs.lemmas.Int.{ints, clamps}
use Rattle.std.proofs.lemmas.List.FromFn.{map-range_with_len_more}
use Rattle.std.proofs.lemmas.List.Elements.{All-tail}
use Rattle.cpl_fixed.specs.Ranges.{IsFromℤ}
use Rattle.cpl_fixed.specs.Shares.{part_of}
use Rattle.cpl_fixed.specs.Totals.{total_of}
use Rattle.cpl_fixed.proofs.Parts.{part_pos}
use Rattle.cpl_state.specs.FastStep.{for_each}
use Rattle.cpl_state.specs.Budget.{greatest}

-- the total of what is taken of each, one more
pub total_map_more : {X : Type 0} (f : X → ℤ) (xs : List X) (k : ℕ) (d : X) → k < length xs → total_of (map f (take (k + 1) xs)) ≡ total_of (map f (take k xs)) +ℤ f (get_or xs k d)
total_map_more f [] k d l = absurd (omega arith)
total_map_more f (x ∷ xs) zero d l = omega (arith, ints)
total_map_more f (x ∷ xs) (suc k) d l =
    let rest = total_map_more f xs k d (omega arith) in
    let e : suc k + 1 ≡ suc (k + 1) = omega arith in
    ap (λ (n : ℕ). total_of (map f (take n (x ∷ xs)))) e ∙ omega (arith, ints, rest)

-- the greatest of the first numbers, one more
pub greatest_range : (xs : List ℤ) → All (IsFromℤ 0 4000) xs → IsFromℤ 0 4000 (greatest xs)
greatest_range [] each = (omega (arith, ints), omega (arith, ints))
greatest_range (x ∷ xs) each =
    let first = each 0 x (omega arith) in
    let rest = greatest_range xs (All-tail (IsFromℤ 0 4000) x xs each) in
    (omega (arith, ints, clamps, first.0, rest.0), omega (arith, ints, clamps, first.1, rest.1))

max_assoc : (x y z : ℤ) → int_max (int_max x y) z ≡ int_max x (int_max y z)
max_assoc x y z = omega (arith, ints, clamps)

max_none : (x : ℤ) → pos 0 ≤ℤ x → int_max x (pos 0) ≡ int_max (pos 0) x
max_none x h = omega (arith, ints, clamps)

pub greatest_more : (xs : List ℤ) (k : ℕ) → k < length xs → pos 0 ≤ℤ get_or xs k (pos 0) → greatest (take (k + 1) xs) ≡ int_max (greatest (take k xs)) (get_or xs k (pos 0))
greatest_more [] k l h = absurd (omega arith)
greatest_more (x ∷ xs) zero l h = max_none x h
greatest_more (x ∷ xs) (suc k) l h =
    let rest = greatest_more xs k (omega arith) h in
    let e : suc k + 1 ≡ suc (k + 1) = omega arith in
    ap (λ (n : ℕ). greatest (take n (x ∷ xs))) e ∙ ap (int_max x) rest ∙ sym (max_assoc x (greatest (take k xs)) (get_or xs k (pos 0)))

-- what the sun of a cell is in a month
pub sun_is : (sun strength : ℤ) (n s : ℕ) → sun ≡ pos n → strength ≡ pos s → part_of sun strength (pos 1000) ≡ pos (n * s / 1000)
sun_is sun strength n s e f = (λ i. part_of (e i) (f i) (pos 1000)) ∙ part_pos n s 1000

-- the sum over cells, one more
pub total_push : (xs : List ℤ) (x : ℤ) → total_of (xs ++ x ∷ []) ≡ total_of xs +ℤ x
total_push [] x = omega (arith, ints)
total_push (y ∷ ys) x = let e = total_push ys x in omega (arith, ints, e)

pub cells_more : (f : ℕ → ℤ) (n : ℕ) → total_of (for_each (n + 1) f) ≡ total_of (for_each n f) +ℤ f n
cells_more f n = ap total_of (map-range_with_len_more f 0 n n (omega arith)) ∙ total_push (for_each n f) (f n)

-- the greater of two, as the machine takes it
pub greater : (x y : ℤ) → ord_max int_cmp x y ≡ int_max x y
greater x y = grind (arith, ints, clamps)

pub pos_abs : (x : ℤ) → pos 0 ≤ℤ x → pos (unsigned_abs x) ≡ x
pos_abs (pos n) h = refl
pos_abs (negsuc n) h = absurd (omega (arith, ints, h))

-- the sun of a cell is at most 4 times its number
pub sun_most : (n s : ℕ) → s ≤ 4000 → n * s / 1000 ≤ n * 4
sun_most n s few =
    let part : 1000 * (n * s / 1000) ≤ n * s = mul-div-le (n * s) 1000 in
    let most : n * s ≤ n * 4000 = mul-le-mul_left n few in
    omega (arith, part, most)
