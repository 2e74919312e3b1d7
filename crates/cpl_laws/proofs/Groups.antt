-- What holds of each item of a group, and sums over groups.
use Rattle.std.proofs.Common.{◌≡◌, ◌∙◌, refl, sym, ap, subst, Bool, true, false, cond, ℕ, zero, suc, ◌+◌, ◌<◌, arith, List, [], ◌∷◌, map, length, get_or}
use Rattle.std.specs.Prelude.{ℤ, pos, ◌+ℤ◌, ◌≤ℤ◌, All}
use Rattle.std.proofs.lemmas.Int.{ints}
use Rattle.std.specs.List.{range_with_len}
use Rattle.std.proofs.lemmas.List.Elements.{All-tail}
use Rattle.std.proofs.lemmas.List.FromFn.{length-range_with_len, get_or-range_with_len}
use Rattle.cpl_fixed.specs.Totals.{total_of}
use Rattle.cpl_xgrid.specs.Groups.{numbers_from}

-- one item more, where it is of the group
pub total_cond : (g : ℕ → ℤ) (b : Bool) (n : ℕ) (ns : List ℕ) → total_of (map g (cond b (n ∷ ns) ns)) ≡ cond b (g n) (pos 0) +ℤ total_of (map g ns)
total_cond g true n ns = refl
total_cond g false n ns = omega (arith, ints)

all_cond : (P : ℕ → Type 0) (b : Bool) (n : ℕ) (ns : List ℕ) → (b ≡ true → P n) → All P ns → All P (cond b (n ∷ ns) ns)
all_cond P false n ns own all k d h = all k d h
all_cond P true n ns own all zero d h = own refl
all_cond P true n ns own all (suc k) d h = all k d (omega arith)

-- the number of each item of a group is that of an item that passes
pub each_number : {T : Type 0} (P : ℕ → Type 0) (passes : T → Bool) (d : T) (n : ℕ) (items : List T)
    → ((k : ℕ) → k < length items → passes (get_or items k d) ≡ true → P (n + k)) → All P (numbers_from passes n items)
each_number P passes d n [] h = λ k e l. absurd (omega arith)
each_number P passes d n (item ∷ items) h =
    let first : n + 0 ≡ n = omega arith in
    all_cond P (passes item) n (numbers_from passes (n + 1) items) (λ e. subst P first (h 0 (omega arith) e))
    (each_number P passes d (n + 1) items (λ k l e. let next : n + suc k ≡ n + 1 + k = omega arith in subst P next (h (suc k) (omega arith) e)))

-- sums of what agrees, of what is nowhere negative, and of what is nowhere above
pub total_same : {T : Type 0} (f g : T → ℤ) (xs : List T) → All (λ x. f x ≡ g x) xs → total_of (map f xs) ≡ total_of (map g xs)
total_same f g [] all = refl
total_same f g (x ∷ xs) all =
    let first = all 0 x (omega arith) in
    let rest = total_same f g xs (All-tail (λ x. f x ≡ g x) x xs all) in
    λ i. first i +ℤ rest i

pub total_most : {T : Type 0} (f g : T → ℤ) (xs : List T) → All (λ x. f x ≤ℤ g x) xs → total_of (map f xs) ≤ℤ total_of (map g xs)
total_most f g [] all = omega (arith, ints)
total_most f g (x ∷ xs) all =
    let first = all 0 x (omega arith) in
    let rest = total_most f g xs (All-tail (λ x. f x ≤ℤ g x) x xs all) in
    omega (arith, ints, first, rest)

pub total_zeros : {T : Type 0} (xs : List T) → total_of (map (λ x. pos 0) xs) ≡ pos 0
total_zeros [] = refl
total_zeros (x ∷ xs) = let e = total_zeros xs in omega (arith, ints)

pub total_none : {T : Type 0} (f : T → ℤ) (xs : List T) → All (λ x. f x ≡ pos 0) xs → total_of (map f xs) ≡ pos 0
total_none f xs all = total_same f (λ x. pos 0) xs all ∙ total_zeros xs

pub total_natural : {T : Type 0} (f : T → ℤ) (xs : List T) → All (λ x. pos 0 ≤ℤ f x) xs → pos 0 ≤ℤ total_of (map f xs)
total_natural f xs all =
    let e = total_zeros xs in
    let h = total_most (λ x. pos 0) f xs all in
    omega (arith, ints, e, h)

least_cond : (b : Bool) (x : ℤ) → (b ≡ true → pos 0 ≤ℤ x) → pos 0 ≤ℤ cond b x (pos 0)
least_cond true x h = h refl
least_cond false x h = omega (arith, ints)

-- one item of a group has no more than all, where none has less than nothing
pub one_of_group : {T : Type 0} (f : ℕ → ℤ) (passes : T → Bool) (d : T) (n : ℕ) (items : List T)
    → ((k : ℕ) → k < length items → passes (get_or items k d) ≡ true → pos 0 ≤ℤ f (n + k))
    → (k : ℕ) → k < length items → passes (get_or items k d) ≡ true → f (n + k) ≤ℤ total_of (map f (numbers_from passes n items))
one_of_group f passes d n [] least k l e = absurd (omega arith)
one_of_group f passes d n (item ∷ items) least zero l e =
    let ns = numbers_from passes (n + 1) items in
    let first : f (n + 0) ≡ f n = ap f (omega arith) in
    let split = total_cond f (passes item) n ns in
    let own : cond (passes item) (f n) (pos 0) ≡ f n = ap (λ (b : Bool). cond b (f n) (pos 0)) e in
    let rest = total_natural f ns (each_number (λ m. pos 0 ≤ℤ f m) passes d (n + 1) items (λ k l e. let next : n + suc k ≡ n + 1 + k = omega arith in subst (λ (m : ℕ). pos 0 ≤ℤ f m) next (least (suc k) (omega arith) e))) in
    omega (arith, ints, first, split, own, rest)
one_of_group f passes d n (item ∷ items) least (suc k) l e =
    let ns = numbers_from passes (n + 1) items in
    let same : f (n + suc k) ≡ f (n + 1 + k) = ap f (omega arith) in
    let split = total_cond f (passes item) n ns in
    let rest = one_of_group f passes d (n + 1) items (λ k l e. let next : n + suc k ≡ n + 1 + k = omega arith in subst (λ (m : ℕ). pos 0 ≤ℤ f m) next (least (suc k) (omega arith) e)) k (omega arith) e in
    let own : pos 0 ≤ℤ cond (passes item) (f n) (pos 0) = least_cond (passes item) (f n) (λ t. subst (λ (m : ℕ). pos 0 ≤ℤ f m) (let z : n + 0 ≡ n = omega arith in z) (least 0 (omega arith) t)) in
    omega (arith, ints, same, split, rest, own)

-- what holds of each number of a range
pub all_range : (P : ℕ → Type 0) (n : ℕ) → ((k : ℕ) → k < n → P k) → All P (range_with_len 0 n)
all_range P n h k d l =
    let long = length-range_with_len 0 n in
    let at : get_or (range_with_len 0 n) k d ≡ 0 + k = get_or-range_with_len 0 n k d (omega arith) in
    let same : 0 + k ≡ k = omega arith in
    subst P (sym (at ∙ same)) (h k (omega arith))
