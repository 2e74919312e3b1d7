-- Edges as they are added.
use Rattle.std.proofs.Common.{cond, ◌≡◌, ◌∙◌, refl, sym, ap, ℕ, ◌+◌, ◌<◌, zero, suc, arith, Bool, true, false, List, [], ◌∷◌, ◌++◌, length, get_or, take}
use Rattle.std.specs.Prelude.{map, filter}
use Rattle.std.specs.List.{range_with_len, flat_map}
use Rattle.std.proofs.lemmas.Grind.{flat_map-append}
use Rattle.std.proofs.lemmas.List.{append-nil, append_assoc, take_more}

-- a range with one more number
range_next : (a n : ℕ) → range_with_len a (suc n) ≡ range_with_len a n ++ (a + n) ∷ []
range_next a zero = let same : a ≡ a + 0 = omega arith in ap (λ (k : ℕ). k ∷ []) same
range_next a (suc n) =
    let same : a + 1 + n ≡ a + suc n = omega arith in
    ap (λ (xs : List ℕ). a ∷ xs) (range_next (a + 1) n) ∙ ap (λ (k : ℕ). a ∷ (range_with_len (a + 1) n ++ k ∷ [])) same

pub range_more : (a n : ℕ) → range_with_len a (n + 1) ≡ range_with_len a n ++ (a + n) ∷ []
range_more a n = let same : n + 1 ≡ suc n = omega arith in ap (range_with_len a) same ∙ range_next a n

-- what a test picks, as lists of one item or none
picked_if : {T : Type 0} (g : ℕ → T) (b : Bool) (k : ℕ) (ks : List ℕ) → map g (cond b (k ∷ ks) ks) ≡ cond b (g k ∷ []) [] ++ map g ks
picked_if g true k ks = refl
picked_if g false k ks = refl

pub picked_is : {T : Type 0} (test : ℕ → Bool) (g : ℕ → T) (ks : List ℕ) → map g (filter test ks) ≡ flat_map (λ k. cond (test k) (g k ∷ []) []) ks
picked_is test g [] = refl
picked_is test g (k ∷ ks) = picked_if g (test k) k (filter test ks) ∙ ap (λ rest. cond (test k) (g k ∷ []) [] ++ rest) (picked_is test g ks)

-- lists of a range, with one more
pub flat_more : {T : Type 0} (f : ℕ → List T) (a n : ℕ) → flat_map f (range_with_len a (n + 1)) ≡ flat_map f (range_with_len a n) ++ f (a + n)
flat_more f a n = ap (flat_map f) (range_more a n) ∙ flat_map-append f (range_with_len a n) ((a + n) ∷ []) ∙ ap (λ xs. flat_map f (range_with_len a n) ++ xs) (append-nil (f (a + n)))

-- added to what was there
pub added_more : {T : Type 0} (f : ℕ → List T) (a n : ℕ) (old before after : List T) → before ≡ old ++ flat_map f (range_with_len a n) → after ≡ before ++ f (a + n)
    → after ≡ old ++ flat_map f (range_with_len a (n + 1))
added_more f a n old before after was is =
    is ∙ ap (λ xs. xs ++ f (a + n)) was ∙ append_assoc old (flat_map f (range_with_len a n)) (f (a + n)) ∙ ap (λ xs. old ++ xs) (sym (flat_more f a n))

-- one more list
pub listed_more : {S T : Type 0} (f : S → List T) (xs : List S) (n : ℕ) (d : S) (before after : List T) → n < length xs → before ≡ flat_map f (take n xs) → after ≡ before ++ f (get_or xs n d)
    → after ≡ flat_map f (take (n + 1) xs)
listed_more f xs n d before after l was is =
    is ∙ ap (λ ys. ys ++ f (get_or xs n d)) was ∙ ap (λ ys. flat_map f (take n xs) ++ ys) (sym (append-nil (f (get_or xs n d))))
    ∙ sym (flat_map-append f (take n xs) (get_or xs n d ∷ [])) ∙ ap (flat_map f) (sym (take_more xs n d l))
