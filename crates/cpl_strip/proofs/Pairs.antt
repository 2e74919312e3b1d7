-- The strips made of a filled table, pair by pair.
use Rattle.std.proofs.Common.{◌≡◌, refl, sym, ◌∙◌, ap, ℕ, zero, suc, ◌+◌, ◌*◌, ◌<◌, ◌≤◌, arith, List, [], ◌∷◌, ◌++◌, Option}
use Rattle.std.specs.Prelude.{◌/◌, ◌%◌}
use Rattle.std.specs.List.{range_with_len, flat_map}
use Rattle.std.specs.Option.{option_to_list}
use Rattle.std.proofs.lemmas.List.{append-nil, append_assoc}
use Rattle.std.proofs.lemmas.List.Concat.{flat_map-append}
use Rattle.std.proofs.lemmas.Nat.{div-mul-add, mod-mul-add}
use Rattle.cpl_strip.specs.Tables.{picks, for_pairs, gifts, IsFilled, if_some, made_at}
use Rattle.cpl_strip.proofs.Bundles.{holds}

-- one number more
range_more : (from k : ℕ) → range_with_len from (suc k) ≡ range_with_len from k ++ (from + k) ∷ []
range_more from zero = ap (λ (n : ℕ). n ∷ []) (let e : from ≡ from + 0 = omega arith in e)
range_more from (suc k) =
    let next : from + 1 + k ≡ from + suc k = omega arith in
    ap (λ (ns : List ℕ). from ∷ ns) (range_more (from + 1) k ∙ ap (λ (n : ℕ). range_with_len (from + 1) k ++ n ∷ []) next)

picks_same : {Y : Type 0} (f g : ℕ → Option Y) (k : ℕ) → ((m : ℕ) → m < k → f m ≡ g m) → picks f k ≡ picks g k
picks_same f g zero same = refl
picks_same f g (suc k) same =
    let before = picks_same f g k (λ m l. same m (omega arith)) in
    let here = same k (omega arith) in
    λ s. before s ++ option_to_list (here s)

-- what is given of the first numbers, and then of those after them
picks_split : {Y : Type 0} (f : ℕ → Option Y) (a b : ℕ) → picks f (a + b) ≡ picks f a ++ picks (λ j. f (a + j)) b
picks_split f a zero = ap (picks f) (let e : a + 0 ≡ a = omega arith in e) ∙ sym (append-nil (picks f a))
picks_split f a (suc b) =
    let next : a + suc b ≡ suc (a + b) = omega arith in
    ap (picks f) next
    ∙ ap (λ xs. xs ++ option_to_list (f (a + b))) (picks_split f a b)
    ∙ append_assoc (picks f a) (picks (λ j. f (a + j)) b) (option_to_list (f (a + b)))

-- by the number of a pair is by the first piece, then the second
picks_pairs : {Y : Type 0} (f : ℕ → ℕ → Option Y) (width k : ℕ) → picks (λ n. f (n / width) (n % width)) (k * width) ≡ flat_map (λ i. picks (f i) width) (range_with_len 0 k)
picks_pairs f width zero = ap (picks (λ n. f (n / width) (n % width))) (let e : 0 * width ≡ 0 = omega arith in e)
picks_pairs f width (suc k) =
    let next : suc k * width ≡ k * width + width = omega arith in
    let own = picks_same (λ j. f ((k * width + j) / width) ((k * width + j) % width)) (f k) width (λ j l. λ s. f (div-mul-add k width j l s) (mod-mul-add k width j l s)) in
    ap (picks (λ n. f (n / width) (n % width))) next
    ∙ picks_split (λ n. f (n / width) (n % width)) (k * width) width
    ∙ (λ s. picks_pairs f width k s ++ own s)
    ∙ ap (λ xs. flat_map (λ i. picks (f i) width) (range_with_len 0 k) ++ xs) (sym (append-nil (picks (f k) width)))
    ∙ sym (flat_map-append (λ i. picks (f i) width) (range_with_len 0 k) (k ∷ []))
    ∙ ap (flat_map (λ i. picks (f i) width)) (sym (range_more 0 k ∙ ap (λ (n : ℕ). range_with_len 0 k ++ n ∷ []) (let e : 0 + k ≡ k = omega arith in e)))

-- the strips made of a table in which all that is taken stands
pub made_pairs : {T R : Type 0} (made : ℕ → ℕ → List T → R) (taken : ℕ → ℕ → Option (ℕ × T)) (counts : ℕ → ℕ) (pieces : ℕ) (table : List (List T)) → 1 ≤ pieces → IsFilled taken counts pieces pieces 0 table
    → picks (made_at made pieces table) (pieces * pieces) ≡ for_pairs pieces (λ from to. if_some (made from to) (gifts taken from to (counts to)))
made_pairs made taken counts pieces table some is =
    picks_same (made_at made pieces table) (λ n. if_some (made (n / pieces) (n % pieces)) (gifts taken (n / pieces) (n % pieces) (counts (n % pieces)))) (pieces * pieces) (λ n below. ap (if_some (made (n / pieces) (n % pieces))) (holds taken counts pieces table n some is below))
    ∙ picks_pairs (λ from to. if_some (made from to) (gifts taken from to (counts to))) pieces pieces
