-- An item of joined lists by its number.
use Rattle.std.proofs.Common.{◌≡◌, ◌∙◌, refl, sym, ap, subst, ℕ, zero, suc, ◌+◌, ◌-◌, ◌*◌, ◌<◌, ◌≤◌, ◌⊎◌, arith, inl, inr, List, [], ◌∷◌, ◌++◌, length}
use Rattle.std.specs.Prelude.{slice_get}
use Rattle.std.specs.List.{flat_map, range_with_len}
use Rattle.std.proofs.lemmas.Bool.{cases_eq}
use Rattle.std.proofs.lemmas.List.{length-append}

-- one more of a size
mul-add_one : (k size : ℕ) → (k + 1) * size ≡ k * size + size
mul-add_one k size = omega arith

-- of two lists, of the first
pub get_front : {X : Type 0} (xs ys : List X) (m : ℕ) → m < length xs → slice_get (xs ++ ys) m ≡ slice_get xs m
get_front [] ys m l = absurd (omega arith)
get_front (x ∷ xs) ys zero l = refl
get_front (x ∷ xs) ys (suc m) l = get_front xs ys m (omega arith)

-- or of the second
pub get_back : {X : Type 0} (xs ys : List X) (m : ℕ) → length xs ≤ m → slice_get (xs ++ ys) m ≡ slice_get ys (m - length xs)
get_back [] ys m l = let same : m ≡ m - 0 = omega arith in ap (slice_get ys) same
get_back (x ∷ xs) ys zero l = absurd (omega arith)
get_back (x ∷ xs) ys (suc m) l = let same : m - length xs ≡ suc m - suc (length xs) = omega arith in get_back xs ys m (omega arith) ∙ ap (slice_get ys) same

-- past both
get_end : {X : Type 0} (xs : List X) (m : ℕ) → slice_get (xs ++ []) m ≡ slice_get xs m
get_end [] m = refl
get_end (x ∷ xs) zero = refl
get_end (x ∷ xs) (suc m) = get_end xs m

-- LISTS THAT FOLLOW EACH OTHER

module _ {X : Type 0} (f : ℕ → List X) (begin : ℕ → ℕ) (last : ℕ) (next : (k : ℕ) → k + 1 < last → begin (k + 1) ≡ begin k + length (f k)) where
  begins_rise : (a d : ℕ) → a + d < last → begin a ≤ begin (a + d)
  begins_rise a zero l = let same : a + 0 ≡ a = omega arith in let is = ap begin same in omega arith
  begins_rise a (suc d) l =
      let before = begins_rise a d (omega arith) in
      let step = next (a + d) (omega arith) in
      let same : a + suc d ≡ a + d + 1 = omega arith in
      let is = ap begin same in omega arith

  -- an item of the first list, or past the last
  in_first : (a count rest : ℕ) → a + suc count ≡ last → ((rest < length (f a)) ⊎ (a + 1 ≡ last)) → slice_get (f a ++ flat_map f (range_with_len (a + 1) count)) rest ≡ slice_get (f a) rest
  in_first a zero rest ends there = get_end (f a) rest
  in_first a (suc count) rest ends (inl l) = get_front (f a) (flat_map f (range_with_len (a + 1) (suc count))) rest l
  in_first a (suc count) rest ends (inr past) = absurd (omega arith)

  in_nth : (a count n rest m : ℕ) → a + count ≡ last → a ≤ n → n < last → ((rest < length (f n)) ⊎ (n + 1 ≡ last)) → m + begin a ≡ begin n + rest
      → slice_get (flat_map f (range_with_len a count)) m ≡ slice_get (f n) rest
  in_nth a zero n rest m ends low high there is = absurd (omega arith)
  in_nth a (suc count) n rest m ends low high there is = elim (cases_eq n a) [
    | inl same ↦
        let begins = ap begin same in
        let at : m ≡ rest = omega arith in
        let there : (rest < length (f a)) ⊎ (a + 1 ≡ last) = subst (λ (k : ℕ). (rest < length (f k)) ⊎ (k + 1 ≡ last)) same there in
        ap (slice_get (f a ++ flat_map f (range_with_len (a + 1) count))) at ∙ in_first a count rest ends there ∙ ap (λ (k : ℕ). slice_get (f k) rest) (sym same)
    | inr other ↦
        let step : begin (a + 1) ≡ begin a + length (f a) = next a (omega arith) in
        let split : a + 1 + (n - (a + 1)) ≡ n = omega arith in
        let rise : begin (a + 1) ≤ begin (a + 1 + (n - (a + 1))) = begins_rise (a + 1) (n - (a + 1)) (omega arith) in
        let is_begin = ap begin split in
        get_back (f a) (flat_map f (range_with_len (a + 1) count)) m (omega arith)
        ∙ in_nth (a + 1) count n rest (m - length (f a)) (omega arith) (omega arith) high there (omega arith)
  ]

  -- how long all are together
  blocks_length : (a count : ℕ) → a + suc count ≡ last → length (flat_map f (range_with_len a (suc count))) + begin a ≡ begin (a + count) + length (f (a + count))
  blocks_length a zero ends =
      let same : a + 0 ≡ a = omega arith in
      let is = ap begin same in
      let len = ap (λ (k : ℕ). length (f k)) same in
      let both = length-append (f a) [] in omega arith
  blocks_length a (suc count) ends =
      let rest = blocks_length (a + 1) count (omega arith) in
      let step = next a (omega arith) in
      let same : a + 1 + count ≡ a + suc count = omega arith in
      let is = ap begin same in
      let len = ap (λ (k : ℕ). length (f k)) same in
      let both = length-append (f a) (flat_map f (range_with_len (a + 1) (suc count))) in omega arith

-- The n-th of lists begins at a number, and an item is of the n-th list, or past the last one.
pub get_block : {X : Type 0} (f : ℕ → List X) (begin : ℕ → ℕ) (count n rest m : ℕ) → ((k : ℕ) → k + 1 < count → begin (k + 1) ≡ begin k + length (f k)) → begin 0 ≡ 0 → n < count
    → ((rest < length (f n)) ⊎ (n + 1 ≡ count)) → m ≡ begin n + rest → slice_get (flat_map f (range_with_len 0 count)) m ≡ slice_get (f n) rest
get_block f begin count n rest m next first l there is = in_nth f begin count next 0 count n rest m (omega arith) (omega arith) l there (omega arith)

pub length_blocks : {X : Type 0} (f : ℕ → List X) (begin : ℕ → ℕ) (count last : ℕ) → ((k : ℕ) → k + 1 < count → begin (k + 1) ≡ begin k + length (f k)) → begin 0 ≡ 0 → last + 1 ≡ count
    → length (flat_map f (range_with_len 0 count)) ≡ begin last + length (f last)
length_blocks f begin count last next first is =
    let all = blocks_length f begin count next 0 last (omega arith) in
    let same : count ≡ suc last = omega arith in
    let none : 0 + last ≡ last = omega arith in
    let at = ap begin none in
    let len = ap (λ (k : ℕ). length (f k)) none in
    let size = ap (λ (k : ℕ). length (flat_map f (range_with_len 0 k))) same in omega arith

-- lists of one length
pub get_even : {X : Type 0} (f : ℕ → List X) (size count n rest : ℕ) → ((k : ℕ) → length (f k) ≡ size) → n < count → rest < size
    → slice_get (flat_map f (range_with_len 0 count)) (n * size + rest) ≡ slice_get (f n) rest
get_even f size count n rest even l small =
    let len = even n in
    get_block f (λ k. k * size) count n rest (n * size + rest) (λ k h. let e = even k in let more = mul-add_one k size in omega arith) (omega arith) l (inl (omega arith)) refl

pub length_even : {X : Type 0} (f : ℕ → List X) (size a count : ℕ) → ((k : ℕ) → length (f k) ≡ size) → length (flat_map f (range_with_len a count)) ≡ count * size
length_even f size a zero even = omega arith
length_even f size a (suc count) even =
    let rest = length_even f size (a + 1) count even in
    let len = even a in
    let both = length-append (f a) (flat_map f (range_with_len (a + 1) count)) in
    let more = mul-add_one count size in omega arith
