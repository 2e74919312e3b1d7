-- Words of numbers, and numbers of words.
use Rattle.std.proofs.Common.{◌≡◌, ◌∙◌, ap, sym, refl, ℕ, zero, suc, ◌+◌, ◌*◌, ◌/◌, ◌%◌, ◌^◌, ◌<◌, ◌≤◌, arith, List, [], ◌∷◌, ◌++◌, length, take, drop, get_or, set, append_assoc, append-nil, zero-add, ◌-◌}
use Rattle.std.specs.Prelude.{ℤ, pos, FitsSigned, slice_range}
use Rattle.std.proofs.lemmas.List.Concat.{flat_map-append}
use Rattle.std.specs.List.{AllByRecursion}
use Rattle.std.specs.Int.{cast_signed, cast_unsigned, w64, w128}
use Rattle.std.proofs.Math.Facts.{Fits-of_z}
use Rattle.std.proofs.lemmas.Int.{of_z-to_z, to_z-of_z}
use Rattle.std.proofs.lemmas.Nat.{div-add-mod'}
use Rattle.std.proofs.lemmas.List.{take_more, take_more_set, length-set, length-take-le}
use Rattle.cpl_stocks.specs.Partials.{high_word, in_rows, low_word, number_of_words, numbers_of_words, words_of_numbers}

pub words-nil : words_of_numbers [] ≡ []
unfolding words_of_numbers
words-nil = refl

pub numbers-nil : numbers_of_words [] ≡ []
unfolding numbers_of_words
numbers-nil = refl

-- words of lists end to end
pub words-append : (xs ys : List ℤ) → words_of_numbers (xs ++ ys) ≡ words_of_numbers xs ++ words_of_numbers ys
unfolding words_of_numbers
words-append [] ys = refl
words-append (x ∷ xs) ys = ap (λ (rest : List ℤ). high_word x ∷ low_word x ∷ rest) (words-append xs ys)

words-one : (x : ℤ) → words_of_numbers (x ∷ []) ≡ high_word x ∷ low_word x ∷ []
unfolding words_of_numbers
words-one x = refl

-- numbers of lists end to end, the first of which ends with a whole number
pub numbers-append : (n : ℕ) (xs ys : List ℤ) → length xs ≡ 2 * n → numbers_of_words (xs ++ ys) ≡ numbers_of_words xs ++ numbers_of_words ys
unfolding numbers_of_words
numbers-append zero [] ys e = refl
numbers-append zero (x ∷ xs) ys e = absurd (omega arith)
numbers-append (suc n) [] ys e = absurd (omega arith)
numbers-append (suc n) (x ∷ []) ys e = absurd (omega arith)
numbers-append (suc n) (x ∷ y ∷ xs) ys e = ap (λ (rest : List ℤ). number_of_words x y ∷ rest) (numbers-append n xs ys (omega arith))

numbers-two : (x y : ℤ) → numbers_of_words (x ∷ y ∷ []) ≡ number_of_words x y ∷ []
unfolding numbers_of_words
numbers-two x y = refl

-- two more of a list
take_two : (xs : List ℤ) (i : ℕ) → 2 * i + 1 < length xs
    → take (2 * (i + 1)) xs ≡ take (2 * i) xs ++ get_or xs (2 * i) (pos 0) ∷ get_or xs (2 * i + 1) (pos 0) ∷ []
take_two xs i l =
    let next : 2 * (i + 1) ≡ 2 * i + 1 + 1 = omega arith in
    ap (λ n. take n xs) next
    ∙ take_more xs (2 * i + 1) (pos 0) l
    ∙ ap (λ (front : List ℤ). front ++ get_or xs (2 * i + 1) (pos 0) ∷ []) (take_more xs (2 * i) (pos 0) (omega arith))
    ∙ append_assoc (take (2 * i) xs) (get_or xs (2 * i) (pos 0) ∷ []) (get_or xs (2 * i + 1) (pos 0) ∷ [])

-- the words of one more number were written
pub wrote_more : (numbers words : List ℤ) (i : ℕ) (high low : ℤ) → i < length numbers → 2 * i + 1 < length words
    → take (2 * i) words ≡ words_of_numbers (take i numbers) → high ≡ high_word (get_or numbers i (pos 0)) → low ≡ low_word (get_or numbers i (pos 0))
    → take (2 * (i + 1)) (set (set words (2 * i) high) (2 * i + 1) low) ≡ words_of_numbers (take (i + 1) numbers)
wrote_more numbers words i high low l m before is_high is_low =
    let next : 2 * (i + 1) ≡ 2 * i + 1 + 1 = omega arith in
    let count = length-set words (2 * i) high in
    ap (λ n. take n (set (set words (2 * i) high) (2 * i + 1) low)) next
    ∙ take_more_set (set words (2 * i) high) (2 * i + 1) low (omega arith)
    ∙ ap (λ (front : List ℤ). front ++ low ∷ []) (take_more_set words (2 * i) high (omega arith))
    ∙ append_assoc (take (2 * i) words) (high ∷ []) (low ∷ [])
    ∙ (λ j. before j ++ is_high j ∷ is_low j ∷ [])
    ∙ ap (λ (last : List ℤ). words_of_numbers (take i numbers) ++ last) (sym (words-one (get_or numbers i (pos 0))))
    ∙ sym (words-append (take i numbers) (get_or numbers i (pos 0) ∷ []))
    ∙ ap words_of_numbers (sym (take_more numbers i (pos 0) l))

-- one more number was read from its words
pub read_more : (words row : List ℤ) (i : ℕ) (number : ℤ) → 2 * i + 1 < length words → i < length row
    → take i row ≡ numbers_of_words (take (2 * i) words) → number ≡ number_of_words (get_or words (2 * i) (pos 0)) (get_or words (2 * i + 1) (pos 0))
    → take (i + 1) (set row i number) ≡ numbers_of_words (take (2 * (i + 1)) words)
read_more words row i number l m before is =
    let two = get_or words (2 * i) (pos 0) ∷ get_or words (2 * i + 1) (pos 0) ∷ [] in
    take_more_set row i number m
    ∙ (λ j. before j ++ is j ∷ [])
    ∙ ap (λ (last : List ℤ). numbers_of_words (take (2 * i) words) ++ last) (sym (numbers-two (get_or words (2 * i) (pos 0)) (get_or words (2 * i + 1) (pos 0))))
    ∙ sym (numbers-append i (take (2 * i) words) two (length-take-le (2 * i) words (omega arith)))
    ∙ ap numbers_of_words (sym (take_two words i l))

take_none : (n : ℕ) → take {A = ℤ} n [] ≡ []
take_none zero = refl
take_none (suc n) = refl

take_none_of_none : (a b : ℕ) → take {A = ℤ} a [] ++ take b (drop {A = ℤ} a []) ≡ []
take_none_of_none zero b = take_none b
take_none_of_none (suc a) b = take_none b

take_split : (a b : ℕ) (xs : List ℤ) → take (a + b) xs ≡ take a xs ++ take b (drop a xs)
take_split a b [] = take_none (a + b) ∙ sym (take_none_of_none a b)
take_split zero b (x ∷ xs) = ap (λ n. take n (x ∷ xs)) (zero-add b)
take_split (suc a) b (x ∷ xs) =
    let next : suc a + b ≡ suc (a + b) = omega arith in
    ap (λ n. take n (x ∷ xs)) next ∙ ap (λ (rest : List ℤ). x ∷ rest) (take_split a b xs)

-- one more row of this width was read from its words
pub read_row_more : (words : List ℤ) (rows : List (List ℤ)) (width i : ℕ) (row : List ℤ) → i < length rows → 2 * width * (i + 1) ≤ length words
    → in_rows (take i rows) ≡ numbers_of_words (take (2 * width * i) words)
    → row ≡ numbers_of_words (slice_range words (2 * width * i) (2 * width * i + 2 * width))
    → in_rows (take (i + 1) (set rows i row)) ≡ numbers_of_words (take (2 * width * (i + 1)) words)
read_row_more words rows width i row l m before is =
    let start = 2 * width * i in
    let next : start + 2 * width ≡ 2 * width * (i + 1) = omega arith in
    let wide : start + 2 * width - start ≡ 2 * width = omega arith in
    let own = take (2 * width) (drop start words) in
    let read : row ≡ numbers_of_words own = is ∙ ap (λ n. numbers_of_words (take n (drop start words))) wide in
    ap in_rows (take_more_set rows i row l)
    ∙ flat_map-append (λ (row : List ℤ). row) (take i rows) (row ∷ [])
    ∙ ap (λ (last : List ℤ). in_rows (take i rows) ++ last) (append-nil row)
    ∙ (λ j. before j ++ read j)
    ∙ sym (numbers-append (width * i) (take start words) own (length-take-le start words (omega arith) ∙ omega arith))
    ∙ ap numbers_of_words (sym (take_split start (2 * width) words) ∙ ap (λ n. take n words) next)

-- the word pair of a number of 128 bits gives it back
pub number-words : (x : ℤ) → FitsSigned w128 x → number_of_words (high_word x) (low_word x) ≡ x
number-words x fits =
    let n = cast_unsigned w128 x in
    let most : n < 2 ^ 128 = (Fits-of_z {w = w128} fits).fits in
    let high = of_z-to_z w64 (n / 2 ^ 64) (omega arith) in
    let low = of_z-to_z w64 (n % 2 ^ 64) (omega arith) in
    (λ i. cast_signed w128 (high i * 2 ^ 64 + low i)) ∙ ap (cast_signed w128) (div-add-mod' n (2 ^ 64)) ∙ to_z-of_z w128 x fits

-- and so do those of numbers
pub numbers-words : (xs : List ℤ) → AllByRecursion (FitsSigned w128) xs → numbers_of_words (words_of_numbers xs) ≡ xs
unfolding numbers_of_words words_of_numbers
numbers-words [] all = refl
numbers-words (x ∷ xs) all = λ i. number-words x all.0 i ∷ numbers-words xs all.1 i
