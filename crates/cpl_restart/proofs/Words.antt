-- Numbers as eight bytes, in both directions.
use Rattle.std.proofs.Common.{◌≡◌, ℕ, zero, suc, ◌+◌, ◌-◌, ◌*◌, ◌^◌, ◌<◌, ◌≤◌, List, [], ◌∷◌, ◌++◌, length, get_or, take, drop, ℤ, pos, refl, sym, ap, ◌∙◌, append_assoc, arith, inl, inr}
use Rattle.std.specs.Int.{cast_signed, cast_unsigned, w64}
use Rattle.std.specs.Int.RustNames.{FitsSigned}
use Rattle.std.specs.List.{AllByRecursion}
use Rattle.std.proofs.Math.Facts.{Fits-of_z, sfits_to_z}
use Rattle.std.proofs.lemmas.Bool.{cases_lt}
use Rattle.std.proofs.lemmas.Int.{of_z-to_z, to_z-of_z}
use Rattle.std.proofs.lemmas.Nat.{be_bytes_8}
use Rattle.std.proofs.lemmas.List.{drop_at, drop-drop, take-append-drop, length-append, length-take, length-drop, get_or-drop, get_or-take, get_or_past, drop-take, ext_get_or}
use Rattle.byteorder.specs.Endian.{big_number, big_bytes}
use Rattle.byteorder.specs.Numbers.{big_from-take, big_from-lt, big_number-reads_back, length-bytes_high_first}
use Rattle.cpl_restart.specs.Numbers.{number_bytes, numbers_bytes, number_in, numbers_in}

abbrev pub IsBytes : List ℕ → Type 0
IsBytes bytes = (i : ℕ) → get_or bytes i 0 < 256

pub IsBytes-drop : (n : ℕ) (bytes : List ℕ) → IsBytes bytes → IsBytes (drop n bytes)
IsBytes-drop n bytes h i = rw get_or-drop (h (n + i))

IsBytes-take : (n : ℕ) (bytes : List ℕ) → IsBytes bytes → IsBytes (take n bytes)
IsBytes-take n bytes h i =
    elim (cases_lt i n) [
      | inl lt ↦ rw (get_or-take n bytes i 0 lt) (h i)
      | inr le ↦ rw (get_or_past (take n bytes) i 0 (omega (arith, length-take n bytes))) (omega arith)
    ]

-- ---- one number

pub length-number_bytes : (x : ℤ) → length (number_bytes x) ≡ 8
unfolding number_bytes
length-number_bytes x = length-bytes_high_first 8 (cast_unsigned w64 x)

-- eight bytes are the spelling of the number that they read as
spelled_again : (bytes : List ℕ) → 8 ≤ length bytes → IsBytes bytes → big_bytes 8 (big_number 8 bytes) ≡ take 8 bytes
spelled_again bytes long fits =
    let same : big_number 8 (take 8 bytes) ≡ big_number 8 bytes = big_from-take 0 8 8 bytes (omega arith) in
    let len : length (take 8 bytes) ≡ 8 = omega (arith, length-take 8 bytes) in
    ap (big_bytes 8) (sym same) ∙ be_bytes_8 (take 8 bytes) (big_number 8 (take 8 bytes)) len (IsBytes-take 8 bytes fits) (omega arith)

pub number_again : (bytes : List ℕ) → 8 ≤ length bytes → IsBytes bytes → number_bytes (number_in bytes) ≡ take 8 bytes
unfolding number_bytes number_in
number_again bytes long fits =
    let small : big_number 8 bytes < 2 ^ 64 = big_from-lt 0 8 bytes fits in
    ap (big_bytes 8) (of_z-to_z w64 (big_number 8 bytes) small) ∙ spelled_again bytes long fits

-- a count that was read is spelled so
pub count_again : (n : ℕ) (bytes : List ℕ) → 8 ≤ length bytes → IsBytes bytes → big_number 8 bytes ≡ n → number_bytes (pos n) ≡ take 8 bytes
unfolding number_bytes
count_again n bytes long fits e = ap (big_bytes 8) (sym e) ∙ spelled_again bytes long fits

pub number_back : (x : ℤ) (rest : List ℕ) → FitsSigned w64 x → number_in (number_bytes x ++ rest) ≡ x
unfolding number_bytes number_in
number_back x rest fits =
    ap (cast_signed w64) (big_number-reads_back 8 (cast_unsigned w64 x) rest (omega (arith, Fits-of_z fits))) ∙ to_z-of_z w64 x fits

pub count_back : (n : ℕ) (rest : List ℕ) → n < 2 ^ 64 → big_number 8 (number_bytes (pos n) ++ rest) ≡ n
unfolding number_bytes
count_back n rest small = big_number-reads_back 8 n rest small

-- what is read keeps to 64 bits
pub number_fits : (bytes : List ℕ) → IsBytes bytes → FitsSigned w64 (number_in bytes)
unfolding number_in
number_fits bytes fits = sfits_to_z {w = w64} {n = big_number 8 bytes} (record { fits = big_from-lt 0 8 bytes fits })

-- ---- several numbers

pub length-numbers_bytes : (xs : List ℤ) → length (numbers_bytes xs) ≡ 8 * length xs
length-numbers_bytes [] = refl
length-numbers_bytes (x ∷ xs) = omega (arith, length-append (number_bytes x) (numbers_bytes xs), length-number_bytes x, length-numbers_bytes xs)

pub length-numbers_in : (n : ℕ) (bytes : List ℕ) → length (numbers_in n bytes) ≡ n
length-numbers_in zero bytes = refl
length-numbers_in (suc n) bytes = ap suc (length-numbers_in n (drop 8 bytes))

-- where the number of index k stands
pub get_or-numbers_in : (n k : ℕ) (bytes : List ℕ) (d : ℤ) → k < n → get_or (numbers_in n bytes) k d ≡ number_in (drop (8 * k) bytes)
get_or-numbers_in zero k bytes d lt = absurd (omega arith)
get_or-numbers_in (suc n) zero bytes d lt = refl
get_or-numbers_in (suc n) (suc k) bytes d lt =
    let at : 8 + 8 * k ≡ 8 * suc k = omega arith in
    get_or-numbers_in n k (drop 8 bytes) d (omega arith) ∙ ap number_in (drop-drop (8 * k) 8 bytes ∙ ap (λ (m : ℕ). drop m bytes) at)

pub numbers_fit : (n : ℕ) (bytes : List ℕ) → IsBytes bytes → AllByRecursion (FitsSigned w64) (numbers_in n bytes)
numbers_fit zero bytes fits = tt
numbers_fit (suc n) bytes fits = (number_fits bytes fits, numbers_fit n (drop 8 bytes) (IsBytes-drop 8 bytes fits))

-- numbers that were read one by one from the front of the bytes
pub numbers_read : (n : ℕ) (bytes front : List ℕ) (xs : List ℤ) → 8 * n ≤ length bytes → front ≡ take (8 * n) bytes → length xs ≡ n
    → ((d : ℤ) (k : ℕ) → k < length xs → get_or xs k d ≡ cast_signed w64 (big_number 8 (drop (8 * k) front))) → xs ≡ numbers_in n bytes
unfolding number_in
numbers_read n bytes front xs long is len each =
    ext_get_or (pos 0) xs (numbers_in n bytes) (len ∙ sym (length-numbers_in n bytes)) (λ k lt.
    let split : 8 * k + (8 * n - 8 * k) ≡ 8 * n = omega arith in
    let there : drop (8 * k) front ≡ take (8 * n - 8 * k) (drop (8 * k) bytes) = ap (drop (8 * k)) (is ∙ ap (λ (m : ℕ). take m bytes) (sym split)) ∙ drop-take (8 * k) (8 * n - 8 * k) bytes in
    let same : big_number 8 (take (8 * n - 8 * k) (drop (8 * k) bytes)) ≡ big_number 8 (drop (8 * k) bytes) = big_from-take 0 8 (8 * n - 8 * k) (drop (8 * k) bytes) (omega arith) in
    each (pos 0) k lt ∙ ap (λ (r : List ℕ). cast_signed w64 (big_number 8 r)) there ∙ ap (cast_signed w64) same ∙ sym (get_or-numbers_in n k bytes (pos 0) (omega arith)))

-- the numbers that were read are spelled by the bytes that they were read from
pub numbers_again : (n : ℕ) (bytes : List ℕ) → 8 * n ≤ length bytes → IsBytes bytes → bytes ≡ numbers_bytes (numbers_in n bytes) ++ drop (8 * n) bytes
numbers_again zero bytes long fits = refl
numbers_again (suc n) bytes long fits =
    let at : 8 + 8 * n ≡ 8 * suc n = omega arith in
    let rest : drop (8 * n) (drop 8 bytes) ≡ drop (8 * suc n) bytes = drop-drop (8 * n) 8 bytes ∙ ap (λ (m : ℕ). drop m bytes) at in
    let more : drop 8 bytes ≡ numbers_bytes (numbers_in n (drop 8 bytes)) ++ drop (8 * suc n) bytes =
    numbers_again n (drop 8 bytes) (omega (arith, length-drop 8 bytes)) (IsBytes-drop 8 bytes fits) ∙ ap (λ (r : List ℕ). numbers_bytes (numbers_in n (drop 8 bytes)) ++ r) rest in
    sym (take-append-drop 8 bytes)
    ∙ ap (λ (r : List ℕ). take 8 bytes ++ r) more
    ∙ ap (λ (w : List ℕ). w ++ (numbers_bytes (numbers_in n (drop 8 bytes)) ++ drop (8 * suc n) bytes)) (sym (number_again bytes (omega arith) fits))
    ∙ sym (append_assoc (number_bytes (number_in bytes)) (numbers_bytes (numbers_in n (drop 8 bytes))) (drop (8 * suc n) bytes))

-- numbers that are spelled are read
pub numbers_back : (xs : List ℤ) (rest : List ℕ) → AllByRecursion (FitsSigned w64) xs → numbers_in (length xs) (numbers_bytes xs ++ rest) ≡ xs
numbers_back [] rest fits = refl
numbers_back (x ∷ xs) rest fits =
    let grouped : numbers_bytes (x ∷ xs) ++ rest ≡ number_bytes x ++ (numbers_bytes xs ++ rest) = append_assoc (number_bytes x) (numbers_bytes xs) rest in
    let behind : drop 8 (number_bytes x ++ (numbers_bytes xs ++ rest)) ≡ numbers_bytes xs ++ rest = drop_at (number_bytes x) (numbers_bytes xs ++ rest) 8 (length-number_bytes x) in
    ap (numbers_in (suc (length xs))) grouped
    ∙ rw (number_back x (numbers_bytes xs ++ rest) fits.0, behind, numbers_back xs rest fits.1) refl
