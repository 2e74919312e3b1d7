-- A number and its text.
use Rattle.std.proofs.Common.{◌≡◌, ◌∙◌, refl, sym, ap, ℕ, ◌^◌, ◌<◌, ◌≤◌, List, [], ◌∷◌, ◌++◌, length, get_or, drop, arith, rules, true, Some, decimal, inl, inr}
use Rattle.std.specs.Char.{is_ascii_digit}
use Rattle.std.specs.List.{take_while}
use Rattle.std.specs.Str.{all_ascii_digits}
use Rattle.std.proofs.lemmas.Str.Parse.{IsNumeralModel, numerals_by_fold, digits_value_short}
use Rattle.std.proofs.lemmas.Fmt.{decimal-digits_value, digits_decimal, digits_value-decimal, first_decimal, decimal_digit, decimal_nonempty, length-decimal-le}
use Rattle.std.proofs.lemmas.Bool.{cases_Bool, cases_eq, leb-true, le-leb, eqb-true, eqb-false, eq-eqb, ne_eqb, and_parts, and_from, or_cases, or_left, or_right, not-true, not_from_false}
use Rattle.std.proofs.lemmas.List.{drop_at}
use Rattle.std.proofs.lemmas.List.Sums.{take_while-cons}
use Rattle.cpl_lines.specs.Fields.{IsShort}
use Rattle.cpl_fixed.specs.Decimals.{value_from}
use Rattle.cpl_lines.specs.Reading.{is_numeral, number_at}
use Rattle.cpl_lines.proofs.Binds.{Takes, cond_some}

-- the value of digits is what std's laws of digits speak of
own : IsNumeralModel (λ ds. all_ascii_digits ds ≡ true) (value_from 0)
own = numerals_by_fold _ (search rules) value_from (search rules)

-- no digit stands first
abbrev pub NoDigit : List ℕ → Type 0
NoDigit bytes = take_while is_ascii_digit bytes ≡ []

-- the digits that stand first, and what stands after them
front : (bytes : List ℕ) → bytes ≡ take_while is_ascii_digit bytes ++ drop (length (take_while is_ascii_digit bytes)) bytes
front [] = refl
front (byte ∷ bytes) = elim (cases_Bool (is_ascii_digit byte)) [
  | inl digit ↦ rw (take_while-cons is_ascii_digit byte bytes, digit) (ap (λ (l : List ℕ). byte ∷ l) (front bytes))
  | inr other ↦ rw (take_while-cons is_ascii_digit byte bytes, other) refl
]

-- what stands first is digits
front_digits : (bytes : List ℕ) → all_ascii_digits (take_while is_ascii_digit bytes) ≡ true
front_digits [] = refl
front_digits (byte ∷ bytes) = elim (cases_Bool (is_ascii_digit byte)) [
  | inl digit ↦ rw (take_while-cons is_ascii_digit byte bytes, digit, digit) (front_digits bytes)
  | inr other ↦ rw (take_while-cons is_ascii_digit byte bytes, other) refl
]

-- digits before no digit are all that stand first
front_of : (digits rest : List ℕ) → all_ascii_digits digits ≡ true → NoDigit rest → take_while is_ascii_digit (digits ++ rest) ≡ digits
front_of [] rest all none = none
front_of (digit ∷ digits) rest all none =
    let p = and_parts (is_ascii_digit digit) (all_ascii_digits digits) all in
    take_while-cons is_ascii_digit digit (digits ++ rest) ∙ rw p.0 (ap (λ (l : List ℕ). digit ∷ l) (front_of digits rest p.1 none))

-- the form of a numeral
record HasNumeralForm (digits : List ℕ) : Type 0 where
  some : 0 < length digits
  few : length digits ≤ 19
  first : get_or digits 0 0 ≡ 48 → length digits ≡ 1

numeral_form : (digits : List ℕ) → is_numeral digits ≡ true → HasNumeralForm digits
numeral_form [] is = absurd cc
numeral_form (digit ∷ digits) is =
    let p = and_parts _ _ is in
    let few : length digits ≤ 18 = leb-true _ _ p.0 in
    record {
      some = omega arith;
      few = omega arith;
      first = λ zero_first. elim (or_cases _ _ p.1) [
        | inl not_zero ↦ absurd (eqb-false digit 48 (not-true _ not_zero) zero_first)
        | inr alone ↦ omega (arith, eqb-true (length digits) 0 alone)
      ];
    }

numeral_test : (digits : List ℕ) → HasNumeralForm digits → is_numeral digits ≡ true
numeral_test [] form = absurd (omega (arith, form.some))
numeral_test (digit ∷ digits) form = and_from _ _ (le-leb (length digits) 18 (omega (arith, form.few))) (elim (cases_eq digit 48) [
  | inl zero_first ↦ or_right _ _ (eq-eqb (length digits) 0 (omega (arith, form.first zero_first)))
  | inr not_zero ↦ or_left _ _ (not_from_false _ (ne_eqb _ _ not_zero))
])

-- a numeral is the text of its number
numeral_text : (digits : List ℕ) → all_ascii_digits digits ≡ true → HasNumeralForm digits → (decimal (value_from 0 digits) ≡ digits) × IsShort (value_from 0 digits)
numeral_text digits all form =
    let short : value_from 0 digits < 10 ^ 19 = digits_value_short own digits 19 all form.few in
    (decimal-digits_value own digits all form.some form.first (omega arith), short)

-- the text of a number is a numeral
decimal_form : (n : ℕ) → IsShort n → HasNumeralForm (decimal n)
decimal_form n short = record {
  some = decimal_nonempty n (omega arith);
  few = length-decimal-le 19 n (omega arith) short (omega arith);
  first = λ zero_first. elim (cases_eq n 0) [
    | inl zero ↦ ap (λ (k : ℕ). length (decimal k)) zero ∙ ap length (decimal_digit 0 (omega arith))
    | inr more ↦ absurd (omega (arith, first_decimal n (omega arith) (omega arith)))
  ];
}

-- what is read as a number is the number's text
pub number_takes : (bytes : List ℕ) (x : ℕ × List ℕ) → number_at bytes ≡ Some x → Takes decimal IsShort bytes x
number_takes bytes x e =
    let digits : List ℕ = take_while is_ascii_digit bytes in
    let p = cond_some (is_numeral digits) (value_from 0 digits, drop (length digits) bytes) x e in
    let t = numeral_text digits (front_digits bytes) (numeral_form digits p.0) in
    rw (← p.1) (front bytes ∙ ap (λ (l : List ℕ). l ++ drop (length digits) bytes) (sym t.0), t.1)

-- a number's text is read as the number
pub number_again : (n : ℕ) (rest : List ℕ) → IsShort n → NoDigit rest → number_at (decimal n ++ rest) ≡ Some (n, rest)
number_again n rest short none =
    let all : all_ascii_digits (decimal n) ≡ true = digits_decimal own n (omega arith) in
    let value : value_from 0 (decimal n) ≡ n = digits_value-decimal own n (omega arith) in
    rw (front_of (decimal n) rest all none, numeral_test (decimal n) (decimal_form n short), value, drop_at (decimal n) rest (length (decimal n)) refl) refl
