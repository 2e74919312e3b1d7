-- The text of a made namelist reads as its names.
use Rattle.std.proofs.Common.{◌≡◌, refl, ◌∙◌, ap, true, false, cond, ◌&&◌, ◌||◌, leb, ◌==◌, ℕ, suc, ◌+◌, ◌-◌, ◌*◌, ◌/◌, ◌%◌, ◌^◌, ◌<◌, ◌≤◌, arith, rules, List, [], ◌∷◌, ◌++◌, length, take, drop, codes, decimal, Option, Some, None, Ok, Err, append_assoc}
use Rattle.std.specs.Prelude.{replicate}
use Rattle.std.specs.Char.{is_ascii_digit, is_ascii_alphabetic}
use Rattle.std.specs.List.{take_while, flat_map}
use Rattle.std.specs.Str.{all_ascii_digits}
use Rattle.std.proofs.lemmas.Str.Parse.{IsNumeralModel, numerals_by_fold}
use Rattle.std.proofs.lemmas.Fmt.{digits_decimal, digits_value-decimal, decimal_nonempty, length-decimal-le}
use Rattle.std.proofs.lemmas.Bool.{cond-true, cond-false, and_parts, and_from, or_from, ne_eqb, leb-true, le-leb, lt-leb, and_left}
use Rattle.std.proofs.lemmas.List.Sums.{take_while-cons}
use Rattle.std.proofs.lemmas.List.{length-append}
use Rattle.std.proofs.lemmas.Nat.{mod-mul-add, div-mul-add}
use Rattle.cpl_fixed.specs.Decimals.{value_from, value_of}
use Rattle.cpl_fixed.specs.Results.{◌>>=◌}
use Rattle.cpl_fixed.specs.declared.limits.TheConstants.{MOST_STEPS, MOST_NAMES_BYTES}
use Rattle.cpl_namelist.specs.declared.fault.NamesError.TheVariants as fault
use Rattle.cpl_namelist.specs.declared.fault.StepFault.TheVariants as step
use Rattle.cpl_namelist.specs.declared.group.Group.TheVariants.{Coupler, Ocean}
use Rattle.cpl_namelist.specs.declared.token.Kind.TheVariants as kind
use Rattle.cpl_namelist.specs.declared.syntax.State.TheVariants.{Outside, Assigned}
use Rattle.cpl_namelist.specs.declared.places.TheConstants as places
use Rattle.cpl_namelist.specs.Tokens.{Lexeme, form_of, form_or, group_len, word_len, repeat_len, integer_len, text_len, logical_len, mark_of, digits_len, both, times_len, is_blank, tokens_from, tokens, last_line}
use Rattle.cpl_namelist.specs.Syntax.{syntax_fault}
use Rattle.cpl_namelist.specs.Values.{natural, in_range, once}
use Rattle.cpl_namelist.specs.Numbers.{numbers, fitting, kept, suits, value_and}
use Rattle.cpl_namelist.specs.Groups.{group_named}
use Rattle.cpl_namelist.specs.Table.{name_in_group, row_at}
use Rattle.cpl_namelist.specs.Settings.{Choices, nothing, judged, set_to}
use Rattle.cpl_namelist.specs.Names.{signed_numbers, rates_of, names_of, names_with, steps_of, reading, unless_syntax, need, at_most, divided}
use Rattle.cpl_make.specs.Texts.{ended, names_text, made_names}

-- DIGITS

own : IsNumeralModel (λ ds. all_ascii_digits ds ≡ true) (value_from 0)
own = numerals_by_fold _ (search rules) value_from (search rules)

digit_range : (d : ℕ) → is_ascii_digit d ≡ true → (48 ≤ d) × (d ≤ 57)
digit_range d is = let parts = and_parts (leb 48 d) (leb d 57) is in (leb-true 48 d parts.0, leb-true d 57 parts.1)

no_letter : (d : ℕ) → d ≤ 57 → is_ascii_alphabetic d ≡ false
no_letter d few = or_from _ _ (and_left (leb 65 d) (leb d 90) (lt-leb 65 d (omega arith))) (and_left (leb 97 d) (leb d 122) (lt-leb 97 d (omega arith)))

-- digits before a line feed are all that stand first
front_of : (digits rest : List ℕ) → all_ascii_digits digits ≡ true → take_while is_ascii_digit (digits ++ 10 ∷ rest) ≡ digits
front_of [] rest all = refl
front_of (d ∷ digits) rest all =
    let p = and_parts (is_ascii_digit d) (all_ascii_digits digits) all in
    take_while-cons is_ascii_digit d (digits ++ 10 ∷ rest) ∙ cond-true (is_ascii_digit d) (d ∷ take_while is_ascii_digit (digits ++ 10 ∷ rest)) [] p.0 ∙ ap (λ (l : List ℕ). d ∷ l) (front_of digits rest p.1)

drop_digits : (digits rest : List ℕ) → drop (length digits) (digits ++ 10 ∷ rest) ≡ 10 ∷ rest
drop_digits [] rest = refl
drop_digits (d ∷ digits) rest = drop_digits digits rest

take_digits : (digits rest : List ℕ) → take (length digits) (digits ++ 10 ∷ rest) ≡ digits
take_digits [] rest = refl
take_digits (d ∷ digits) rest = ap (λ (l : List ℕ). d ∷ l) (take_digits digits rest)

-- the bytes of a token are passed over
skipped : (digits rest : List ℕ) (line : ℕ) → tokens_from (length digits) line (digits ++ 10 ∷ rest) ≡ tokens_from 0 line (10 ∷ rest)
unfolding tokens_from
skipped [] rest line = refl
skipped (d ∷ digits) rest line = skipped digits rest line

module _ (d : ℕ) (digits rest : List ℕ) (all : all_ascii_digits (d ∷ digits) ≡ true) where
  abbrev bytes : List ℕ
  bytes = d ∷ (digits ++ 10 ∷ rest)

  range : (48 ≤ d) × (d ≤ 57)
  range = digit_range d (and_parts (is_ascii_digit d) (all_ascii_digits digits) all).0

  count : digits_len bytes ≡ suc (length digits)
  count = ap length (front_of (d ∷ digits) rest all)

  no_group : group_len bytes ≡ 0
  no_group = let r = range in cond-false (d == 38) _ 0 (ne_eqb d 38 (λ e. let low = r.0 in omega arith))

  no_word : word_len bytes ≡ 0
  no_word = let r = range in cond-false (is_ascii_alphabetic d) _ 0 (no_letter d r.1)

  no_repeat : repeat_len bytes ≡ 0
  no_repeat =
      ap (λ (n : ℕ). cond (n == 0) 0 (both n (times_len (drop n bytes)))) count
      ∙ cond-false (suc (length digits) == 0) 0 (both (suc (length digits)) (times_len (drop (length digits) (digits ++ 10 ∷ rest)))) (ne_eqb (suc (length digits)) 0 (λ e. omega arith))
      ∙ ap (λ (l : List ℕ). both (suc (length digits)) (times_len l)) (drop_digits digits rest)

  integer : integer_len bytes ≡ suc (length digits)
  integer =
      let r = range in
      cond-false (d == 43 || d == 45) _ (digits_len bytes) (or_from (d == 43) (d == 45) (ne_eqb d 43 (λ e. let low = r.0 in omega arith)) (ne_eqb d 45 (λ e. let low = r.0 in omega arith))) ∙ count

  form_is : form_of bytes ≡ record { kind = kind.Integer; len = suc (length digits) }
  form_is = λ j. form_or kind.Group (no_group j) (form_or kind.Word (no_word j) (form_or kind.Repeat (no_repeat j) (form_or kind.Integer (integer j)
      (form_or kind.Text (text_len bytes) (form_or kind.Logical (logical_len bytes) (record { kind = mark_of d; len = 1 }))))))

  not_blank : is_blank d ≡ false
  not_blank =
      let r = range in
      or_from (d == 32 || d == 9) (d == 13) (or_from (d == 32) (d == 9) (ne_eqb d 32 (λ e. let low = r.0 in omega arith)) (ne_eqb d 9 (λ e. let low = r.0 in omega arith))) (ne_eqb d 13 (λ e. let low = r.0 in omega arith))

  -- the token of digits before a line feed
  number_token : (line : ℕ) → tokens_from 0 line bytes ≡ record { kind = kind.Integer; line = line; text = d ∷ digits } ∷ tokens_from 0 line (10 ∷ rest)
  unfolding tokens_from
  number_token line =
      let r = range in
      let less : suc (length digits) - 1 ≡ length digits = omega arith in
      cond-false (d == 10) _ _ (ne_eqb d 10 (λ e. let low = r.0 in omega arith))
      ∙ cond-false (is_blank d) _ _ not_blank
      ∙ cond-false (d == 33) _ _ (ne_eqb d 33 (λ e. let low = r.0 in omega arith))
      ∙ (λ j. let form = form_is j in record { kind = form.kind; line = line; text = take form.len bytes } ∷ tokens_from (form.len - 1) line (digits ++ 10 ∷ rest))
      ∙ (λ j. record { kind = kind.Integer; line = line; text = d ∷ take_digits digits rest j } ∷ tokens_from (less j) line (digits ++ 10 ∷ rest))
      ∙ ap (λ (l : List Lexeme). record { kind = kind.Integer; line = line; text = d ∷ digits } ∷ l) (skipped digits rest line)

-- the same of digits that aren't taken apart
pub digits_token : (ds rest : List ℕ) (line : ℕ) → all_ascii_digits ds ≡ true → 0 < length ds → tokens_from 0 line (ds ++ 10 ∷ rest) ≡ record { kind = kind.Integer; line = line; text = ds } ∷ tokens_from 0 line (10 ∷ rest)
digits_token [] rest line all some = absurd (omega arith)
digits_token (d ∷ ds) rest line all some = number_token d ds rest all line

natural_is : (ds : List ℕ) → all_ascii_digits ds ≡ true → 0 < length ds → natural ds ≡ Some (value_of ds)
natural_is [] all some = absurd (omega arith)
natural_is (d ∷ ds) all some =
    let r = digit_range d (and_parts (is_ascii_digit d) (all_ascii_digits ds) all).0 in
    cond-false (d == 45) _ _ (ne_eqb d 45 (λ e. let low = r.0 in omega arith)) ∙ cond-false (d == 43) _ _ (ne_eqb d 43 (λ e. let low = r.0 in omega arith))

-- THE TEXT

-- the text before the seconds, and the text after them
abbrev before : List ℕ → List ℕ
before more = ended (codes "&coupler_nml") ++ (ended (codes " current_date = 2001,1,1,0,0,0") ++ (ended (codes " calendar = 'gregorian'") ++ (codes " seconds = " ++ more)))

abbrev after : List ℕ
after = flat_map ended (codes " dt_atmos = 1800" ∷ codes " dt_cpld = 3600" ∷ codes "/" ∷ codes "&ocean_nml" ∷ codes " dt_ocean = 1800" ∷ codes "/" ∷ [])

text_is : (steps : ℕ) → names_text steps ≡ before (decimal (3600 * steps) ++ 10 ∷ after)
unfolding names_text
text_is steps = ap before (append_assoc (decimal (3600 * steps)) (10 ∷ []) after)

abbrev given_first : List (Option (List ℕ))
given_first = Some (2001 ∷ 1 ∷ 1 ∷ 0 ∷ 0 ∷ 0 ∷ []) ∷ Some (1 ∷ []) ∷ replicate 29 None

abbrev chosen_first : Choices
chosen_first = record { group = Coupler; groups = true ∷ replicate 5 false; given = given_first }

abbrev equals_on : ℕ → Lexeme
equals_on line = record { kind = kind.Equals; line = line; text = 61 ∷ [] }

abbrev number_on : ℕ → List ℕ → Lexeme
number_on line ds = record { kind = kind.Integer; line = line; text = ds }

syntax_before : (last : ℕ) (more : List ℕ) → syntax_fault last Outside (tokens_from 0 1 (before more)) ≡ syntax_fault last Assigned (tokens_from 0 4 more)
unfolding tokens_from syntax_fault
syntax_before last more = refl

syntax_after : (last : ℕ) (ds : List ℕ) → syntax_fault last Assigned (number_on 4 ds ∷ tokens_from 0 4 (10 ∷ after)) ≡ None
unfolding tokens_from syntax_fault
syntax_after last ds = refl

judged_before : (more : List ℕ) → judged nothing (tokens_from 0 1 (before more))
    ≡ (set_to chosen_first 4 places.SECONDS (fitting (row_at places.SECONDS) (equals_on 4 ∷ tokens_from 0 4 more)) >>= λ next. judged next (tokens_from 0 4 more))
unfolding tokens_from judged name_in_group row_at group_named fitting numbers
judged_before more = refl

-- the settings of all names
abbrev chosen_last : ℕ → Choices
chosen_last n = record {
  group = Ocean;
  groups = true ∷ false ∷ false ∷ false ∷ false ∷ true ∷ [];
  given = Some (2001 ∷ 1 ∷ 1 ∷ 0 ∷ 0 ∷ 0 ∷ []) ∷ Some (1 ∷ []) ∷ None ∷ None ∷ None ∷ Some (n ∷ []) ∷ Some (1800 ∷ []) ∷ Some (3600 ∷ []) ∷ replicate 20 None ++ Some (1800 ∷ []) ∷ None ∷ None ∷ [];
}

abbrev with_seconds : ℕ → Choices
with_seconds n = record {
  group = Coupler;
  groups = true ∷ replicate 5 false;
  given = Some (2001 ∷ 1 ∷ 1 ∷ 0 ∷ 0 ∷ 0 ∷ []) ∷ Some (1 ∷ []) ∷ None ∷ None ∷ None ∷ Some (n ∷ []) ∷ replicate 25 None;
}

judged_after : (n : ℕ) (ds : List ℕ) → judged (with_seconds n) (number_on 4 ds ∷ tokens_from 0 4 (10 ∷ after)) ≡ Ok (chosen_last n)
unfolding tokens_from judged name_in_group row_at group_named fitting numbers
judged_after n ds = refl

fits_row : (n : ℕ) (ds : List ℕ) → natural ds ≡ Some n → n ≤ 1000000000 → fitting (row_at places.SECONDS) (equals_on 4 ∷ number_on 4 ds ∷ tokens_from 0 4 (10 ∷ after)) ≡ Some (n ∷ [])
unfolding tokens_from row_at fitting numbers
fits_row n ds e few =
    let inside : in_range 0 1000000000 (Some n) ≡ Some n = cond-true (leb 0 n && leb n 1000000000) (Some n) None (and_from (leb 0 n) (leb n 1000000000) (le-leb 0 n (omega arith)) (le-leb n 1000000000 few)) in
    ap (λ (v : Option ℕ). kept (suits (row_at places.SECONDS)) (value_and (once v) (Some []))) (ap (in_range 0 1000000000) e ∙ inside)

-- the steps that the seconds make
steps_are : (steps : ℕ) → steps ≤ MOST_STEPS → steps_of 1800 3600 1800 (86400 * 0 + 3600 * 0 + 60 * 0 + 3600 * steps) ≡ Ok (record { fast = 2; ocean = 2; count = steps })
steps_are steps few =
    let run : 86400 * 0 + 3600 * 0 + 60 * 0 + 3600 * steps ≡ steps * 3600 + 0 = omega arith in
    let rest = ap (λ (n : ℕ). n % 3600) run ∙ mod-mul-add steps 3600 0 (omega arith) in
    let count = ap (λ (n : ℕ). n / 3600) run ∙ div-mul-add steps 3600 0 (omega arith) in
    let divides : divided 3600 (86400 * 0 + 3600 * 0 + 60 * 0 + 3600 * steps) ≡ Some steps = λ j. cond (true && (rest j == 0)) (Some (count j)) None in
    let within : at_most step.Count MOST_STEPS steps ≡ Ok steps = cond-true (leb steps MOST_STEPS) (Ok steps) (Err (fault.Step step.Count)) (le-leb steps MOST_STEPS few) in
    (λ j. need step.Run (divides j) >>= λ count. at_most step.FastCount 1000 2 >>= λ few. at_most step.OceanCount 100 2 >>= λ some. at_most step.Count MOST_STEPS count >>= λ steps. Ok (record { fast = few; ocean = some; count = steps }))
    ∙ (λ j. within j >>= λ n. Ok (record { fast = 2; ocean = 2; count = n }))

names_are : (steps : ℕ) → steps ≤ MOST_STEPS → names_of (chosen_last (3600 * steps)) ≡ Ok (made_names steps)
unfolding names_of made_names row_at rates_of signed_numbers
names_are steps few = λ j. steps_are steps few j >>= λ counts. Ok (names_with (chosen_last (3600 * steps)) counts)

pub names_read : (steps : ℕ) → steps ≤ MOST_STEPS → reading (names_text steps) ≡ Ok (made_names steps)
unfolding reading
names_read steps few =
    let wide : 3600 * steps < 2 ^ 64 = omega arith in
    let all = digits_decimal own (3600 * steps) wide in
    let some = decimal_nonempty (3600 * steps) wide in
    let natural_n : natural (decimal (3600 * steps)) ≡ Some (3600 * steps) = natural_is (decimal (3600 * steps)) all some ∙ ap (λ (m : ℕ). Some m) (digits_value-decimal own (3600 * steps) wide) in
    let token = digits_token (decimal (3600 * steps)) after 4 all some in
    let tokens_are = ap (tokens_from 0 1) (text_is steps) in
    let syntax : syntax_fault (last_line (names_text steps)) Outside (tokens (names_text steps)) ≡ None =
    ap (syntax_fault (last_line (names_text steps)) Outside) tokens_are
    ∙ syntax_before (last_line (names_text steps)) (decimal (3600 * steps) ++ 10 ∷ after)
    ∙ ap (syntax_fault (last_line (names_text steps)) Assigned) token
    ∙ syntax_after (last_line (names_text steps)) (decimal (3600 * steps)) in
    let settings : judged nothing (tokens (names_text steps)) ≡ Ok (chosen_last (3600 * steps)) =
    ap (judged nothing) tokens_are
    ∙ judged_before (decimal (3600 * steps) ++ 10 ∷ after)
    ∙ ap (λ (l : List Lexeme). set_to chosen_first 4 places.SECONDS (fitting (row_at places.SECONDS) (equals_on 4 ∷ l)) >>= λ next. judged next l) token
    ∙ ap (λ (v : Option (List ℕ)). set_to chosen_first 4 places.SECONDS v >>= λ next. judged next (number_on 4 (decimal (3600 * steps)) ∷ tokens_from 0 4 (10 ∷ after))) (fits_row (3600 * steps) (decimal (3600 * steps)) natural_n (omega arith))
    ∙ judged_after (3600 * steps) (decimal (3600 * steps)) in
    (λ j. unless_syntax (syntax j) (settings j >>= names_of)) ∙ names_are steps few

-- the text is short
pub names_most : (steps : ℕ) → steps ≤ MOST_STEPS → length (names_text steps) ≤ MOST_NAMES_BYTES
names_most steps few =
    let text = ap (λ (l : List ℕ). length l) (text_is steps) in
    let digits = length-decimal-le 19 (3600 * steps) (omega arith) (omega arith) (omega arith) in
    let parts = length-append (decimal (3600 * steps)) (10 ∷ after) in
    omega arith
