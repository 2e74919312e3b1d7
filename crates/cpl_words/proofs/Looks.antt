-- What a word looks like: an argument, `-abc`, or `--name` with or without a value.
use Rattle.std.proofs.Common.{◌≡◌, ◌∙◌, ◌<◌, ◌+◌, ◌&&◌, ◌⊎◌, ℕ, Bool, cond, codes, true, false, not, suc, refl, sym, ap, subst, arith, List, [], ◌∷◌, length, take, drop, get_or, Option, Some, None, inl, inr, true≢false}
use Rattle.std.specs.Prelude.{◌==◌, option_and_then, slice_get}
use Rattle.std.specs.List.{before_first, list_any, prefix_len}
use Rattle.std.specs.Str.{IsUtf8, bytes_eq, chars, encode_utf8_all}
use Rattle.std.proofs.lemmas.Bool.{eqb-true, eqb-false, ne_eqb}
use Rattle.std.proofs.lemmas.Str.{IsCharBoundary-after_ascii, IsUtf8-drop, encodes-chars}
use Rattle.clap.specs.Lexer.{long_of, long_of_rest, short_of, short_of_rest, strip_byte}
use Rattle.cpl_words.specs.Arguments.{Text, is_argument}
use Rattle.cpl_words.specs.Words.{names_workers, value_within}
use Rattle.cpl_words.specs.Found.{is_separator}

abbrev pub is_equals : ℕ → Bool
is_equals c = c == 61

-- neither begins with `-` nor is empty
pub record IsPlain (word : Text) : Type 0 where
  pub argument : is_argument word ≡ true
  pub long : long_of word ≡ None
  pub short : short_of word ≡ None
  pub unnamed : names_workers word ≡ false
  pub apart : bytes_eq word (45 ∷ 45 ∷ []) ≡ false

-- begins with one `-`
pub record IsShort (word : Text) : Type 0 where
  pub refused : is_argument word ≡ false
  pub long : long_of word ≡ None
  pub flag : ℕ
  pub flags : Text
  pub short : short_of word ≡ Some (flag ∷ flags)
  pub first : ℕ
  pub first_is : slice_get (chars (flag ∷ flags)) 0 ≡ Some first
  pub unnamed : names_workers word ≡ false
  pub apart : bytes_eq word (45 ∷ 45 ∷ []) ≡ false

-- begins with `--`
pub record IsLong (word : Text) : Type 0 where
  pub refused : is_argument word ≡ false
  pub name : Text
  pub value : Option Text
  pub long : long_of word ≡ Some (name, value)
  pub named : names_workers word ≡ bytes_eq (codes "workers") name
  pub valued : value_within word ≡ value
  pub apart : bytes_eq word (45 ∷ 45 ∷ []) ≡ false

-- a text that is not empty has a first character
pub first_char : (flag : ℕ) (flags : Text) → IsUtf8 (flag ∷ flags) → (x : ℕ) × (slice_get (chars (flag ∷ flags)) 0 ≡ Some x)
first_char flag flags utf8 = go (chars (flag ∷ flags)) (encodes-chars (flag ∷ flags) utf8)
  where
    go : (cs : List ℕ) → encode_utf8_all cs ≡ flag ∷ flags → (x : ℕ) × (slice_get cs 0 ≡ Some x)
    go [] e = let bad : ⊥ = cc in absurd bad
    go (c ∷ cs) e = (c, refl)

flipped : (a b : ℕ) → (a == b) ≡ false → (b == a) ≡ false
flipped a b e = ne_eqb b a (λ same. eqb-false a b e (sym same))

-- a word that begins with another byte than `-` has another name
other_name : (c : ℕ) (cs : Text) → (c == 45) ≡ false → names_workers (c ∷ cs) ≡ false
other_name c cs other = go (is_equals c)
  where
    shorter : (n : ℕ) → 1 + n ≡ suc n
    shorter n = omega arith

    go : (b : Bool) → bytes_eq (codes "--workers") (take (cond (not b) (1 + prefix_len (λ x. not (is_equals x)) cs) 0) (c ∷ cs)) ≡ false
    go true = refl
    go false = ap (λ n. bytes_eq (codes "--workers") (take n (c ∷ cs))) (shorter _)
        ∙ ap (λ b. b && bytes_eq (codes "-workers") (take (prefix_len (λ x. not (is_equals x)) cs) cs)) (flipped c 45 other)

plain_look : (c : ℕ) (cs : Text) → (c == 45) ≡ false → IsPlain (c ∷ cs)
plain_look c cs other = record {
  argument = ap not other;
  long = ap (λ b. option_and_then long_of_rest (option_and_then (strip_byte 45) (cond b (Some cs) None))) other;
  short = ap (λ b. option_and_then short_of_rest (cond b (Some cs) None)) other;
  unnamed = other_name c cs other;
  apart = ap (λ b. b && bytes_eq cs (45 ∷ [])) other;
}

long_look : (x : ℕ) (xs : Text) → IsLong (45 ∷ 45 ∷ x ∷ xs)
long_look x xs =
    let n = prefix_len (λ c. not (is_equals c)) (x ∷ xs) in
    let before : 1 + (1 + n) ≡ suc (suc n) = omega arith in
    let after : 1 + (1 + n) + 1 ≡ suc (suc (n + 1)) = omega arith in
    record {
      refused = refl;
      name = before_first is_equals (x ∷ xs);
      value = value_within (x ∷ xs);
      long = refl;
      named = ap (λ k. bytes_eq (codes "--workers") (take k (45 ∷ 45 ∷ x ∷ xs))) before;
      valued = ap (λ k. cond (list_any is_equals (x ∷ xs)) (Some (drop k (45 ∷ 45 ∷ x ∷ xs))) None) after;
      apart = refl;
    }

short_look : (d : ℕ) (ds : Text) → (d == 45) ≡ false → IsUtf8 (45 ∷ d ∷ ds) → IsShort (45 ∷ d ∷ ds)
short_look d ds other utf8 =
    let inside : 0 < length (45 ∷ d ∷ ds) = omega arith in
    let here : get_or (45 ∷ d ∷ ds) 0 0 < 128 = omega arith in
    let rest : IsUtf8 (d ∷ ds) = IsUtf8-drop (45 ∷ d ∷ ds) 1 utf8 (IsCharBoundary-after_ascii (45 ∷ d ∷ ds) 0 utf8 inside here) in
    let char = first_char d ds rest in
    record {
      refused = refl;
      long = ap (λ b. option_and_then long_of_rest (cond b (Some ds) None)) other;
      flag = d;
      flags = ds;
      short = ap (λ b. cond b None (Some (d ∷ ds))) other;
      first = char.0;
      first_is = char.1;
      unnamed = unnamed;
      apart = ap (λ b. b && bytes_eq ds []) other;
    }
  where
    shorter : (n : ℕ) → 1 + n ≡ suc n
    shorter n = omega arith

    go : (b : Bool) → bytes_eq (codes "-workers") (take (cond (not b) (1 + prefix_len (λ x. not (is_equals x)) ds) 0) (d ∷ ds)) ≡ false
    go true = refl
    go false = ap (λ n. bytes_eq (codes "-workers") (take n (d ∷ ds))) (shorter _)
        ∙ ap (λ b. b && bytes_eq (codes "workers") (take (prefix_len (λ x. not (is_equals x)) ds) ds)) (flipped d 45 other)

    unnamed : names_workers (45 ∷ d ∷ ds) ≡ false
    unnamed = ap (λ n. bytes_eq (codes "--workers") (take n (45 ∷ d ∷ ds))) (shorter (prefix_len (λ x. not (is_equals x)) (d ∷ ds))) ∙ go (is_equals d)

pub look : (word : Text) → is_separator word ≡ false → IsUtf8 word → IsPlain word ⊎ (IsShort word ⊎ IsLong word)
look [] apart utf8 = absurd (true≢false apart)
look (c ∷ cs) apart utf8 = by (c == 45) refl cs apart utf8
  where
    long : (d : ℕ) (ds : Text) → d ≡ 45 → is_separator (45 ∷ d ∷ ds) ≡ false → IsLong (45 ∷ d ∷ ds)
    long d [] e apart = absurd (true≢false (subst (λ x. is_separator (45 ∷ x ∷ []) ≡ false) e apart))
    long d (x ∷ xs) e apart = subst (λ y. IsLong (45 ∷ y ∷ x ∷ xs)) (sym e) (long_look x xs)

    second : (d : ℕ) (ds : Text) (b : Bool) → (d == 45) ≡ b → is_separator (45 ∷ d ∷ ds) ≡ false → IsUtf8 (45 ∷ d ∷ ds) → IsShort (45 ∷ d ∷ ds) ⊎ IsLong (45 ∷ d ∷ ds)
    second d ds true e apart utf8 = inr (long d ds (eqb-true d 45 e) apart)
    second d ds false e apart utf8 = inl (short_look d ds e utf8)

    dashed : (cs : Text) → is_separator (45 ∷ cs) ≡ false → IsUtf8 (45 ∷ cs) → IsShort (45 ∷ cs) ⊎ IsLong (45 ∷ cs)
    dashed [] apart utf8 = absurd (true≢false apart)
    dashed (d ∷ ds) apart utf8 = second d ds (d == 45) refl apart utf8

    by : (b : Bool) → (c == 45) ≡ b → (cs : Text) → is_separator (c ∷ cs) ≡ false → IsUtf8 (c ∷ cs) → IsPlain (c ∷ cs) ⊎ (IsShort (c ∷ cs) ⊎ IsLong (c ∷ cs))
    by true e cs apart utf8 = subst (λ x. is_separator (x ∷ cs) ≡ false → IsUtf8 (x ∷ cs) → IsPlain (x ∷ cs) ⊎ (IsShort (x ∷ cs) ⊎ IsLong (x ∷ cs))) (sym (eqb-true c 45 e))
        (λ a u. inr (dashed cs a u)) apart utf8
    by false e cs apart utf8 = inl (plain_look c cs e)
