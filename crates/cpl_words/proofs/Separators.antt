-- Words of which one is empty, `-` or `--` are no command.
use Rattle.std.proofs.Common.{◌≡◌, ◌∙◌, ◌&&◌, ◌||◌, ◌++◌, Bool, codes, cond, true, false, refl, sym, ap, subst, List, [], ◌∷◌, Option, Some, None, append_assoc, true≢false}
use Rattle.std.specs.List.{list_all, list_any}
use Rattle.std.specs.Option.{option_and_then, option_map_or}
use Rattle.std.specs.Str.{bytes_eq}
use Rattle.std.proofs.lemmas.Slice.Eq.{bytes_eq-Decides}
use Rattle.cpl_words.specs.Arguments.{Text, is_argument}
use Rattle.cpl_words.specs.Words.{four_arguments, names_workers, taken_behind, taken_first, taken_with, taken_with_next, value_within, without_workers, workers_of}
use Rattle.cpl_words.specs.Found.{is_separator}
use Rattle.cpl_words.proofs.Agrees.{no_number, refused, refused_all, stays, told}

separated : (word : Text) (P : Text → Type 0) → is_separator word ≡ true → P [] → P (codes "-") → P (codes "--") → P word
separated word P e p q r = go (bytes_eq word []) (bytes_eq word (codes "-")) (bytes_eq word (codes "--")) refl refl refl e
  where
    go : (a b c : Bool) → bytes_eq word [] ≡ a → bytes_eq word (codes "-") ≡ b → bytes_eq word (codes "--") ≡ c → (a || (b || c)) ≡ true → P word
    go true b c x y z e = subst P (sym ((bytes_eq-Decides word []).0 x)) p
    go false true c x y z e = subst P (sym ((bytes_eq-Decides word (codes "-")).0 y)) q
    go false false true x y z e = subst P (sym ((bytes_eq-Decides word (codes "--")).0 z)) r
    go false false false x y z e = absurd (true≢false (sym e))

no_argument : (word : Text) → is_separator word ≡ true → is_argument word ≡ false
no_argument word e = separated word (λ w. is_argument w ≡ false) e refl refl refl

no_option : (word : Text) → is_separator word ≡ true → names_workers word ≡ false
no_option word e = separated word (λ w. names_workers w ≡ false) e refl refl refl

none_among : (words : List Text) → list_any is_separator words ≡ true → list_all is_argument words ≡ false
none_among [] e = absurd (true≢false (sym e))
none_among (word ∷ words) e = go (is_separator word) refl e (none_among words)
  where
    stop : (b : Bool) → (b && false) ≡ false
    stop true = refl
    stop false = refl

    go : (b : Bool) → is_separator word ≡ b → (b || list_any is_separator words) ≡ true → (list_any is_separator words ≡ true → list_all is_argument words ≡ false)
        → list_all is_argument (word ∷ words) ≡ false
    go true is e later = ap (λ b. b && list_all is_argument words) (no_argument word is)
    go false is e later = ap (λ b. is_argument word && b) (later e) ∙ stop (is_argument word)

-- the value of the option, or a word behind it
none_behind : (words : List Text) → list_any is_separator words ≡ true → (met : List Text) (word : Text) → told met (taken_with_next word words) ≡ None
none_behind [] e met word = absurd (true≢false (sym e))
none_behind (v ∷ words) e met word = go (is_separator v) refl e
  where
    go : (b : Bool) → is_separator v ≡ b → (b || list_any is_separator words) ≡ true → told met (taken_with v words) ≡ None
    go true is e = ap (option_and_then (four_arguments (met ++ words))) (no_number v (no_argument v is))
    go false is e = refused_all met words (Some v) (none_among words e)

none_first : (words : List Text) → list_any is_separator words ≡ true → (met : List Text) (word : Text) → told met (taken_first word words) ≡ None
none_first words e met word = go (value_within word)
  where
    go : (v : Option Text) → told met (option_map_or (λ value. taken_with value words) v (taken_with_next word words)) ≡ None
    go None = none_behind words e met word
    go (Some v) = refused_all met words (Some v) (none_among words e)

pub none_told : (words : List Text) → list_any is_separator words ≡ true → (met : List Text) → told met (without_workers words) ≡ None
none_told [] e met = absurd (true≢false (sym e))
none_told (word ∷ words) e met = go (is_separator word) refl e (none_told words)
  where
    named : (b : Bool) → list_any is_separator words ≡ true → ((met : List Text) → told met (without_workers words) ≡ None)
        → told met (cond b (taken_first word words) (taken_behind word (without_workers words))) ≡ None
    named true e later = none_first words e met word
    named false e later = ap (λ l. option_and_then (four_arguments l) (workers_of (without_workers words).value)) (sym (append_assoc met (word ∷ []) (without_workers words).left))
        ∙ later (met ++ word ∷ [])

    go : (b : Bool) → is_separator word ≡ b → (b || list_any is_separator words) ≡ true
        → (list_any is_separator words ≡ true → (met : List Text) → told met (without_workers words) ≡ None) → told met (without_workers (word ∷ words)) ≡ None
    go true is e later = stays met word words (no_option word is)
        ∙ refused met word (without_workers words).left (without_workers words).value (no_argument word is)
    go false is e later = named (names_workers word) e (later e)
