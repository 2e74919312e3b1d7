-- The reader finds in words the command `run` that they are, and finds none where they are none.
use Rattle.std.proofs.Common.{◌≡◌, ◌∙◌, ◌+◌, ◌≤◌, ◌&&◌, ◌||◌, ◌++◌, ℕ, Bool, cond, codes, true, false, not, suc, refl, sym, ap, arith, List, [], ◌∷◌, length, append-nil, Option, Some, None, inl, inr, String, string_bytes, subst, true≢false}
use Rattle.std.specs.Prelude.{◌==◌, nat_le, slice_get}
use Rattle.std.specs.List.{list_all, list_any}
use Rattle.std.specs.Option.{option_and_then, option_map, option_map_or}
use Rattle.std.specs.Str.{IsUtf8, bytes_eq}
use Rattle.std.specs.declared.alloc.Global.{Global}
use Rattle.std.proofs.lemmas.Bool.{eqb-true}
use Rattle.std.proofs.lemmas.Str.{IsUtf8-string_bytes}
use Rattle.cpl_fixed.specs.Decimals.{at_most, value_of as number_told}
use Rattle.clap.specs.Walk.{Held, idle, nothing_held, option}
use Rattle.clap.specs.Faults.{settle_fault}
use Rattle.cpl_words.specs.Arguments.{Text, is_argument, positive_of, texts}
use Rattle.cpl_words.specs.Words.{Run, Taken, four_arguments, four_words, names_workers, run_with, taken_behind, taken_first, taken_with, taken_with_next, without_workers, workers_of}
use Rattle.cpl_words.specs.Found.{is_separator}
use Rattle.cpl_words.proofs.Looks.{IsLong, IsPlain, look}
use Rattle.cpl_words.proofs.Given.{Given, more_kept, more_new, value_of}
use Rattle.cpl_words.proofs.Steps.{Fails, IsAt, at_argument, at_done, at_start, at_workers, end_doomed, held_done, held_waiting, held_with, long_doomed, long_no_value, long_unknown, no_value_left, option_again, option_given, option_waits, outcome, run_rules, short_no_value, short_refused, standing, twice, value_given, word_doomed, word_placed, word_stray}
use Rattle.cpl_words.proofs.Ends.{conclusion, concluded}

-- words that the reader takes as they stand
abbrev pub AreWords : List Text → Type 0
AreWords [] = Unit {0}
AreWords (word ∷ words) = (is_separator word ≡ false) × IsUtf8 word × AreWords words

pub are_words : (words : List (String Global)) → list_any is_separator (texts words) ≡ false → AreWords (texts words)
are_words [] e = tt
are_words (word ∷ words) e = go (is_separator (string_bytes word)) refl e (are_words words)
  where
    go : (b : Bool) → is_separator (string_bytes word) ≡ b → (b || list_any is_separator (texts words)) ≡ false
        → (list_any is_separator (texts words) ≡ false → AreWords (texts words)) → AreWords (texts (word ∷ words))
    go true is e later = absurd (true≢false e)
    go false is e later = (is, IsUtf8-string_bytes word, later e)

-- ---- the definition

-- the command of arguments that were met and of what is still to come
abbrev pub told : List Text → Taken → Option Run
told met taken = option_and_then (four_arguments (met ++ taken.left)) (workers_of taken.value)

no_run : (f : ℕ → Option Run) (o : Option ℕ) → ((n : ℕ) → f n ≡ None) → option_and_then f o ≡ None
no_run f None none = refl
no_run f (Some n) none = none n

abbrev none : Option Run
none = None

no_choice : (b : Bool) → cond b none none ≡ none
no_choice true = refl
no_choice false = refl

-- a word among them is no argument
refused_behind : (met rest : List Text) → list_all is_argument rest ≡ false → list_all is_argument (met ++ rest) ≡ false
refused_behind [] rest e = e
refused_behind (a ∷ met) rest e = ap (λ b. is_argument a && b) (refused_behind met rest e) ∙ go (is_argument a)
  where
    go : (b : Bool) → (b && false) ≡ false
    go true = refl
    go false = refl

pub refused_all : (met rest : List Text) (value : Option Text) → list_all is_argument rest ≡ false
    → option_and_then (four_arguments (met ++ rest)) (workers_of value) ≡ None
refused_all met rest value e = no_run (four_arguments (met ++ rest)) (workers_of value)
    (λ n. ap (λ b. cond b (four_words (met ++ rest) n) None) (refused_behind met rest e))

pub refused : (met : List Text) (word : Text) (rest : List Text) (value : Option Text) → is_argument word ≡ false
    → option_and_then (four_arguments (met ++ word ∷ rest)) (workers_of value) ≡ None
refused met word rest value e = refused_all met (word ∷ rest) value (ap (λ b. b && list_all is_argument rest) e)

all_arguments : (met : List Text) (word : Text) → list_all is_argument met ≡ true → is_argument word ≡ true → list_all is_argument (met ++ word ∷ []) ≡ true
all_arguments [] word all one = ap (λ b. b && true) one
all_arguments (a ∷ met) word all one = go (is_argument a) all (λ e. all_arguments met word e one)
  where
    go : (b : Bool) → (b && list_all is_argument met) ≡ true → (list_all is_argument met ≡ true → list_all is_argument (met ++ word ∷ []) ≡ true)
        → (b && list_all is_argument (met ++ word ∷ [])) ≡ true
    go true e later = later e
    go false e later = absurd (true≢false (sym e))

-- a word that begins with `-` is no number
pub no_number : (word : Text) → is_argument word ≡ false → positive_of 16 word ≡ None
no_number [] e = refl
no_number (c ∷ cs) e = subst (λ x. positive_of 16 (x ∷ cs) ≡ None) (sym (eqb-true c 45 (flip (c == 45) e))) dashed
  where
    flip : (b : Bool) → not b ≡ false → b ≡ true
    flip true e = refl
    flip false e = absurd (true≢false e)

    go : (b : Bool) → (b && false) ≡ false
    go true = refl
    go false = refl

    dashed : positive_of 16 (45 ∷ cs) ≡ None
    dashed = ap (λ b. option_and_then (λ n. cond (n == 0) None (Some n)) (cond b (at_most 16 (number_told (45 ∷ cs))) None)) (go (nat_le (length cs + 1) 20))

-- ---- what was given

-- these arguments, and this value of the option
pub record Spells (given : Given) (met : List Text) (value : Option Text) : Type 0 where
  pub arguments : list_all is_argument met ≡ true
  pub grid : value_of given (codes "grid") ≡ slice_get met 0
  pub names : value_of given (codes "names") ≡ slice_get met 1
  pub start : value_of given (codes "start") ≡ slice_get met 2
  pub out : value_of given (codes "out") ≡ slice_get met 3
  pub workers : value_of given (codes "workers") ≡ value

pub spells_none : Spells [] [] None
spells_none = record { arguments = refl; grid = refl; names = refl; start = refl; out = refl; workers = refl }

with_grid : (given : Given) (value : Option Text) (w : Text) → is_argument w ≡ true → Spells given [] value → Spells (given ++ (codes "grid", w) ∷ []) (w ∷ []) value
with_grid given value w one s = record {
  arguments = all_arguments [] w s.arguments one;
  grid = more_new given (codes "grid", w) (codes "grid") refl s.grid;
  names = more_kept given (codes "grid", w) (codes "names") refl ∙ s.names;
  start = more_kept given (codes "grid", w) (codes "start") refl ∙ s.start;
  out = more_kept given (codes "grid", w) (codes "out") refl ∙ s.out;
  workers = more_kept given (codes "grid", w) (codes "workers") refl ∙ s.workers;
}

with_names : (given : Given) (value : Option Text) (a w : Text) → is_argument w ≡ true → Spells given (a ∷ []) value → Spells (given ++ (codes "names", w) ∷ []) (a ∷ w ∷ []) value
with_names given value a w one s = record {
  arguments = all_arguments (a ∷ []) w s.arguments one;
  grid = more_kept given (codes "names", w) (codes "grid") refl ∙ s.grid;
  names = more_new given (codes "names", w) (codes "names") refl s.names;
  start = more_kept given (codes "names", w) (codes "start") refl ∙ s.start;
  out = more_kept given (codes "names", w) (codes "out") refl ∙ s.out;
  workers = more_kept given (codes "names", w) (codes "workers") refl ∙ s.workers;
}

with_start : (given : Given) (value : Option Text) (a b w : Text) → is_argument w ≡ true → Spells given (a ∷ b ∷ []) value
    → Spells (given ++ (codes "start", w) ∷ []) (a ∷ b ∷ w ∷ []) value
with_start given value a b w one s = record {
  arguments = all_arguments (a ∷ b ∷ []) w s.arguments one;
  grid = more_kept given (codes "start", w) (codes "grid") refl ∙ s.grid;
  names = more_kept given (codes "start", w) (codes "names") refl ∙ s.names;
  start = more_new given (codes "start", w) (codes "start") refl s.start;
  out = more_kept given (codes "start", w) (codes "out") refl ∙ s.out;
  workers = more_kept given (codes "start", w) (codes "workers") refl ∙ s.workers;
}

with_out : (given : Given) (value : Option Text) (a b c w : Text) → is_argument w ≡ true → Spells given (a ∷ b ∷ c ∷ []) value
    → Spells (given ++ (codes "out", w) ∷ []) (a ∷ b ∷ c ∷ w ∷ []) value
with_out given value a b c w one s = record {
  arguments = all_arguments (a ∷ b ∷ c ∷ []) w s.arguments one;
  grid = more_kept given (codes "out", w) (codes "grid") refl ∙ s.grid;
  names = more_kept given (codes "out", w) (codes "names") refl ∙ s.names;
  start = more_kept given (codes "out", w) (codes "start") refl ∙ s.start;
  out = more_new given (codes "out", w) (codes "out") refl s.out;
  workers = more_kept given (codes "out", w) (codes "workers") refl ∙ s.workers;
}

with_workers : (given : Given) (met : List Text) (v : Text) → Spells given met None → Spells (given ++ (codes "workers", v) ∷ []) met (Some v)
with_workers given met v s = record {
  arguments = s.arguments;
  grid = more_kept given (codes "workers", v) (codes "grid") refl ∙ s.grid;
  names = more_kept given (codes "workers", v) (codes "names") refl ∙ s.names;
  start = more_kept given (codes "workers", v) (codes "start") refl ∙ s.start;
  out = more_kept given (codes "workers", v) (codes "out") refl ∙ s.out;
  workers = more_new given (codes "workers", v) (codes "workers") refl s.workers;
}

-- ---- the end of the words

chosen : (b : Bool) (x : Option Run) → b ≡ true → cond b x None ≡ x
chosen b x e = ap (λ c. cond c x None) e

agrees_at_end : (met : List Text) (value : Option Text) → length met ≤ 4 → list_all is_argument met ≡ true
    → conclusion (slice_get met 0) (slice_get met 1) (slice_get met 2) (slice_get met 3) value ≡ option_and_then (four_arguments met) (workers_of value)
agrees_at_end [] value few all = sym (no_run _ (workers_of value) (λ n. refl))
agrees_at_end (a ∷ []) value few all = sym (no_run _ (workers_of value) (λ n. no_choice (list_all is_argument (a ∷ []))))
agrees_at_end (a ∷ b ∷ []) value few all = sym (no_run _ (workers_of value) (λ n. no_choice (list_all is_argument (a ∷ b ∷ []))))
agrees_at_end (a ∷ b ∷ c ∷ []) value few all = sym (no_run _ (workers_of value) (λ n. no_choice (list_all is_argument (a ∷ b ∷ c ∷ []))))
agrees_at_end (a ∷ b ∷ c ∷ d ∷ []) value few all = go (workers_of value)
  where
    go : (o : Option ℕ) → option_map (λ w. record { grid = a; names = b; start = c; out = d; workers = w }) o ≡ option_and_then (four_arguments (a ∷ b ∷ c ∷ d ∷ [])) o
    go None = refl
    go (Some n) = sym (chosen (list_all is_argument (a ∷ b ∷ c ∷ d ∷ [])) _ all)
agrees_at_end (a ∷ b ∷ c ∷ d ∷ e ∷ met) value few all = absurd (omega arith)

ended : (met : List Text) (value : Option Text) (h : Held) (given : Given) → length met ≤ 4 → IsAt h given → Spells given met value
    → outcome (standing idle (suc (length met)) h) [] ≡ option_and_then (four_arguments met) (workers_of value)
ended met value h given few at_ s = concluded (suc (length met)) h given at_
    ∙ (λ i. conclusion (s.grid i) (s.names i) (s.start i) (s.out i) (s.workers i))
    ∙ agrees_at_end met value few s.arguments

-- ---- an argument more

-- the walk behind the words that were met comes to this
abbrev Goes : List Text → Option Text → Taken → Type 0
Goes words value taken = (met : List Text) (h : Held) (given : Given) → length met ≤ 4 → IsAt h given → Spells given met value
    → outcome (standing idle (suc (length met)) h) words ≡ told met taken

placed : (words : List Text) (value : Option Text) (taken : Taken) → Goes words value taken → (h : Held) (given : Given) (word : Text) → IsAt h given → IsPlain word
    → (met : List Text) → length met ≤ 4 → Spells given met value → outcome (standing idle (suc (length met)) h) (word ∷ words) ≡ told met (taken_behind word taken)
placed words value taken goes h given word at_ p [] few s = word_placed (codes "grid") 1 2 h given word words refl refl p at_
    ∙ goes (word ∷ []) (held_with given (codes "grid") word) (given ++ (codes "grid", word) ∷ []) (omega arith) (at_argument given (codes "grid") 1 word refl s.grid) (with_grid given value word p.argument s)
placed words value taken goes h given word at_ p (a ∷ []) few s = word_placed (codes "names") 2 3 h given word words refl refl p at_
    ∙ goes (a ∷ word ∷ []) (held_with given (codes "names") word) (given ++ (codes "names", word) ∷ []) (omega arith) (at_argument given (codes "names") 2 word refl s.names)
    (with_names given value a word p.argument s)
placed words value taken goes h given word at_ p (a ∷ b ∷ []) few s = word_placed (codes "start") 3 4 h given word words refl refl p at_
    ∙ goes (a ∷ b ∷ word ∷ []) (held_with given (codes "start") word) (given ++ (codes "start", word) ∷ []) (omega arith) (at_argument given (codes "start") 3 word refl s.start)
    (with_start given value a b word p.argument s)
placed words value taken goes h given word at_ p (a ∷ b ∷ c ∷ []) few s = word_placed (codes "out") 4 5 h given word words refl refl p at_
    ∙ goes (a ∷ b ∷ c ∷ word ∷ []) (held_with given (codes "out") word) (given ++ (codes "out", word) ∷ []) (omega arith) (at_argument given (codes "out") 4 word refl s.out)
    (with_out given value a b c word p.argument s)
placed words value taken goes h given word at_ p (a ∷ b ∷ c ∷ d ∷ []) few s = word_stray 5 h word words refl p
    ∙ sym (no_run (four_arguments (a ∷ b ∷ c ∷ d ∷ word ∷ taken.left)) (workers_of taken.value) (λ n. no_choice (list_all is_argument (a ∷ b ∷ c ∷ d ∷ word ∷ taken.left))))
placed words value taken goes h given word at_ p (a ∷ b ∷ c ∷ d ∷ e ∷ met) few s = absurd (omega arith)

-- ---- after a second option

doomed_word : (met : List Text) (h : Held) (word : Text) (words : List Text) → length met ≤ 4 → IsPlain word → Fails (settle_fault run_rules false h)
    → outcome (standing idle (suc (length met)) h) (word ∷ words) ≡ None
doomed_word [] h word words few p f = word_doomed (codes "grid") 1 h word words refl p f
doomed_word (a ∷ []) h word words few p f = word_doomed (codes "names") 2 h word words refl p f
doomed_word (a ∷ b ∷ []) h word words few p f = word_doomed (codes "start") 3 h word words refl p f
doomed_word (a ∷ b ∷ c ∷ []) h word words few p f = word_doomed (codes "out") 4 h word words refl p f
doomed_word (a ∷ b ∷ c ∷ d ∷ []) h word words few p f = word_stray 5 h word words refl p
doomed_word (a ∷ b ∷ c ∷ d ∷ e ∷ met) h word words few p f = absurd (omega arith)

doomed : (words : List Text) → AreWords words → (met : List Text) (h : Held) → length met ≤ 4 → h.skip ≡ 0 → Fails (settle_fault run_rules false h)
    → outcome (standing idle (suc (length met)) h) words ≡ None
doomed [] are met h few skip f = end_doomed (suc (length met)) h f
doomed (word ∷ words) are met h few skip f = elim (look word are.0 are.1) [
  | inl p ↦ doomed_word met h word words few p f
  | inr dashed ↦ elim dashed [
    | inl s ↦ short_refused (suc (length met)) h word words s skip
    | inr l ↦ long_doomed (suc (length met)) h word words l f
  ]
]

-- the option waits for a second value
waits_in_vain : (words : List Text) → AreWords words → (met : List Text) (given : Given) (u : Text) → length met ≤ 4 → value_of given (codes "workers") ≡ Some u
    → outcome (standing (option (codes "workers")) (suc (length met)) (held_waiting given)) words ≡ None
waits_in_vain [] are met given u few some = no_value_left (suc (length met)) given
waits_in_vain (v ∷ words) are met given u few some = elim (look v are.0 are.1) [
  | inl p ↦ value_given (suc (length met)) given v words p
      ∙ doomed words are.2 met (held_with given (codes "workers") v) few refl (twice given v u some)
  | inr dashed ↦ elim dashed [
    | inl s ↦ short_no_value (suc (length met)) given v words s
    | inr l ↦ long_no_value (suc (length met)) given v words l
  ]
]

-- ---- where the option was given

more_option : (met : List Text) (h : Held) (given : Given) (u word : Text) (words : List Text) → AreWords words → length met ≤ 4 → IsAt h given → Spells given met (Some u)
    → (l : IsLong word) (b : Bool) → bytes_eq (codes "workers") l.name ≡ b → (v : Option Text) → l.value ≡ v
    → outcome (standing idle (suc (length met)) h) (word ∷ words) ≡ None
more_option met h given u word words are few at_ s l false is v value_is = long_unknown (suc (length met)) h word words l is
more_option met h given u word words are few at_ s l true is (Some v) value_is = option_again (suc (length met)) h given word words v u l is value_is at_ s.workers
more_option met h given u word words are few at_ s l true is None value_is =
    option_waits (suc (length met)) h given word words l is value_is at_ ∙ waits_in_vain words are met given u few s.workers

given_before : (words : List Text) → AreWords words → (met : List Text) (h : Held) (given : Given) (u : Text) → length met ≤ 4 → IsAt h given → Spells given met (Some u)
    → outcome (standing idle (suc (length met)) h) words ≡ told met (taken_with u words)
given_before [] are met h given u few at_ s = ended met (Some u) h given few at_ s ∙ ap (λ m. option_and_then (four_arguments m) (workers_of (Some u))) (sym (append-nil met))
given_before (word ∷ words) are met h given u few at_ s = elim (look word are.0 are.1) [
  | inl p ↦ placed words (Some u) (taken_with u words) (λ m g e. given_before words are.2 m g e u) h given word at_ p met few s
  | inr dashed ↦ elim dashed [
    | inl short ↦ short_refused (suc (length met)) h word words short at_.skips ∙ sym (refused met word words (Some u) short.refused)
    | inr l ↦ more_option met h given u word words are.2 few at_ s l (bytes_eq (codes "workers") l.name) refl l.value refl
        ∙ sym (refused met word words (Some u) l.refused)
  ]
]

-- ---- where the option was not given

-- a word that is no option stays
pub stays : (met : List Text) (word : Text) (words : List Text) → names_workers word ≡ false → told met (without_workers (word ∷ words)) ≡ told met (taken_behind word (without_workers words))
stays met word words e = ap (λ b. told met (cond b (taken_first word words) (taken_behind word (without_workers words)))) e

-- `--workers` and what is behind it
next_value : (words : List Text) → AreWords words → (met : List Text) (given : Given) (word : Text) → length met ≤ 4 → Spells given met None → is_argument word ≡ false
    → outcome (standing (option (codes "workers")) (suc (length met)) (held_waiting given)) words ≡ told met (taken_with_next word words)
next_value [] are met given word few s dash = no_value_left (suc (length met)) given ∙ sym (refused met word [] None dash)
next_value (v ∷ words) are met given word few s dash = elim (look v are.0 are.1) [
  | inl p ↦ value_given (suc (length met)) given v words p
      ∙ given_before words are.2 met (held_with given (codes "workers") v) (given ++ (codes "workers", v) ∷ []) v few (at_workers given v s.workers) (with_workers given met v s)
  | inr dashed ↦ elim dashed [
    | inl short ↦ short_no_value (suc (length met)) given v words short ∙ sym (ap (option_and_then (four_arguments (met ++ words))) (no_number v short.refused))
    | inr l ↦ long_no_value (suc (length met)) given v words l ∙ sym (ap (option_and_then (four_arguments (met ++ words))) (no_number v l.refused))
  ]
]

first_option : (met : List Text) (h : Held) (given : Given) (word : Text) (words : List Text) → AreWords words → length met ≤ 4 → IsAt h given → Spells given met None
    → (l : IsLong word) (b : Bool) → bytes_eq (codes "workers") l.name ≡ b → (v : Option Text) → l.value ≡ v
    → outcome (standing idle (suc (length met)) h) (word ∷ words) ≡ told met (without_workers (word ∷ words))
first_option met h given word words are few at_ s l false is v value_is =
    long_unknown (suc (length met)) h word words l is
    ∙ sym (stays met word words (l.named ∙ is) ∙ refused met word (without_workers words).left (without_workers words).value l.refused)
first_option met h given word words are few at_ s l true is v value_is = by v value_is ∙ sym taken
  where
    taken : told met (without_workers (word ∷ words)) ≡ told met (option_map_or (λ value. taken_with value words) v (taken_with_next word words))
    taken = ap (λ b. told met (cond b (taken_first word words) (taken_behind word (without_workers words)))) (l.named ∙ is)
        ∙ ap (λ o. told met (option_map_or (λ value. taken_with value words) o (taken_with_next word words))) (l.valued ∙ value_is)

    by : (v : Option Text) → l.value ≡ v → outcome (standing idle (suc (length met)) h) (word ∷ words)
        ≡ told met (option_map_or (λ value. taken_with value words) v (taken_with_next word words))
    by (Some v) e = option_given (suc (length met)) h given word words v l is e at_ s.workers
        ∙ given_before words are met (held_done (given ++ (codes "workers", v) ∷ [])) (given ++ (codes "workers", v) ∷ []) v few (at_done (given ++ (codes "workers", v) ∷ [])) (with_workers given met v s)
    by None e = option_waits (suc (length met)) h given word words l is e at_ ∙ next_value words are met given word few s l.refused

not_given : (words : List Text) → AreWords words → (met : List Text) (h : Held) (given : Given) → length met ≤ 4 → IsAt h given → Spells given met None
    → outcome (standing idle (suc (length met)) h) words ≡ told met (without_workers words)
not_given [] are met h given few at_ s = ended met None h given few at_ s ∙ ap (λ m. option_and_then (four_arguments m) (Some 2)) (sym (append-nil met))
not_given (word ∷ words) are met h given few at_ s = elim (look word are.0 are.1) [
  | inl p ↦ placed words None (without_workers words) (not_given words are.2) h given word at_ p met few s ∙ sym (stays met word words p.unnamed)
  | inr dashed ↦ elim dashed [
    | inl short ↦ short_refused (suc (length met)) h word words short at_.skips
        ∙ sym (stays met word words short.unnamed ∙ refused met word (without_workers words).left (without_workers words).value short.refused)
    | inr l ↦ first_option met h given word words are.2 few at_ s l (bytes_eq (codes "workers") l.name) refl l.value refl
  ]
]

-- the reader's walk over the words behind `run`
pub agrees : (words : List Text) → AreWords words → outcome (standing idle 1 nothing_held) words ≡ run_with (without_workers words)
agrees words are = not_given words are [] nothing_held [] (omega arith) at_start spells_none
