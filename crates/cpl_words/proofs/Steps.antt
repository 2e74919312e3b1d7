-- The walk of the reader of command lines over the words of `run`: what each word does to it.
use Rattle.std.proofs.Common.{◌≡◌, ◌∙◌, ◌+◌, ◌&&◌, ◌||◌, ◌++◌, ℕ, Bool, cond, codes, true, false, refl, sym, ap, List, [], ◌∷◌, length, min, Option, Some, None, is_some, true≢false}
use Rattle.std.specs.List.{fold}
use Rattle.std.specs.Option.{option_map_or}
use Rattle.std.specs.Str.{bytes_eq}
use Rattle.clap.specs.Lexer.{long_of, usize_max}
use Rattle.clap.specs.Walk.{Held, Rule, Text, Waiting, Walk, after_flag, after_step, arg_by_id, arg_by_index, arg_by_long, finished, first_of, idle, is_pending, long_met, long_or_other, next, nothing_held, option, pushed, settled, short_or_plain, to_positional, trailing, used, value, walked, word_met, used_by_id}
use Rattle.clap.specs.Simple.{App, Shape, built, new_shape}
use Rattle.clap.specs.Kinds.{Kinds, or_else}
use Rattle.clap.specs.Faults.{bundle_fault, bundle_step_fault, check_fault, defaults_fault, flag_word_fault, flags_fault, is_simple_and_free, long_fault, other_fault, positional_fault, settle_fault, step_fault, stray_fault, turn_fault, use_fault, walk_fault}
use Rattle.clap.specs.declared.error.kind.ErrorKind.{ErrorKind}
use Rattle.clap.specs.declared.error.kind.ErrorKind.TheVariants as kind
use Rattle.cpl_words.specs.Words.{Run}
use Rattle.cpl_words.specs.Found.{run_of}
use Rattle.cpl_words.specs.Command.{run_app}
use Rattle.cpl_words.proofs.Given.{Given, row_is_there, rows, single, used_once, value_of}
use Rattle.cpl_words.proofs.Looks.{IsLong, IsPlain, IsShort}

-- ---- the command, as it is built

abbrev pub argument : Text → ℕ → Rule
argument id index = single id None (Some index) true

abbrev pub workers : Rule
workers = single (codes "workers") (Some (codes "workers")) None false

abbrev pub run_rules : List Rule
run_rules = argument (codes "grid") 1 ∷ argument (codes "names") 2 ∷ argument (codes "start") 3 ∷ argument (codes "out") 4 ∷ workers ∷ []

abbrev pub run_shape : Shape
run_shape = record (new_shape (codes "run")) { rules = run_rules; disable_help_flag = true; disable_help_subcommand = true; is_built = true }

abbrev pub built_app : App
built_app = record { top = run_shape; subs = [] }

pub built_run : built run_app ≡ built_app
built_run = refl

pub run_is_simple : is_simple_and_free run_app ≡ true
run_is_simple = refl

-- ---- what comes of a walk

abbrev pub judged : Kinds → Option Run → Option Run
judged [] run = run
judged (k ∷ ks) run = None

-- what is wrong at the end of a walk
abbrev last_faults : Held → Kinds
last_faults end = or_else (settle_fault run_rules false end)
    (or_else (defaults_fault (settled run_rules end).rows run_rules) (check_fault run_shape (finished run_rules end) false))

abbrev pub walk_end : Walk → List Text → Held
walk_end w words = (fold (walked run_rules []) w words).held

abbrev pub faults : Walk → List Text → Kinds
faults w words = or_else (walk_fault run_shape [] w words) (last_faults (walk_end w words))

abbrev pub found : Walk → List Text → Option Run
found w words = run_of (λ id. first_of id (finished run_rules (walk_end w words)))

-- the command that a walk finds in words, if it finds one
unfoldable pub outcome : Walk → List Text → Option Run
outcome w words = judged (faults w words) (found w words)

pub outcome_failed : (w : Walk) (words : List Text) (k : ErrorKind) (ks : Kinds) → faults w words ≡ k ∷ ks → outcome w words ≡ None
unfolding outcome
outcome_failed w words k ks e = ap (λ f. judged f (found w words)) e

pub outcome_found : (w : Walk) (words : List Text) → faults w words ≡ [] → outcome w words ≡ found w words
unfolding outcome
outcome_found w words e = ap (λ f. judged f (found w words)) e

-- between two words
abbrev pub standing : Waiting → ℕ → Held → Walk
standing waiting position held = record { held = held; waiting = waiting; position = position; is_trailing = false; stopped = None }

abbrev turn : Walk → Text → Kinds
turn w word = turn_fault run_shape [] w word

-- something is wrong
pub record Fails (kinds : Kinds) : Type 0 where
  pub first : ErrorKind
  pub others : Kinds
  pub are : kinds ≡ first ∷ others

fails_before : (a b : Kinds) → Fails a → Fails (or_else a b)
fails_before a b f = record { first = f.first; others = f.others; are = ap (λ x. or_else x b) f.are }

fails_as : (a b : Kinds) → a ≡ b → Fails b → Fails a
fails_as a b e f = record { first = f.first; others = f.others; are = e ∙ f.are }

unknown : (a : Kinds) → a ≡ kind.UnknownArgument ∷ [] → Fails a
unknown a e = record { first = kind.UnknownArgument; others = []; are = e }

-- what comes of the step of a word
abbrev step_of : Waiting → ℕ → Text → Held → Kinds
step_of waiting n word h = step_fault run_shape n (word_met run_rules [] false waiting n word h).0 (word_met run_rules [] false waiting n word h).1

refuses : (w : Walk) (word : Text) (words : List Text) → Fails (turn w word) → outcome w (word ∷ words) ≡ None
unfolding outcome walk_fault
refuses w word words f = ap (λ t. judged (or_else (or_else t (walk_fault run_shape [] (walked run_rules [] w word) words))
    (last_faults (walk_end (walked run_rules [] w word) words))) (found w (word ∷ words))) f.are

passes : (w after : Walk) (word : Text) (words : List Text) → turn w word ≡ [] → walked run_rules [] w word ≡ after → outcome w (word ∷ words) ≡ outcome after words
unfolding outcome walk_fault
passes w after word words e f = ap (λ t. judged (or_else (or_else t (walk_fault run_shape [] (walked run_rules [] w word) words))
    (last_faults (walk_end (walked run_rules [] w word) words))) (found w (word ∷ words))) e ∙ ap (λ v. outcome v words) f

-- ---- uses

use_is : (given : Given) (id : Text) (long : Option Text) (index : Option ℕ) (required : Bool) (v : Text)
    → use_fault false (single id long index required) (v ∷ []) (rows given) ≡ or_else (cond (is_some (value_of given id) && true) (kind.ArgumentConflict ∷ []) []) []
use_is given id long index required v = ap (λ b. or_else (cond (b && true) (kind.ArgumentConflict ∷ []) []) []) (row_is_there given id)

use_first : (given : Given) (id : Text) (long : Option Text) (index : Option ℕ) (required : Bool) (v : Text) → value_of given id ≡ None
    → use_fault false (single id long index required) (v ∷ []) (rows given) ≡ []
use_first given id long index required v none =
    use_is given id long index required v ∙ ap (λ o. or_else (cond (is_some o && true) (kind.ArgumentConflict ∷ []) []) []) none

use_again : (given : Given) (v u : Text) → value_of given (codes "workers") ≡ Some u → use_fault false workers (v ∷ []) (rows given) ≡ kind.ArgumentConflict ∷ []
use_again given v u some = use_is given (codes "workers") (Some (codes "workers")) None false v
    ∙ ap (λ o. or_else (cond (is_some o && true) (kind.ArgumentConflict ∷ []) []) []) some

-- ---- what is held between two words

-- all is well, and this was given
pub record IsAt (h : Held) (given : Given) : Type 0 where
  pub settles : settle_fault run_rules false h ≡ []
  pub gives : (settled run_rules h).rows ≡ rows given
  pub skips : h.skip ≡ 0

-- one more was given, and may be used yet
abbrev pub held_with : Given → Text → Text → Held
held_with given id v = record { rows = rows given; pending = Some (id, v ∷ []); skip = 0 }

abbrev pub held_done : Given → Held
held_done given = record { rows = rows given; pending = None; skip = 0 }

-- an option waits for its value
abbrev pub held_waiting : Given → Held
held_waiting given = record { rows = rows given; pending = Some (codes "workers", []); skip = 0 }

pub at_start : IsAt nothing_held []
at_start = record { settles = refl; gives = refl; skips = refl }

pub at_done : (given : Given) → IsAt (held_done given) given
at_done given = record { settles = refl; gives = refl; skips = refl }

-- an argument that wasn't given before
pub at_with : (given : Given) (id : Text) (long : Option Text) (index : Option ℕ) (required : Bool) (v : Text) → arg_by_id run_rules id ≡ Some (single id long index required)
    → value_of given id ≡ None → IsAt (held_with given id v) (given ++ (id, v) ∷ [])
at_with given id long index required v here none = record {
  settles = ap (λ a. option_map_or (λ a. use_fault false a (v ∷ []) (rows given)) a []) here ∙ use_first given id long index required v none;
  gives = ap (λ a. used_by_id a (v ∷ []) (rows given)) here ∙ used_once given id long index required v none;
  skips = refl;
}

pub at_argument : (given : Given) (id : Text) (index : ℕ) (v : Text) → arg_by_id run_rules id ≡ Some (argument id index) → value_of given id ≡ None
    → IsAt (held_with given id v) (given ++ (id, v) ∷ [])
at_argument given id index v here none = at_with given id None (Some index) true v here none

pub at_workers : (given : Given) (v : Text) → value_of given (codes "workers") ≡ None → IsAt (held_with given (codes "workers") v) (given ++ (codes "workers", v) ∷ [])
at_workers given v none = at_with given (codes "workers") (Some (codes "workers")) None false v refl none

-- the option comes a second time
pub twice : (given : Given) (v u : Text) → value_of given (codes "workers") ≡ Some u → Fails (settle_fault run_rules false (held_with given (codes "workers") v))
twice given v u some = record { first = kind.ArgumentConflict; others = []; are = use_again given v u some }

-- ---- a word that begins with one `-`

short_fails : (word : Text) → IsShort word → (h : Held) → h.skip ≡ 0 → Fails (other_fault run_shape None word h)
unfolding flags_fault
short_fails word s h skip = unknown _
    (ap (λ b. cond b [] (flag_word_fault run_rules false (long_of word) word h)) s.apart
    ∙ ap (λ l. flag_word_fault run_rules false l word h) s.long
    ∙ ap (λ f. option_map_or (λ flags. bundle_fault run_rules false flags h) f []) s.short
    ∙ (λ i. bundle_step_fault run_rules false (s.first_is i) (s.flag ∷ s.flags) (skip i) (record h { skip = 0 }) (flags_fault run_rules false (length s.flags))))

pub short_refused : (n : ℕ) (h : Held) (word : Text) (words : List Text) → IsShort word → h.skip ≡ 0 → outcome (standing idle n h) (word ∷ words) ≡ None
short_refused n h word words s skip = refuses (standing idle n h) word words
    (fails_before (other_fault run_shape None word h) (step_of idle n word h) (short_fails word s h skip))

pub short_no_value : (n : ℕ) (given : Given) (word : Text) (words : List Text) → IsShort word
    → outcome (standing (option (codes "workers")) n (held_waiting given)) (word ∷ words) ≡ None
short_no_value n given word words s =
    refuses (standing (option (codes "workers")) n (held_waiting given)) word words
    (fails_before (other_fault run_shape None word (held_waiting given)) (step_of (option (codes "workers")) n word (held_waiting given)) (short_fails word s (held_waiting given) refl))

-- ---- a word that begins with `--`

abbrev named : Bool → Option Rule
named b = cond b (Some workers) None

by_long : (name : Text) → arg_by_long run_rules name ≡ named (bytes_eq (codes "workers") name)
by_long name = go (bytes_eq (codes "workers") name)
  where
    go : (b : Bool) → cond (b || false) (Some workers) None ≡ cond b (Some workers) None
    go true = refl
    go false = refl

long_is : (word : Text) (l : IsLong word) (h : Held) → other_fault run_shape None word h ≡ long_fault run_rules false (named (bytes_eq (codes "workers") l.name)) l.value h
long_is word l h = ap (λ b. cond b [] (flag_word_fault run_rules false (long_of word) word h)) l.apart
    ∙ ap (λ x. flag_word_fault run_rules false x word h) l.long
    ∙ ap (λ a. long_fault run_rules false a l.value h) (by_long l.name)

-- another name, or the option where something is wrong already
long_fails : (word : Text) (l : IsLong word) (h : Held) (b : Bool) → bytes_eq (codes "workers") l.name ≡ b → (b ≡ true → Fails (settle_fault run_rules false h))
    → Fails (other_fault run_shape None word h)
long_fails word l h false is doomed = unknown _ (long_is word l h ∙ ap (λ b. long_fault run_rules false (named b) l.value h) is)
long_fails word l h true is doomed = fails_as _ _ (long_is word l h ∙ ap (λ b. long_fault run_rules false (named b) l.value h) is) (go l.value)
  where
    go : (v : Option Text) → Fails (long_fault run_rules false (Some workers) v h)
    go (Some v) = fails_before (settle_fault run_rules false h) (use_fault false workers (v ∷ []) (settled run_rules h).rows) (doomed refl)
    go None = doomed refl

pub long_unknown : (n : ℕ) (h : Held) (word : Text) (words : List Text) (l : IsLong word) → bytes_eq (codes "workers") l.name ≡ false
    → outcome (standing idle n h) (word ∷ words) ≡ None
long_unknown n h word words l is = refuses (standing idle n h) word words
    (fails_before (other_fault run_shape None word h) (step_of idle n word h) (long_fails word l h false is (λ e. absurd (true≢false (sym e)))))

pub long_doomed : (n : ℕ) (h : Held) (word : Text) (words : List Text) (l : IsLong word) → Fails (settle_fault run_rules false h)
    → outcome (standing idle n h) (word ∷ words) ≡ None
long_doomed n h word words l doomed = refuses (standing idle n h) word words
    (fails_before (other_fault run_shape None word h) (step_of idle n word h) (long_fails word l h (bytes_eq (codes "workers") l.name) refl (λ e. doomed)))

no_value : (given : Given) → Fails (settle_fault run_rules false (held_waiting given))
no_value given = record { first = kind.InvalidValue; others = []; are = refl }

pub long_no_value : (n : ℕ) (given : Given) (word : Text) (words : List Text) → IsLong word
    → outcome (standing (option (codes "workers")) n (held_waiting given)) (word ∷ words) ≡ None
long_no_value n given word words l =
    refuses (standing (option (codes "workers")) n (held_waiting given)) word words
    (fails_before (other_fault run_shape None word (held_waiting given)) (step_of (option (codes "workers")) n word (held_waiting given))
    (long_fails word l (held_waiting given) (bytes_eq (codes "workers") l.name) refl (λ e. no_value given)))

-- ---- the option

-- what its value is, where the word is the option
option_fault_is : (word : Text) (l : IsLong word) (h : Held) (v : Option Text) → bytes_eq (codes "workers") l.name ≡ true → l.value ≡ v
    → other_fault run_shape None word h ≡ long_fault run_rules false (Some workers) v h
option_fault_is word l h v is value_is = long_is word l h ∙ (λ i. long_fault run_rules false (named (is i)) (value_is i) h)

option_met_is : (word : Text) (l : IsLong word) (n : ℕ) (h : Held) (v : Option Text) → bytes_eq (codes "workers") l.name ≡ true → l.value ≡ v
    → word_met run_rules [] false idle n word h ≡ after_flag run_rules idle word (long_met run_rules (Some workers) v h).0 (long_met run_rules (Some workers) v h).1
option_met_is word l n h v is value_is =
    ap (λ b. cond b (h, trailing n) (long_or_other run_rules idle word (long_of word) h)) l.apart
    ∙ ap (λ x. long_or_other run_rules idle word x h) l.long
    ∙ ap (λ a. after_flag run_rules idle word (long_met run_rules a l.value h).0 (long_met run_rules a l.value h).1) (by_long l.name)
    ∙ (λ i. after_flag run_rules idle word (long_met run_rules (named (is i)) (value_is i) h).0 (long_met run_rules (named (is i)) (value_is i) h).1)

-- `--workers=v`
pub option_given : (n : ℕ) (h : Held) (given : Given) (word : Text) (words : List Text) (v : Text) (l : IsLong word) → bytes_eq (codes "workers") l.name ≡ true
    → l.value ≡ Some v → IsAt h given → value_of given (codes "workers") ≡ None
    → outcome (standing idle n h) (word ∷ words) ≡ outcome (standing idle n (held_done (given ++ (codes "workers", v) ∷ []))) words
unfolding walked
option_given n h given word words v l is value_is at_ none =
    let fault = option_fault_is word l h (Some v) is value_is in
    let met = option_met_is word l n h (Some v) is value_is in
    let used_is : used workers (v ∷ []) (settled run_rules h).rows ≡ rows (given ++ (codes "workers", v) ∷ []) =
    ap (used workers (v ∷ [])) at_.gives ∙ used_once given (codes "workers") (Some (codes "workers")) None false v none in
    passes (standing idle n h) (standing idle n (held_done (given ++ (codes "workers", v) ∷ []))) word words
    ((λ i. or_else (fault i) (step_fault run_shape n (met i).0 (met i).1))
    ∙ (λ i. or_else (or_else (at_.settles i) (use_fault false workers (v ∷ []) (at_.gives i))) [])
    ∙ ap (λ t. or_else t []) (use_first given (codes "workers") (Some (codes "workers")) None false v none))
    ((λ i. after_step run_rules word (standing idle n h) (met i).0 (met i).1)
    ∙ (λ i. standing idle n (record { rows = used_is i; pending = None; skip = at_.skips i })))

-- `--workers=v`, a second time
pub option_again : (n : ℕ) (h : Held) (given : Given) (word : Text) (words : List Text) (v u : Text) (l : IsLong word) → bytes_eq (codes "workers") l.name ≡ true
    → l.value ≡ Some v → IsAt h given → value_of given (codes "workers") ≡ Some u → outcome (standing idle n h) (word ∷ words) ≡ None
option_again n h given word words v u l is value_is at_ some = refuses (standing idle n h) word words
    (fails_before (other_fault run_shape None word h) (step_of idle n word h) (unfinished (option_fault_is word l h (Some v) is value_is ∙ (λ i. or_else (at_.settles i) (use_fault false workers (v ∷ []) (at_.gives i)))
    ∙ use_again given v u some)))
  where
    unfinished : other_fault run_shape None word h ≡ kind.ArgumentConflict ∷ [] → Fails (other_fault run_shape None word h)
    unfinished e = record { first = kind.ArgumentConflict; others = []; are = e }

-- `--workers`
pub option_waits : (n : ℕ) (h : Held) (given : Given) (word : Text) (words : List Text) (l : IsLong word) → bytes_eq (codes "workers") l.name ≡ true
    → l.value ≡ None → IsAt h given → outcome (standing idle n h) (word ∷ words) ≡ outcome (standing (option (codes "workers")) n (held_waiting given)) words
unfolding walked
option_waits n h given word words l is value_is at_ =
    let fault = option_fault_is word l h None is value_is in
    let met = option_met_is word l n h None is value_is in
    passes (standing idle n h) (standing (option (codes "workers")) n (held_waiting given)) word words
    ((λ i. or_else (fault i) (step_fault run_shape n (met i).0 (met i).1)) ∙ ap (λ t. or_else t []) at_.settles)
    ((λ i. after_step run_rules word (standing idle n h) (met i).0 (met i).1)
    ∙ (λ i. standing (option (codes "workers")) n (record { rows = at_.gives i; pending = Some (codes "workers", []); skip = at_.skips i })))

-- ---- a word that is no option

plain_fault : (word : Text) → IsPlain word → (h : Held) → other_fault run_shape None word h ≡ []
plain_fault word p h = ap (λ b. cond b [] (flag_word_fault run_rules false (long_of word) word h)) p.apart
    ∙ ap (λ l. flag_word_fault run_rules false l word h) p.long
    ∙ ap (λ f. option_map_or (λ flags. bundle_fault run_rules false flags h) f []) p.short

-- the value of the option
pub value_given : (n : ℕ) (given : Given) (word : Text) (words : List Text) → IsPlain word
    → outcome (standing (option (codes "workers")) n (held_waiting given)) (word ∷ words) ≡ outcome (standing idle n (held_with given (codes "workers") word)) words
unfolding walked
value_given n given word words p =
    let h = held_waiting given in
    let w = standing (option (codes "workers")) n h in
    let met : word_met run_rules [] false (option (codes "workers")) n word h ≡ (held_with given (codes "workers") word, next idle) =
    ap (λ b. cond b (h, trailing n) (long_or_other run_rules (option (codes "workers")) word (long_of word) h)) p.apart
    ∙ ap (λ x. long_or_other run_rules (option (codes "workers")) word x h) p.long
    ∙ ap (λ f. short_or_plain run_rules (option (codes "workers")) word f h) p.short in
    passes w (standing idle n (held_with given (codes "workers") word)) word words
    (λ i. or_else (plain_fault word p h i) (step_fault run_shape n (met i).0 (met i).1))
    (λ i. after_step run_rules word w (met i).0 (met i).1)

pub no_value_left : (n : ℕ) (given : Given) → outcome (standing (option (codes "workers")) n (held_waiting given)) [] ≡ None
unfolding outcome walk_fault
no_value_left n given = refl

plain_met : (n : ℕ) (h : Held) (word : Text) → IsPlain word → word_met run_rules [] false idle n word h ≡ (h, value)
plain_met n h word p = ap (λ b. cond b (h, trailing n) (long_or_other run_rules idle word (long_of word) h)) p.apart
    ∙ ap (λ x. long_or_other run_rules idle word x h) p.long
    ∙ ap (λ f. short_or_plain run_rules idle word f h) p.short

plain_turn : (n : ℕ) (h : Held) (word : Text) → IsPlain word → turn (standing idle n h) word ≡ step_fault run_shape n h value
plain_turn n h word p = (λ i. or_else (plain_fault word p h i) (step_fault run_shape n (plain_met n h word p i).0 (plain_met n h word p i).1))

placed_turn : (id : Text) (n : ℕ) (h : Held) → arg_by_index run_rules n ≡ Some (argument id n) → step_fault run_shape n h value ≡ settle_fault run_rules false h
placed_turn id n h here = ap (λ a. option_map_or (λ a. positional_fault run_rules false a h) a (stray_fault run_shape)) here ∙ go (is_pending (argument id n) h.pending)
  where
    go : (b : Bool) → cond (b && false) [] (settle_fault run_rules false h) ≡ settle_fault run_rules false h
    go true = refl
    go false = refl

-- the word is the argument at this place
pub word_placed : (id : Text) (n m : ℕ) (h : Held) (given : Given) (word : Text) (words : List Text) → arg_by_index run_rules n ≡ Some (argument id n)
    → min (n + 1) usize_max ≡ m → IsPlain word → IsAt h given → outcome (standing idle n h) (word ∷ words) ≡ outcome (standing idle m (held_with given id word)) words
unfolding walked
word_placed id n m h given word words here moved p at_ =
    let a = argument id n in
    let w = standing idle n h in
    passes w (standing idle m (held_with given id word)) word words
    (plain_turn n h word p ∙ placed_turn id n h here ∙ at_.settles)
    ((λ i. after_step run_rules word w (plain_met n h word p i).0 (plain_met n h word p i).1)
    ∙ ap (λ o. to_positional run_rules o word w h) here
    ∙ ap (λ (g : Held). standing idle (min (n + 1) usize_max) (pushed id word g)) (go (is_pending a h.pending))
    ∙ (λ i. standing idle (moved i) (record { rows = at_.gives i; pending = Some (id, word ∷ []); skip = at_.skips i })))
  where
    go : (b : Bool) → cond (b && false) h (settled run_rules h) ≡ settled run_rules h
    go true = refl
    go false = refl

-- no argument is left for the word
pub word_stray : (n : ℕ) (h : Held) (word : Text) (words : List Text) → arg_by_index run_rules n ≡ None → IsPlain word → outcome (standing idle n h) (word ∷ words) ≡ None
word_stray n h word words none p = refuses (standing idle n h) word words
    (unknown _ (plain_turn n h word p ∙ ap (λ a. option_map_or (λ a. positional_fault run_rules false a h) a (stray_fault run_shape)) none))

-- something was wrong before
pub word_doomed : (id : Text) (n : ℕ) (h : Held) (word : Text) (words : List Text) → arg_by_index run_rules n ≡ Some (argument id n) → IsPlain word
    → Fails (settle_fault run_rules false h) → outcome (standing idle n h) (word ∷ words) ≡ None
word_doomed id n h word words here p doomed =
    refuses (standing idle n h) word words (fails_as _ _ (plain_turn n h word p ∙ placed_turn id n h here) doomed)

pub end_doomed : (n : ℕ) (h : Held) → Fails (settle_fault run_rules false h) → outcome (standing idle n h) [] ≡ None
unfolding outcome walk_fault
end_doomed n h doomed = ap (λ t. judged (or_else t (or_else (defaults_fault (settled run_rules h).rows run_rules) (check_fault run_shape (finished run_rules h) false)))
    (found (standing idle n h) [])) doomed.are
