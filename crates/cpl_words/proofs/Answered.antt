-- What is answered to the whole words.
use Rattle.std.proofs.Common.{◌≡◌, ◌∙◌, ◌||◌, codes, cond, true, false, refl, sym, ap, subst, List, [], ◌∷◌, None, String, string_bytes, true≢false}
use Rattle.std.specs.List.{list_any}
use Rattle.std.specs.Str.{bytes_eq}
use Rattle.std.specs.declared.alloc.Global.{Global}
use Rattle.std.proofs.lemmas.Slice.Eq.{bytes_eq-Decides}
use Rattle.clap.specs.Walk.{first_of, idle, nothing_held, rows_of}
use Rattle.clap.specs.Simple.{App, HasMatchesOf, is_simple, matches_of}
use Rattle.clap.specs.Matches.{first_value, found_of}
use Rattle.clap.specs.Kinds.{IsAmong, Kinds}
use Rattle.clap.specs.Faults.{fault_of}
use Rattle.clap.specs.declared.error.kind.ErrorKind.{ErrorKind}
use Rattle.clap.specs.declared.parser.matches.ArgMatches.{ArgMatches}
use Rattle.clap.proofs.WalkLemmas.{first_value-rows, list_any-map}
use Rattle.cpl_words.specs.Arguments.{Text, texts}
use Rattle.cpl_words.specs.Words.{run_with, run_words_of, without_workers}
use Rattle.cpl_words.specs.Found.{begins_with_run, is_separator, run_of}
use Rattle.cpl_words.specs.Command.{run_app}
use Rattle.cpl_words.proofs.Agrees.{AreWords, agrees}
use Rattle.cpl_words.proofs.Ends.{fault_is, found_is}
use Rattle.cpl_words.proofs.Separators.{none_told}
use Rattle.cpl_words.proofs.Steps.{faults, outcome_failed, outcome_found, standing}

pub any_text : (words : List (String Global)) → list_any (λ word. is_separator (string_bytes word)) words ≡ list_any is_separator (texts words)
any_text words = list_any-map is_separator string_bytes words

begun : (first : Text) (words : List Text) → bytes_eq first (codes "run") ≡ true → run_words_of (first ∷ words) ≡ run_with (without_workers words)
unfolding run_words_of
begun first words e = ap (λ b. cond b (run_with (without_workers words)) None) e

pub not_run : (words : List Text) → begins_with_run words ≡ false → run_words_of words ≡ None
unfolding run_words_of
not_run [] e = refl
not_run (first ∷ words) e = ap (λ b. cond b (run_with (without_workers words)) None) e

pub separator_refused : (words : List Text) → begins_with_run words ≡ true → list_any is_separator words ≡ true → run_words_of words ≡ None
separator_refused [] begins some = absurd (true≢false (sym some))
separator_refused (first ∷ words) begins some = begun first words begins ∙ none_told words behind []
  where
    unmarked : is_separator first ≡ false
    unmarked = subst (λ w. is_separator w ≡ false) (sym ((bytes_eq-Decides first (codes "run")).0 begins)) refl

    behind : list_any is_separator words ≡ true
    behind = ap (λ b. b || list_any is_separator words) (sym unmarked) ∙ some

pub read_right : (app : App) (words : List Text) (m : ArgMatches) → app ≡ run_app → begins_with_run words ≡ true → AreWords words → fault_of app words ≡ []
    → HasMatchesOf app words m → run_of (first_value (found_of m)) ≡ run_words_of words
read_right app [] m is begins are none has = absurd (true≢false (sym begins))
read_right app (first ∷ words) m is begins are none has =
    let matched : rows_of (found_of m) ≡ matches_of run_app (first ∷ words) = (has (ap is_simple is)).0 ∙ ap (λ a. matches_of a (first ∷ words)) is in
    let clean : faults (standing idle 1 nothing_held) words ≡ [] = sym (fault_is first words) ∙ ap (λ a. fault_of a (first ∷ words)) (sym is) ∙ none in
    (λ i. run_of (λ id. first_value-rows (found_of m) id i))
    ∙ ap (λ rs. run_of (λ id. first_of id rs)) matched
    ∙ found_is first words
    ∙ sym (outcome_found (standing idle 1 nothing_held) words clean)
    ∙ agrees words are.2
    ∙ sym (begun first words begins)

pub read_wrong : (app : App) (words : List Text) (k : ErrorKind) → app ≡ run_app → begins_with_run words ≡ true → AreWords words → IsAmong k (fault_of app words)
    → run_words_of words ≡ None
read_wrong app [] k is begins are among = absurd (true≢false (sym begins))
read_wrong app (first ∷ words) k is begins are among = go (fault_of app (first ∷ words)) refl among
  where
    go : (kinds : Kinds) → fault_of app (first ∷ words) ≡ kinds → IsAmong k kinds → run_words_of (first ∷ words) ≡ None
    go [] e none = absurd none
    go (x ∷ xs) e some = begun first words begins ∙ sym (agrees words are.2)
        ∙ outcome_failed (standing idle 1 nothing_held) words x xs (sym (fault_is first words) ∙ ap (λ a. fault_of a (first ∷ words)) (sym is) ∙ e)
