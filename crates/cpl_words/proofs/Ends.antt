-- The end of the reader's walk over the words of `run`.
use Rattle.std.proofs.Common.{◌≡◌, ◌∙◌, ◌||◌, ℕ, Bool, cond, codes, true, false, not, refl, ap, List, [], ◌∷◌, Option, Some, None, is_some}
use Rattle.std.specs.List.{fold}
use Rattle.clap.specs.Walk.{Held, Row, Rule, Text, default_rows, finished, first_of, idle, nothing_held, reading_by, settled, walk, walk_from, walked, with_default}
use Rattle.clap.specs.Simple.{entered, matches_of}
use Rattle.clap.specs.Kinds.{Kinds, or_else}
use Rattle.clap.specs.Faults.{built_fault, check_fault, default_fault, defaults_fault, entered_fault, fault_of, given_default_fault, settle_fault, walk_fault}
use Rattle.clap.specs.declared.error.kind.ErrorKind.TheVariants as kind
use Rattle.cpl_words.specs.Words.{Run}
use Rattle.cpl_words.specs.Found.{run_from, run_of}
use Rattle.cpl_words.specs.Command.{run_app}
use Rattle.cpl_words.proofs.Given.{Given, first_is, row_is_given, rows, single, value_of}
use Rattle.cpl_words.proofs.Steps.{IsAt, argument, built_app, faults, found, judged, outcome, run_rules, run_shape, standing, workers}

-- no argument has a default
no_default_fault : (rs : List Row) (id : Text) (long : Option Text) (index : Option ℕ) (required : Bool) → default_fault rs (single id long index required) ≡ []
no_default_fault rs id long index required = go (Rattle.clap.specs.Walk.has_row id rs)
  where
    go : (b : Bool) → cond (b || true) [] (given_default_fault (single id long index required) []) ≡ []
    go true = refl
    go false = refl

no_default : (rs : List Row) (id : Text) (long : Option Text) (index : Option ℕ) (required : Bool) → with_default rs (single id long index required) ≡ rs
no_default rs id long index required = go (Rattle.clap.specs.Walk.has_row id rs)
  where
    go : (b : Bool) → cond b rs rs ≡ rs
    go true = refl
    go false = refl

one_fault : (rs : List Row) (id : Text) (long : Option Text) (index : Option ℕ) (required : Bool) (rest : List Rule)
    → defaults_fault rs (single id long index required ∷ rest) ≡ defaults_fault rs rest
unfolding defaults_fault
one_fault rs id long index required rest =
    (λ i. or_else (no_default_fault rs id long index required i) (defaults_fault (no_default rs id long index required i) rest))

abbrev from_workers : List Rule
from_workers = workers ∷ []

abbrev from_out : List Rule
from_out = argument (codes "out") 4 ∷ from_workers

abbrev from_start : List Rule
from_start = argument (codes "start") 3 ∷ from_out

abbrev from_names : List Rule
from_names = argument (codes "names") 2 ∷ from_start

no_faults : (rs : List Row) → defaults_fault rs run_rules ≡ []
unfolding defaults_fault
no_faults rs = one_fault rs (codes "grid") None (Some 1) true from_names ∙ one_fault rs (codes "names") None (Some 2) true from_start
    ∙ one_fault rs (codes "start") None (Some 3) true from_out ∙ one_fault rs (codes "out") None (Some 4) true from_workers
    ∙ one_fault rs (codes "workers") (Some (codes "workers")) None false []

kept : (rs : List Row) → fold with_default rs run_rules ≡ rs
kept rs = ap (λ r. fold with_default r from_names) (no_default rs (codes "grid") None (Some 1) true)
    ∙ ap (λ r. fold with_default r from_start) (no_default rs (codes "names") None (Some 2) true)
    ∙ ap (λ r. fold with_default r from_out) (no_default rs (codes "start") None (Some 3) true)
    ∙ ap (λ r. fold with_default r from_workers) (no_default rs (codes "out") None (Some 4) true)
    ∙ no_default rs (codes "workers") (Some (codes "workers")) None false

-- an argument is missing
abbrev wants : Option Text → Option Text → Option Text → Option Text → Bool
wants grid names start out = not (is_some grid) || (not (is_some names) || (not (is_some start) || (not (is_some out) || false)))

check_is : (given : Given) → check_fault run_shape (rows given) false
    ≡ cond (wants (value_of given (codes "grid")) (value_of given (codes "names")) (value_of given (codes "start")) (value_of given (codes "out"))) (kind.MissingRequiredArgument ∷ []) []
check_is given = (λ i. cond (not (row_is_given given (codes "grid") i) || (not (row_is_given given (codes "names") i) || (not (row_is_given given (codes "start") i)
    || (not (row_is_given given (codes "out") i) || false)))) (kind.MissingRequiredArgument ∷ []) [])

-- the command of what was given, where it is all that is wanted
abbrev pub conclusion : Option Text → Option Text → Option Text → Option Text → Option Text → Option Run
conclusion grid names start out workers = judged (cond (wants grid names start out) (kind.MissingRequiredArgument ∷ []) []) (run_from grid names start out workers)

pub concluded : (n : ℕ) (h : Held) (given : Given) → IsAt h given → outcome (standing idle n h) []
    ≡ conclusion (value_of given (codes "grid")) (value_of given (codes "names")) (value_of given (codes "start")) (value_of given (codes "out")) (value_of given (codes "workers"))
unfolding outcome walk_fault
concluded n h given at_ =
    ap (λ t. judged (or_else t (or_else (defaults_fault (settled run_rules h).rows run_rules) (check_fault run_shape (finished run_rules h) false)))
    (run_of (λ id. first_of id (finished run_rules h)))) at_.settles
    ∙ (λ i. judged (or_else (no_faults (settled run_rules h).rows i) (check_fault run_shape (kept (settled run_rules h).rows i) false))
    (run_of (λ id. first_of id (kept (settled run_rules h).rows i))))
    ∙ ap (λ r. judged (check_fault run_shape r false) (run_of (λ id. first_of id r))) at_.gives
    ∙ (λ i. judged (check_is given i) (run_of (λ id. first_is given id i)))

-- ---- the whole walk

-- the command has no subcommands
none_entered : (stop : Option (Text × List Text)) → is_some (entered built_app stop) ≡ false
none_entered None = refl
none_entered (Some p) = refl

none_fails : (stop : Option (Text × List Text)) → entered_fault built_app stop ≡ []
none_fails None = refl
none_fails (Some p) = refl

abbrev level : List Text → Bool → Kinds → Kinds
level words has_subcommand below = Rattle.clap.specs.Faults.level_fault run_shape [] nothing_held words has_subcommand below

pub fault_is : (name : Text) (words : List Text) → fault_of run_app (name ∷ words) ≡ faults (standing idle 1 nothing_held) words
fault_is name words =
    let stop = (walk run_rules [] nothing_held words).stopped in
    (λ i. level words (none_entered stop i) (none_fails stop i))

pub found_is : (name : Text) (words : List Text) → run_of (λ id. first_of id (matches_of run_app (name ∷ words))) ≡ found (standing idle 1 nothing_held) words
found_is name words = refl
