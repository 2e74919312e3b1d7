-- The words of the command `run`, apart from how they are read.
use Rattle.std.specs.Prelude.{ℕ, List, [], ◌∷◌, codes, Bool, ◌==◌, Option, Some, None, if◌then◌else◌, string_bytes}
use Rattle.std.specs.List.{list_all, list_any, before_first, after_first}
use Rattle.std.specs.Option.{option_and_then, option_map_or}
use Rattle.std.specs.Str.{bytes_eq}
use Rattle.cpl_words.specs.Arguments.{Text, is_argument, positive_of}
use Rattle.cpl_words.specs.declared.words.RunWords.{RunWords}

-- ---- the option

-- what stands before the first `=` is `--workers`
abbrev pub names_workers : Text → Bool
names_workers word = bytes_eq (codes "--workers") (before_first (λ c. c == 61) word)

-- what stands behind the first `=`, where there is one
abbrev pub value_within : Text → Option Text
value_within word = if list_any (λ c. c == 61) word then Some (after_first (λ c. c == 61) word) else None

-- the value of an option that was taken out, and the words that are left
pub record Taken : Type 0 where
  pub value : Option Text
  pub left : List Text

abbrev pub taken_with : Text → List Text → Taken
taken_with value words = record { value = Some value; left = words }

-- `--workers` and the word behind it, which is its value; with no word behind it nothing is taken out
abbrev pub taken_with_next : Text → List Text → Taken
taken_with_next word [] = record { value = None; left = word ∷ [] }
taken_with_next word (value ∷ words) = taken_with value words

abbrev pub taken_first : Text → List Text → Taken
taken_first word words = option_map_or (λ value. taken_with value words) (value_within word) (taken_with_next word words)

abbrev pub taken_behind : Text → Taken → Taken
taken_behind word taken = record taken { left = word ∷ taken.left }

-- the first `--workers n` or `--workers=n` taken out of the words
abbrev pub without_workers : List Text → Taken
without_workers [] = record { value = None; left = [] }
without_workers (word ∷ words) = if names_workers word then taken_first word words else taken_behind word (without_workers words)

-- ---- the command

-- what a command `run` tells
pub record Run : Type 0 where
  pub grid : Text
  pub names : Text
  pub start : Text
  pub out : Text
  pub workers : ℕ

-- the number of workers: 1 to 16, and 2 where no option tells it
abbrev pub workers_of : Option Text → Option ℕ
workers_of value = option_map_or (positive_of 16) value (Some 2)

-- four words in their order
abbrev pub four_words : List Text → ℕ → Option Run
four_words (grid ∷ names ∷ start ∷ out ∷ []) workers =
    Some (record { grid = grid; names = names; start = start; out = out; workers = workers })
four_words words workers = None

-- four arguments
abbrev pub four_arguments : List Text → ℕ → Option Run
four_arguments words workers = if list_all is_argument words then four_words words workers else None

-- an option at any place among four arguments
abbrev pub run_with : Taken → Option Run
run_with taken = option_and_then (four_arguments taken.left) (workers_of taken.value)

-- the command `run` that words are, if they are one: `run`, and then four arguments, among which `--workers n` or
-- `--workers=n` may stand once
unfoldable pub run_words_of : List Text → Option Run
run_words_of [] = None
run_words_of (first ∷ words) = if bytes_eq first (codes "run") then run_with (without_workers words) else None

-- what was read, as text
abbrev pub told : RunWords → Run
told run = record {
  grid = string_bytes run.grid;
  names = string_bytes run.names;
  start = string_bytes run.start;
  out = string_bytes run.out;
  workers = run.workers;
}
