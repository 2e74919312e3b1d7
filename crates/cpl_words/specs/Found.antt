-- What is made of the texts that the reader of command lines found.
use Rattle.std.specs.Prelude.{List, [], ◌∷◌, codes, Bool, false, ◌||◌, Option}
use Rattle.std.specs.Option.{option_and_then, option_map}
use Rattle.std.specs.Str.{bytes_eq}
use Rattle.cpl_words.specs.Arguments.{Text}
use Rattle.cpl_words.specs.Words.{Run, workers_of}

-- the first word is `run`
abbrev pub begins_with_run : List Text → Bool
begins_with_run [] = false
begins_with_run (first ∷ words) = bytes_eq first (codes "run")

-- empty, `-` or `--`
abbrev pub is_separator : Text → Bool
is_separator word = bytes_eq word [] || (bytes_eq word (codes "-") || bytes_eq word (codes "--"))

-- the command of these arguments, where each was given and the number of workers is one
abbrev pub run_from : Option Text → Option Text → Option Text → Option Text → Option Text → Option Run
run_from grid names start out workers = option_and_then (λ g. option_and_then (λ n. option_and_then (λ s. option_and_then (λ o.
    option_map (λ w. record { grid = g; names = n; start = s; out = o; workers = w }) (workers_of workers)) out) start) names) grid

-- the same of the arguments by their names
abbrev pub run_of : (Text → Option Text) → Option Run
run_of given = run_from (given (codes "grid")) (given (codes "names")) (given (codes "start")) (given (codes "out")) (given (codes "workers"))
