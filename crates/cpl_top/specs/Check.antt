-- The command `check`: what a grid has.
use Rattle.std.specs.Prelude.{ℕ, List, [], ◌∷◌, ◌++◌, codes, nat_eq, Result, Ok, Option, Some, if◌then◌else◌}
use Rattle.std.specs.List.{starts_with}
use Rattle.cpl_fixed.specs.Results.{◌>>=◌}
use Rattle.cpl_gridfile.specs.Reading.{air_grid_of, coupled_grid_of}
use Rattle.cpl_top.specs.Counts.{air_counts, coupled_counts, counts_line}
use Rattle.cpl_top.specs.Words.{one_word}
use Rattle.cpl_top.specs.Judging.{as_grid}
use Rattle.cpl_top.specs.Limits.{limit_of}
use Rattle.cpl_top.specs.Reads.{Reads, Ask, End}
use Rattle.cpl_top.specs.declared.counts.Kind.{Kind}
use Rattle.cpl_top.specs.declared.counts.Kind.TheVariants as kind
use Rattle.cpl_top.specs.declared.counts.Counts.{Counts}
use Rattle.cpl_top.specs.declared.output.Reply.{Reply}
use Rattle.cpl_top.specs.declared.status.Which.TheVariants as which
use Rattle.cpl_top.specs.declared.status.Status.{Status}

-- the words that the line begins with
abbrev pub kind_words : Kind → List ℕ
kind_words kind.Air = codes "grid air"
kind_words kind.Coupled = codes "grid coupled"

-- outputs and line: no file is written
abbrev pub check_reply : Counts → Reply
check_reply counts = record { outputs = []; line = counts_line (kind_words counts.kind) counts }

-- the first line of a grid for the air alone
abbrev pub air_head : List ℕ
air_head = codes "grid 1 air" ++ 10 ∷ []

-- what the grid has that bytes spell. Only those that begin with this line are read as a grid for the air alone
abbrev pub counts_of : List ℕ → Result Counts Status
counts_of grid =
    if starts_with nat_eq grid air_head then as_grid (air_grid_of grid) >>= (λ mesh. Ok (air_counts mesh))
    else as_grid (coupled_grid_of grid) >>= (λ coupled. Ok (coupled_counts coupled))

-- answer: what the bytes of a grid come to
abbrev pub check_answer : List ℕ → Result Reply Status
check_answer grid = counts_of grid >>= (λ counts. Ok (check_reply counts))

-- inputs: the grid
abbrev pub check_reads : List ℕ → Reads
check_reads grid = Ask which.Grid grid (limit_of which.Grid) (λ bytes. End (check_answer bytes))

-- words: `check GRID`
abbrev pub check_of : List (List ℕ) → Option Reads
check_of = one_word (λ grid. Some (check_reads grid))
