-- The command `migrate`: a state of either version, written in version 2.
use Rattle.std.specs.Prelude.{ℕ, ℤ, List, [], ◌∷◌, ◌++◌, codes, Result, Ok, Option, Some}
use Rattle.std.specs.Fmt.{signed_decimal}
use Rattle.cpl_fixed.specs.Results.{◌>>=◌}
use Rattle.cpl_gridfile.specs.Reading.{coupled_grid_of}
use Rattle.cpl_restart.specs.RestartBytes.{whole_of}
use Rattle.cpl_top.specs.Words.{three_words}
use Rattle.cpl_top.specs.Judging.{as_grid, as_start}
use Rattle.cpl_top.specs.Limits.{limit_of}
use Rattle.cpl_restart.specs.SecondBytes.{second_bytes}
use Rattle.cpl_top.specs.Reads.{Reads, Ask, End}
use Rattle.cpl_top.specs.declared.output.Reply.{Reply}
use Rattle.cpl_top.specs.declared.status.Which.TheVariants as which
use Rattle.cpl_top.specs.declared.status.Status.{Status}

-- outputs and line: the bytes of the state, and its elapsed seconds
abbrev pub migrate_reply : List ℕ → List ℕ → ℤ → Reply
migrate_reply out bytes elapsed = record {
  outputs = record { which = which.Restart; name = out ++ codes ".restart"; bytes = bytes } ∷ [];
  line = codes "migrated " ++ signed_decimal elapsed ++ 10 ∷ [];
}

-- answer: what the bytes of a grid and a start come to. The grid, and the start in either version
abbrev pub migrate_answer : List ℕ → List ℕ → List ℕ → Result Reply Status
migrate_answer out grid start = do
  coupled ← as_grid (coupled_grid_of grid)
  whole ← as_start (whole_of coupled start)
  Ok (migrate_reply out (second_bytes whole) whole.elapsed)

-- inputs: the grid, then the start. All reading comes before all judging
abbrev pub migrate_reads : List ℕ → List ℕ → List ℕ → Reads
migrate_reads grid start out =
    Ask which.Grid grid (limit_of which.Grid) (λ grid_bytes.
    Ask which.Start start (limit_of which.Start) (λ start_bytes. End (migrate_answer out grid_bytes start_bytes)))

-- words: `migrate GRID START OUT`
abbrev pub migrate_of : List (List ℕ) → Option Reads
migrate_of = three_words (λ grid start out. Some (migrate_reads grid start out))
