-- The command `solo`: the air alone, undivided or in pieces.
use Rattle.std.specs.Prelude.{ℕ, List, [], ◌∷◌, ◌++◌, codes, Result, Ok, Option, Some, None}
use Rattle.std.specs.Option.{option_map, option_and_then}
use Rattle.cpl_fixed.specs.Totals.{total_of}
use Rattle.cpl_fixed.specs.declared.limits.TheConstants.{MOST_STEPS}
use Rattle.cpl_fixed.specs.declared.words.Component.TheVariants.{Atmos}
use Rattle.cpl_fixed.specs.declared.words.Quantity.TheVariants.{Heat, Water}
use Rattle.cpl_mosaic.specs.declared.parts.Tile.{Tile}
use Rattle.cpl_gridfile.specs.Reading.{air_grid_of}
use Rattle.cpl_state.specs.declared.air.Air.{Air}
use Rattle.cpl_restart.specs.AirBytes.{air_of, air_bytes}
use Rattle.cpl_state.specs.Diffusion.{cell_count, air_after}
use Rattle.cpl_top.specs.Counts.{done_line}
use Rattle.cpl_words.specs.Arguments.{number_of}
use Rattle.cpl_top.specs.Words.{four_or_six_words}
use Rattle.cpl_fixed.specs.Results.{◌>>=◌}
use Rattle.cpl_top.specs.Judging.{as_grid, as_start, layout, budget}
use Rattle.cpl_top.specs.Limits.{limit_of}
use Rattle.cpl_top.specs.Pieces.{pieces_of}
use Rattle.cpl_top.specs.Reads.{Reads, Ask, End}
use Rattle.cpl_top.specs.declared.output.Reply.{Reply}
use Rattle.cpl_top.specs.declared.pieces.Pieces.{Pieces}
use Rattle.cpl_top.specs.declared.status.Which.TheVariants as which
use Rattle.cpl_top.specs.declared.status.Status.{Status}

-- outputs and line: what is written and printed for the last air
abbrev pub solo_reply : List ℕ → ℕ → ℕ → Air → Reply
solo_reply out steps cells air = record {
  outputs = record { which = which.Restart; name = out ++ codes ".restart"; bytes = air_bytes air } ∷ [];
  line = done_line steps cells 0;
}

-- the layout, where pieces are asked for
abbrev pub air_layout : Option Pieces → List Tile → Result (Unit {0}) Status
air_layout None tiles = Ok tt
air_layout (Some pieces) tiles = layout Atmos tiles pieces

-- answer: what the bytes of a grid and a start come to. Grid, start, layout, budget of heat, budget of water. The last air is
-- that of the undivided run, whatever the layout
abbrev pub solo_answer : List ℕ → ℕ → Option Pieces → List ℕ → List ℕ → Result Reply Status
solo_answer out steps pieces grid start = do
  mesh ← as_grid (air_grid_of grid)
  air ← as_start (air_of (cell_count mesh) start)
  fits ← air_layout pieces mesh.mosaic.tiles
  heat ← budget Heat (total_of air.heat)
  water ← budget Water (total_of air.vapour)
  Ok (solo_reply out steps (cell_count mesh) (air_after steps mesh air))

-- inputs: the grid, then the start. All reading comes before all judging
abbrev pub solo_reads : List ℕ → List ℕ → List ℕ → ℕ → Option Pieces → Reads
solo_reads grid start out steps pieces =
    Ask which.Grid grid (limit_of which.Grid) (λ grid_bytes.
    Ask which.Start start (limit_of which.Start) (λ start_bytes. End (solo_answer out steps pieces grid_bytes start_bytes)))

-- words: `solo GRID START OUT N` with N of at most 10,000, or `solo GRID START OUT N PX PY` with PX and PY from 1 to 64
abbrev pub solo_of : List (List ℕ) → Option Reads
solo_of =
    four_or_six_words
    (λ grid start out steps. option_map (λ n. solo_reads grid start out n None) (number_of MOST_STEPS steps))
    (λ grid start out steps px py.
    option_and_then (λ n. option_map (λ pieces. solo_reads grid start out n (Some pieces)) (pieces_of px py)) (number_of MOST_STEPS steps))
