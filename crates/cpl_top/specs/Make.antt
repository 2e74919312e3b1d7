-- The command `make`: an input of any size.
use Rattle.std.specs.Prelude.{ℕ, ◌-◌, ◌^◌, List, [], ◌∷◌, ◌++◌, codes, Ok, Option}
use Rattle.std.specs.Option.{option_and_then, option_map}
use Rattle.cpl_gridfile.specs.CoupledGrid.{grid_text}
use Rattle.cpl_restart.specs.SecondBytes.{second_bytes}
use Rattle.cpl_made_grid.specs.declared.recipe.Recipe.{Recipe}
use Rattle.cpl_made_grid.specs.declared.shapes.TheConstants.{MOST_SIZE}
use Rattle.cpl_made_grid.specs.Grids.{made_grid}
use Rattle.cpl_made_grid.specs.Made.{recipe}
use Rattle.cpl_make.specs.Starts.{made_start}
use Rattle.cpl_make.specs.Texts.{names_text}
use Rattle.cpl_words.specs.Arguments.{number_of, positive_of}
use Rattle.cpl_top.specs.Counts.{coupled_counts, counts_line}
use Rattle.cpl_top.specs.Words.{three_words}
use Rattle.cpl_top.specs.Reads.{Reads, End}
use Rattle.cpl_top.specs.declared.output.Output.{Output}
use Rattle.cpl_top.specs.declared.output.Reply.{Reply}
use Rattle.cpl_top.specs.declared.status.Which.TheVariants as which

-- a grid's text, a namelist and a state
abbrev pub input_files : (out grid names start : List ℕ) → List Output
input_files out grid names start =
    record { which = which.Grid; name = out ++ codes ".grid"; bytes = grid }
    ∷ record { which = which.Names; name = out ++ codes ".nml"; bytes = names }
    ∷ record { which = which.Start; name = out ++ codes ".start"; bytes = start } ∷ []

-- the coupling steps that the namelist of a made input asks for
abbrev pub made_steps : ℕ
made_steps = 24

-- outputs: the made grid, names for a day, and the made start in version 2
abbrev pub made_outputs : List ℕ → Recipe → List Output
made_outputs out recipe =
    input_files out (grid_text (made_grid recipe)) (names_text made_steps) (second_bytes (made_start recipe))

-- line: what the made grid has
abbrev pub make_reply : List ℕ → Recipe → Reply
make_reply out recipe = record { outputs = made_outputs out recipe; line = counts_line (codes "made") (coupled_counts (made_grid recipe)) }

-- inputs: none. Nothing is refused
abbrev pub make_reads : List ℕ → Recipe → Reads
make_reads out recipe = End (Ok (make_reply out recipe))

-- what two words choose: a number below 2^64, and a size from 1 to 64
abbrev pub recipe_of : List ℕ → List ℕ → Option Recipe
recipe_of number size =
    option_and_then (λ n. option_map (λ s. recipe n s) (positive_of MOST_SIZE size)) (number_of (2 ^ 64 - 1) number)

-- words: `make NUMBER SIZE OUT`
abbrev pub make_of : List (List ℕ) → Option Reads
make_of = three_words (λ number size out. option_map (λ recipe. make_reads out recipe) (recipe_of number size))
