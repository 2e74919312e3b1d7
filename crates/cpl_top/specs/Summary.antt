-- The command `summary`: what the run of a made input comes to, in one line.
use Rattle.std.specs.Prelude.{ℕ, ℤ, List, [], ◌∷◌, ◌++◌, codes, decimal, Ok, Option}
use Rattle.std.specs.Fmt.{signed_decimal}
use Rattle.std.specs.Option.{option_and_then, option_map}
use Rattle.cpl_fixed.specs.declared.words.Quantity.TheVariants.{Heat, Water, Salt}
use Rattle.cpl_plan.specs.Plans.{PlanParts}
use Rattle.cpl_whole.specs.Rows.{stock_row}
use Rattle.cpl_made_grid.specs.declared.recipe.Recipe.{Recipe}
use Rattle.cpl_made_grid.specs.Grids.{made_grid}
use Rattle.cpl_make.specs.Starts.{made_start}
use Rattle.cpl_make.specs.Texts.{made_names}
use Rattle.cpl_words.specs.Arguments.{number_of}
use Rattle.cpl_stocks.specs.declared.rows.StockRow.{StockRow}
use Rattle.cpl_top.specs.Make.{recipe_of}
use Rattle.cpl_top.specs.Words.{three_words}
use Rattle.cpl_top.specs.Reads.{Reads, End}
use Rattle.cpl_top.specs.declared.output.Reply.{Reply}

-- the most coupling steps of a summary
abbrev pub most_summary : ℕ
most_summary = 1000

-- the plan of a made input, for so many coupling steps
abbrev pub made_plan : Recipe → ℕ → PlanParts
made_plan recipe steps = record { grid = made_grid recipe; names = made_names steps; start = made_start recipe }

-- whole numbers, each after a blank, and a line feed
abbrev pub totals_line : List ℤ → List ℕ
totals_line [] = 10 ∷ []
totals_line (x ∷ xs) = codes " " ++ (signed_decimal x ++ totals_line xs)

-- the steps, the totals of heat, water and salt, and the heat that entered and left, from three rows of stocks
abbrev pub rows_line : ℕ → (heat water salt : StockRow) → List ℕ
rows_line steps heat water salt =
    codes "summary " ++ (decimal steps ++ totals_line (heat.total ∷ water.total ∷ salt.total ∷ heat.entered ∷ heat.left ∷ []))

-- the same from the last rows of the undivided run of a plan
abbrev pub summary_line : PlanParts → List ℕ
summary_line plan =
    let last = stock_row plan.grid plan.names plan.start plan.names.steps in
    rows_line plan.names.steps (last Heat) (last Water) (last Salt)

-- outputs and line: no file is written
abbrev pub summary_reply : PlanParts → Reply
summary_reply plan = record { outputs = []; line = summary_line plan }

-- inputs: none. Nothing is refused
abbrev pub summary_reads : Recipe → ℕ → Reads
summary_reads recipe steps = End (Ok (summary_reply (made_plan recipe steps)))

-- words: `summary NUMBER SIZE STEPS`, with STEPS of at most 1,000
abbrev pub summary_of : List (List ℕ) → Option Reads
summary_of = three_words (λ number size steps.
    option_and_then (λ recipe. option_map (λ n. summary_reads recipe n) (number_of most_summary steps)) (recipe_of number size))
