-- The command `whole`: the undivided run.
use Rattle.std.specs.Prelude.{ℕ, List, Result, Ok, Option, Some}
use Rattle.cpl_fixed.specs.Results.{◌>>=◌}
use Rattle.cpl_state.specs.CouplingStep.{state_after}
use Rattle.cpl_plan.specs.Plans.{PlanParts}
use Rattle.cpl_whole.specs.declared.run.Outcome.{Outcome}
use Rattle.cpl_whole.specs.Rows.{stock_rows, exchange_rows}
use Rattle.cpl_top.specs.Inputs.{ask_inputs}
use Rattle.cpl_top.specs.Planned.{plan_of}
use Rattle.cpl_top.specs.Reads.{Reads, End}
use Rattle.cpl_top.specs.Runs.{run_reply}
use Rattle.cpl_top.specs.Words.{four_words}
use Rattle.cpl_top.specs.declared.output.Reply.{Reply}
use Rattle.cpl_top.specs.declared.status.Status.{Status}

-- what the undivided run of a plan leaves: the rows of all its states and of all its coupling steps, and the last state
abbrev pub outcome_of : PlanParts → Outcome
outcome_of plan = record {
  stocks = stock_rows plan.grid plan.names plan.start plan.names.steps;
  exchanges = exchange_rows plan.grid plan.names plan.start plan.names.steps;
  last = state_after plan.names.steps plan.grid plan.names plan.start;
}

-- answer: what the bytes of a grid, a namelist and a start come to
unfoldable pub whole_answer : List ℕ → List ℕ → List ℕ → List ℕ → Result Reply Status
whole_answer out grid names start = plan_of grid names start >>= (λ plan. Ok (run_reply out plan (outcome_of plan)))

-- inputs: the grid, the namelist, the start. All reading comes before all judging
abbrev pub whole_reads : List ℕ → List ℕ → List ℕ → List ℕ → Reads
whole_reads grid names start out =
    ask_inputs grid names start (λ grid_bytes names_bytes start_bytes. End (whole_answer out grid_bytes names_bytes start_bytes))

-- words: `whole GRID NAMES START OUT`
abbrev pub whole_of : List (List ℕ) → Option Reads
whole_of = four_words (λ grid names start out. Some (whole_reads grid names start out))
