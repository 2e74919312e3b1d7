-- What no run loses, from the bytes that are read to the tables and the restart that are written.
use Rattle.std.specs.Prelude.{◌≡◌, ◌≤◌, ◌<◌, ℕ, List, length, All, Ok, IfOk}
use Rattle.cpl_plan.specs.Plans.{PlanParts}
use Rattle.cpl_restart.specs.RestartBytes.{whole_of}
use Rattle.cpl_restart.specs.SecondBytes.{second_bytes}
use Rattle.cpl_whole.specs.Rows.{Balances, Keeps}
use Rattle.cpl_top.specs.Limits.{limit_of}
use Rattle.cpl_top.specs.Planned.{plan_of}
use Rattle.cpl_top.specs.Runs.{run_reply}
use Rattle.cpl_top.specs.Whole.{outcome_of, whole_answer}
use Rattle.cpl_top.specs.declared.output.Reply.{Reply}
use Rattle.cpl_top.specs.declared.status.Which.TheVariants as which

-- These files are those of the run of a plan, in which nothing is lost: in each row of the exchanges what was in flight and what was
-- given is what was taken and what is in flight, and each row of the stocks holds what the start held, with the heat that entered,
-- less what left. The restart is within the limit of a start, and is read as the last state.
pub record IsConserved (out : List ℕ) (plan : PlanParts) (reply : Reply) : Type 0 where
  pub files : reply ≡ run_reply out plan (outcome_of plan)
  pub balances : All Balances (outcome_of plan).exchanges
  pub keeps : All (Keeps plan.grid plan.start) (outcome_of plan).stocks
  pub within : length (second_bytes (outcome_of plan).last) ≤ limit_of which.Start
  pub back : whole_of plan.grid (second_bytes (outcome_of plan).last) ≡ Ok (outcome_of plan).last

-- Whatever a grid, a namelist and a start are, the files that a run answers are those of the plan that they make, and nothing is lost
-- in it.
abbrev pub Conserves : Type 0
Conserves =
    (out grid names start : List ℕ) → All (λ byte. byte < 256) start
    → IfOk (whole_answer out grid names start) (λ reply. (plan : PlanParts) × (plan_of grid names start ≡ Ok plan) × IsConserved out plan reply)
