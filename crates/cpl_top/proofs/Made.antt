-- What the commands of made inputs write and print.
use Rattle.std.proofs.Common.{◌≡◌, ap, ℕ, List, ◌++◌, arith, Ok, None}
use Rattle.std.specs.Prelude.{codes}
use Rattle.cpl_fixed.specs.Results.{◌>>=◌}
use Rattle.cpl_gridfile.specs.Reading.{coupled_grid_of}
use Rattle.cpl_namelist.specs.Names.{reading}
use Rattle.cpl_restart.specs.RestartBytes.{whole_of}
use Rattle.cpl_plan.specs.Faults.{plan_fault}
use Rattle.cpl_plan.specs.Plans.{PlanParts}
use Rattle.cpl_top.specs.Judging.{as_grid, as_names, as_plan, as_start}
use Rattle.cpl_top.specs.Make.{input_files}
use Rattle.cpl_top.specs.Planned.{plan_of}
use Rattle.cpl_top.specs.Replies.{AreApart}
use Rattle.cpl_top.specs.declared.status.Which.TheVariants as which
use Rattle.cpl_top.proofs.Judging.{goes_on}
use Rattle.cpl_top.proofs.Outcomes.{ends_apart, three_apart}

pub inputs_apart : (out grid names start : List ℕ) → AreApart (input_files out grid names start)
inputs_apart out grid names start =
    three_apart
    (record { which = which.Grid; name = out ++ codes ".grid"; bytes = grid })
    (record { which = which.Names; name = out ++ codes ".nml"; bytes = names })
    (record { which = which.Start; name = out ++ codes ".start"; bytes = start })
    (ends_apart out (codes ".grid") (codes ".nml") (λ e. omega arith))
    (ends_apart out (codes ".grid") (codes ".start") (λ e. omega arith))
    (ends_apart out (codes ".nml") (codes ".start") (λ e. omega arith))

-- files that read as the parts of a plan, of which no rule is broken
pub plan_read : (plan : PlanParts) (grid names start : List ℕ)
    → coupled_grid_of grid ≡ Ok plan.grid → reading names ≡ Ok plan.names → whole_of plan.grid start ≡ Ok plan.start
    → plan_fault plan.grid plan.names plan.start ≡ None → plan_of grid names start ≡ Ok plan
plan_read plan grid names start is_grid are_names is_start fits =
    goes_on _ _ plan.grid _ (ap as_grid is_grid)
    (goes_on _ _ plan.names _ (ap as_names are_names)
    (goes_on _ _ plan.start _ (ap as_start is_start)
    (ap (λ fault. as_plan fault >>= (λ fits. Ok plan)) fits)))
