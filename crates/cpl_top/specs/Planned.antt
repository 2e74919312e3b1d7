-- The plan of a coupled run.
use Rattle.std.specs.Prelude.{ℕ, List, Result, Ok}
use Rattle.cpl_fixed.specs.Results.{◌>>=◌}
use Rattle.cpl_gridfile.specs.Reading.{coupled_grid_of}
use Rattle.cpl_namelist.specs.Names.{reading}
use Rattle.cpl_restart.specs.RestartBytes.{whole_of}
use Rattle.cpl_plan.specs.Faults.{plan_fault}
use Rattle.cpl_plan.specs.Plans.{PlanParts}
use Rattle.cpl_top.specs.Judging.{as_grid, as_names, as_start, as_plan}
use Rattle.cpl_top.specs.declared.status.Status.{Status}

-- the plan that the bytes of a grid, a namelist and a start make, or the first fault: the grid, the namelist, the start, then the
-- layouts, the date and the budget
abbrev pub plan_of : List ℕ → List ℕ → List ℕ → Result PlanParts Status
plan_of grid names start = do
  coupled ← as_grid (coupled_grid_of grid)
  given ← as_names (reading names)
  whole ← as_start (whole_of coupled start)
  fits ← as_plan (plan_fault coupled given whole)
  Ok (record { grid = coupled; names = given; start = whole })
