-- Steps that judge what was read, for all commands.
use Rattle.std.specs.Prelude.{nat_le, Bool, true, List, Option, Some, None, Result, Ok, Err, if◌then◌else◌, ℤ, pos, negsuc}
use Rattle.cpl_fixed.specs.declared.limits.TheConstants.{MOST_TOTAL}
use Rattle.cpl_fixed.specs.declared.words.Component.{Component}
use Rattle.cpl_fixed.specs.declared.words.LayoutError.{LayoutError}
use Rattle.cpl_fixed.specs.declared.words.Quantity.{Quantity}
use Rattle.cpl_mosaic.specs.declared.parts.Tile.{Tile}
use Rattle.cpl_layout.specs.Layouts.{layout_fault}
use Rattle.cpl_namelist.specs.declared.fault.NamesError.{NamesError}
use Rattle.cpl_namelist.specs.declared.fault.NamesError.TheVariants as names
use Rattle.cpl_gridfile.specs.declared.fault.GridError.{GridError}
use Rattle.cpl_gridfile.specs.declared.fault.GridError.TheVariants as grid
use Rattle.cpl_restart.specs.declared.start_error.StartError.{StartError}
use Rattle.cpl_restart.specs.declared.start_error.StartError.TheVariants as start
use Rattle.cpl_plan.specs.declared.error.PlanError.{PlanError}
use Rattle.cpl_plan.specs.declared.error.PlanError.TheVariants as plan
use Rattle.cpl_top.specs.declared.pieces.Pieces.{Pieces}
use Rattle.cpl_top.specs.declared.status.Status.{Status}
use Rattle.cpl_top.specs.declared.status.Status.TheVariants as status

-- the status of a fault: out of memory is one for all
abbrev pub grid_status : GridError → Status
grid_status grid.Memory = status.Memory
grid_status fault = status.Grid fault

abbrev pub names_status : NamesError → Status
names_status names.Memory = status.Memory
names_status fault = status.Names fault

abbrev pub start_status : StartError → Status
start_status start.Memory = status.Memory
start_status fault = status.Start fault

-- layouts and the date are faults of the namelist
abbrev pub plan_status : PlanError → Status
plan_status (plan.Layout component fault) = status.Names (names.Layout component fault)
plan_status (plan.Date seconds) = status.Names (names.Date seconds)
plan_status (plan.Budget quantity total) = status.Budget quantity total
plan_status plan.Memory = status.Memory

abbrev pub as_grid : {A : Type 0} → Result A GridError → Result A Status
as_grid (Ok grid) = Ok grid
as_grid (Err fault) = Err (status.Grid fault)

abbrev pub as_names : {A : Type 0} → Result A NamesError → Result A Status
as_names (Ok names) = Ok names
as_names (Err fault) = Err (status.Names fault)

abbrev pub as_start : {A : Type 0} → Result A StartError → Result A Status
as_start (Ok start) = Ok start
as_start (Err fault) = Err (status.Start fault)

-- what a run goes by, by the first fault of a plan
abbrev pub as_plan : Option PlanError → Result (Unit {0}) Status
as_plan None = Ok tt
as_plan (Some fault) = Err (plan_status fault)

-- a component's layout, by its first broken rule
abbrev pub fits : Component → Option LayoutError → Result (Unit {0}) Status
fits component None = Ok tt
fits component (Some fault) = Err (status.Names (names.Layout component fault))

abbrev pub layout : Component → List Tile → Pieces → Result (Unit {0}) Status
layout component tiles pieces = fits component (layout_fault tiles pieces.px pieces.py)

abbrev pub is_within_budget : ℤ → Bool
is_within_budget (pos n) = nat_le n MOST_TOTAL
is_within_budget (negsuc n) = true

-- the budget: the total of a quantity
abbrev pub budget : Quantity → ℤ → Result (Unit {0}) Status
budget quantity total = if is_within_budget total then Ok tt else Err (status.Budget quantity total)
