-- Why a grid, a namelist and a start make no plan: the first of the layouts of the four components, the date and the budget.
use Rattle.std.specs.Prelude.{◌≡◌, ℕ, ◌-◌, ◌^◌, nat_le, ◌&&◌, List, Option, Some, None, Result, Ok, Err, ℤ, pos, ◌+ℤ◌, ◌*ℤ◌, int_lt, unsigned_abs, if◌then◌else◌, slice_index_or}
use Rattle.std.specs.Int.{int_min}
use Rattle.std.specs.Option.{option_map}
use Rattle.cpl_fixed.specs.declared.words.Component.{Component}
use Rattle.cpl_fixed.specs.declared.words.Component.TheVariants.{Atmos, Land, Ice, Ocean}
use Rattle.cpl_fixed.specs.declared.words.Quantity.{Quantity}
use Rattle.cpl_mosaic.specs.declared.parts.Tile.{Tile}
use Rattle.cpl_layout.specs.Layouts.{layout_fault}
use Rattle.cpl_namelist.specs.declared.names.Names.{Names}
use Rattle.cpl_namelist.specs.Civil.{civil_after}
use Rattle.cpl_xgrid.specs.declared.grid.Grid.{Grid}
use Rattle.cpl_xgrid.specs.Rules.{tiles_of}
use Rattle.cpl_state.specs.declared.whole.Whole.{Whole}
use Rattle.cpl_state.specs.Budget.{budget_fault}
use Rattle.cpl_plan.specs.declared.error.PlanError.{PlanError}
use Rattle.cpl_plan.specs.declared.error.PlanError.TheVariants as fault

abbrev pub or_else : Option PlanError → Option PlanError → Option PlanError
or_else (Some fault) other = Some fault
or_else None other = other

-- LAYOUTS

-- the pieces that a component asks for, along x and y: atmos, land, ice and ocean in turn
abbrev pub layout_at : Names → ℕ → ℕ × ℕ
layout_at names k = slice_index_or names.layouts k (0, 0)

-- why the tiles of its mosaic can't be cut so
abbrev pub component_fault : Component → List Tile → ℕ × ℕ → Option PlanError
component_fault component tiles layout = option_map (fault.Layout component) (layout_fault tiles layout.0 layout.1)

-- the first component whose layout doesn't fit; the ice has the ocean's mosaic
abbrev pub layouts_fault : Grid → Names → Option PlanError
layouts_fault grid names =
    or_else (component_fault Atmos (tiles_of grid.air) (layout_at names 0))
    (or_else (component_fault Land (tiles_of grid.land) (layout_at names 1))
    (or_else (component_fault Ice (tiles_of grid.ocean) (layout_at names 2))
    (component_fault Ocean (tiles_of grid.ocean) (layout_at names 3))))

-- THE DATE

-- the elapsed seconds at the end of the run
abbrev pub last_second : Names → Whole → ℤ
last_second names start = start.elapsed +ℤ (pos names.steps *ℤ names.dt)

-- they are below 2^63, and that moment is 9999-12-31 23:59:59 at the latest; the fault has the seconds, or 2^63 - 1 where they are more
abbrev pub date_fault : Names → Whole → Option PlanError
date_fault names start =
    if int_lt (last_second names start) (pos (2 ^ 63)) && nat_le (civil_after names.start (unsigned_abs (last_second names start))).0 9999 then None
    else Some (fault.Date (int_min (last_second names start) (pos (2 ^ 63 - 1))))

-- THE BUDGET

abbrev pub over_budget : Quantity × ℤ → PlanError
over_budget above = fault.Budget above.0 above.1

-- ALL

-- the first fault: layouts, then the date, then the budget
abbrev pub plan_fault : Grid → Names → Whole → Option PlanError
plan_fault grid names start =
    or_else (layouts_fault grid names) (or_else (date_fault names start) (option_map over_budget (budget_fault grid names start)))

-- what is refused is the first fault, or there was no memory
abbrev pub IsFirstFault : Option PlanError → PlanError → Type 0
IsFirstFault found fault.Memory = Unit {0}
IsFirstFault found error = found ≡ Some error

-- there is no fault, or it is answered
abbrev pub Judges : {T : Type 0} → Option PlanError → Result T PlanError → Type 0
Judges found (Ok x) = found ≡ None
Judges found (Err error) = IsFirstFault found error
