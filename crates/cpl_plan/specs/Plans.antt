-- Plans: what a run goes by, and when it is lawful.
use Rattle.std.specs.Prelude.{◌≡◌, ◌^◌, None, pos, ◌<ℤ◌, unsigned_abs}
use Rattle.cpl_fixed.specs.declared.words.Component.{Component}
use Rattle.cpl_layout.specs.Layouts.{IsLayout, layout_fault}
use Rattle.cpl_namelist.specs.Civil.{Fits}
use Rattle.cpl_namelist.specs.declared.names.Names.{Names}
use Rattle.cpl_namelist.specs.Ranges.{AreNames}
use Rattle.cpl_xgrid.specs.declared.grid.Grid.{Grid}
use Rattle.cpl_xgrid.specs.Grids.{IsGrid}
use Rattle.cpl_xgrid.specs.Rules.{tiles_of}
use Rattle.cpl_state.specs.Diffusion.{IsAirMesh}
use Rattle.cpl_state.specs.States.{IsWhole}
use Rattle.cpl_state.specs.Budget.{IsWithinBudget}
use Rattle.cpl_wires.specs.Settings.{Setting, layout_of}
pub use Rattle.cpl_rounds.specs.Rounds.{PlanParts}
use Rattle.cpl_plan.specs.Faults.{last_second, layout_at}

-- what the edges and scripts of a run go by
abbrev pub setting_of : PlanParts → Setting
setting_of plan = record { grid = plan.grid; names = plan.names }

-- each component has a layout of its mosaic
abbrev pub HasLayouts : Grid → Names → Type 0
HasLayouts grid names = (component : Component) → IsLayout (layout_of (record { grid = grid; names = names }) component)

-- The parts of a plan are lawful; the layouts of all components fit their mosaics; the run ends in year 9999 at the latest, and its
-- totals of heat, water and salt keep within the budget.
pub record IsPlan (plan : PlanParts) : Type 0 where
  pub grid_is : IsGrid plan.grid
  pub air_is : IsAirMesh plan.grid.air
  pub names_are : AreNames plan.names
  pub start_is : IsWhole plan.grid plan.start
  pub atmos : layout_fault (tiles_of plan.grid.air) (layout_at plan.names 0).0 (layout_at plan.names 0).1 ≡ None
  pub land : layout_fault (tiles_of plan.grid.land) (layout_at plan.names 1).0 (layout_at plan.names 1).1 ≡ None
  pub ice : layout_fault (tiles_of plan.grid.ocean) (layout_at plan.names 2).0 (layout_at plan.names 2).1 ≡ None
  pub ocean : layout_fault (tiles_of plan.grid.ocean) (layout_at plan.names 3).0 (layout_at plan.names 3).1 ≡ None
  pub layouts : HasLayouts plan.grid plan.names
  pub time : last_second plan.names plan.start <ℤ pos (2 ^ 63)
  pub date : Fits plan.names.start (unsigned_abs (last_second plan.names plan.start))
  pub budget : IsWithinBudget plan.names.steps plan.grid plan.names plan.start
