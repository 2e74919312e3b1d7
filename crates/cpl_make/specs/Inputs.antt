-- The files of made inputs.
use Rattle.std.specs.Prelude.{ℕ, ◌≡◌, ◌≤◌, Ok, None, length}
use Rattle.cpl_fixed.specs.declared.limits.TheConstants.{MOST_GRID_BYTES, MOST_NAMES_BYTES, MOST_START_BYTES}
use Rattle.cpl_gridfile.specs.CoupledGrid.{grid_text}
use Rattle.cpl_gridfile.specs.Reading.{coupled_grid_of}
use Rattle.cpl_namelist.specs.Names.{reading}
use Rattle.cpl_restart.specs.RestartBytes.{whole_of}
use Rattle.cpl_restart.specs.SecondBytes.{second_bytes}
use Rattle.cpl_plan.specs.Faults.{plan_fault}
use Rattle.cpl_made_grid.specs.declared.recipe.Recipe.{Recipe}
use Rattle.cpl_made_grid.specs.Grids.{made_grid}
use Rattle.cpl_make.specs.declared.input.Made.{Made}
use Rattle.cpl_make.specs.Starts.{made_start}
use Rattle.cpl_make.specs.Texts.{names_text, made_names}

-- the files of a recipe, for a run of this many coupling steps
pub record IsInput (recipe : Recipe) (steps : ℕ) (made : Made) : Type 0 where
  pub grid : made.grid.items ≡ grid_text (made_grid recipe)
  pub names : made.names.items ≡ names_text steps
  -- the start, in version 2
  pub start : made.start.items ≡ second_bytes (made_start recipe)
  -- each is within the limit of its file
  pub grid_limit : length made.grid.items ≤ MOST_GRID_BYTES
  pub names_limit : length made.names.items ≤ MOST_NAMES_BYTES
  pub start_limit : length made.start.items ≤ MOST_START_BYTES
  -- they read as a grid that keeps the rules, as names in range, and as a state of that grid
  pub grid_read : coupled_grid_of made.grid.items ≡ Ok (made_grid recipe)
  pub names_read : reading made.names.items ≡ Ok (made_names steps)
  pub start_read : whole_of (made_grid recipe) made.start.items ≡ Ok (made_start recipe)
  -- no rule of layouts, date and budget is broken
  pub lawful : plan_fault (made_grid recipe) (made_names steps) (made_start recipe) ≡ None
