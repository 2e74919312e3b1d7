-- The course of a run: what holds of each of its states, and of each of its coupling steps.
use Rattle.std.specs.Prelude.{◌≡◌, ℕ, zero, suc, ◌-◌, ◌≤◌, ◌^◌, List, [], ◌∷◌, ℤ, pos, ◌+ℤ◌, ◌-ℤ◌, ◌*ℤ◌, ◌≤ℤ◌, ◌<ℤ◌}
use Rattle.cpl_fixed.specs.Amounts.{at}
use Rattle.cpl_fixed.specs.declared.words.Quantity.{Quantity}
use Rattle.cpl_fixed.specs.declared.words.Quantity.TheVariants.{Heat, Water, Salt}
use Rattle.cpl_mosaic.specs.Mates.{MatesAgree}
use Rattle.cpl_namelist.specs.declared.names.Names.{Names}
use Rattle.cpl_namelist.specs.Ranges.{AreNames}
use Rattle.cpl_xgrid.specs.declared.grid.Grid.{Grid}
use Rattle.cpl_state.specs.declared.whole.Whole.{Whole}
use Rattle.cpl_state.specs.Diffusion.{IsAirMesh}
use Rattle.cpl_state.specs.States.{layers, IsWhole}
use Rattle.cpl_state.specs.Stocks.{held, flying_to_ice, flying_to_ocean}
use Rattle.cpl_state.specs.Bounds.{IsMidUpTo, IsSeaUpTo, IsWholeUpTo}
use Rattle.cpl_state.specs.Budget.{IsWithinBudget, budget_of}
use Rattle.cpl_state.specs.SurfaceLaws.{KeepsSurface, fast_state}
use Rattle.cpl_state.specs.Transport.{Sea, stepped_by}
use Rattle.cpl_state.specs.Cut.{with_flight, after_cut}
use Rattle.cpl_state.specs.CouplingStep.{sea_of, surface_after, sea_after, step_after, state_after, step_entered, step_left, step_gave, step_took}
use Rattle.cpl_laws.specs.Once.{IsNumbered}
use Rattle.cpl_sea.specs.Seas.{IsOcean, IsSea}

-- a grid that keeps its rules, whose cells, mates and faces agree
pub record IsGround (grid : Grid) : Type 0 where
  pub numbered : IsNumbered grid
  pub air : IsAirMesh grid.air
  pub mates : MatesAgree grid.air.mosaic
  pub ocean : IsOcean grid.ocean

-- From this state so many coupling steps can be made: it is lawful, its totals with the sun to come keep within the budget, and
-- its seconds at the end within 64 bits.
pub record CanRun (steps : ℕ) (grid : Grid) (names : Names) (whole : Whole) : Type 0 where
  pub are_names : AreNames names
  pub is_whole : IsWhole grid whole
  pub budget : IsWithinBudget steps grid names whole
  pub time : (whole.elapsed +ℤ (pos steps *ℤ names.dt)) <ℤ pos (2 ^ 63)

-- What is in flight of the five exchanges, heat, water and salt of each: from the air to the land and to the ice, and from the land
-- to the ice, nothing; from the ocean to the ice; from the ice to the ocean.
abbrev pub in_flight : Grid → Whole → List ℤ
in_flight grid whole =
    pos 0 ∷ pos 0 ∷ pos 0 ∷ pos 0 ∷ pos 0 ∷ pos 0 ∷ pos 0 ∷ pos 0 ∷ pos 0
    ∷ flying_to_ice grid whole Heat ∷ flying_to_ice grid whole Water ∷ flying_to_ice grid whole Salt
    ∷ flying_to_ocean grid whole Heat ∷ flying_to_ocean grid whole Water ∷ flying_to_ocean grid whole Salt ∷ []

-- the ocean after so many of the steps of a coupling step
abbrev pub sea_at : Grid → Names → Whole → ℕ → Sea
sea_at grid names whole i = stepped_by i grid.ocean (layers grid) names.rates (with_flight grid.ocean (sea_of whole) whole.to_ocean)

-- What a coupling step keeps. Its surface and its ocean keep all; the state after it is lawful; heat enters by the sun and leaves to
-- space alone, and neither water nor salt is made or lost; in each exchange what was in flight and what was given is what was taken
-- and what is in flight; and of what flies between ice and ocean, the last six of the fifteen, all was taken that was in flight.
pub record KeepsCoupling (grid : Grid) (names : Names) (whole : Whole) : Type 0 where
  pub surface : KeepsSurface grid names whole
  pub sea : (i : ℕ) → i ≤ names.ocean_steps → IsSea grid.ocean (layers grid) (sea_at grid names whole i)
  pub cut : IsSea grid.ocean (layers grid) (after_cut grid.ocean (sea_after grid names whole))
  pub after : IsWhole grid (step_after grid names whole)
  pub heat : held grid (step_after grid names whole) Heat ≡ held grid whole Heat +ℤ step_entered grid names whole -ℤ step_left grid names whole
  pub water : held grid (step_after grid names whole) Water ≡ held grid whole Water
  pub salt : held grid (step_after grid names whole) Salt ≡ held grid whole Salt
  pub balance : (place : ℕ) → at (in_flight grid whole) place +ℤ at (step_gave grid names whole) place
      ≡ at (step_took grid names whole) place +ℤ at (in_flight grid (step_after grid names whole)) place
  pub landed : (place : ℕ) → 9 ≤ place → at (step_took grid names whole) place ≡ at (in_flight grid whole) place

-- a tally of the coupling steps before the n-th state
abbrev pub over_steps : (Grid → Names → Whole → ℤ) → ℕ → Grid → Names → Whole → ℤ
over_steps tally zero grid names start = pos 0
over_steps tally (suc n) grid names start = over_steps tally n grid names start +ℤ tally grid names (state_after n grid names start)

-- What holds of the n-th state of a run: the rest of the run can be made from it, its seconds are those of n steps more, and of
-- heat, water and salt it holds what the start held, with what entered and left. What it may come to hold is no more than at the
-- start.
pub record IsOnCourse (steps : ℕ) (grid : Grid) (names : Names) (start : Whole) (n : ℕ) : Type 0 where
  pub can : CanRun (steps - n) grid names (state_after n grid names start)
  pub elapsed : (state_after n grid names start).elapsed ≡ start.elapsed +ℤ (pos n *ℤ names.dt)
  pub heat : held grid (state_after n grid names start) Heat
      ≡ held grid start Heat +ℤ over_steps step_entered n grid names start -ℤ over_steps step_left n grid names start
  pub water : held grid (state_after n grid names start) Water ≡ held grid start Water
  pub salt : held grid (state_after n grid names start) Salt ≡ held grid start Salt
  pub within : (quantity : Quantity) → budget_of (steps - n) grid names (state_after n grid names start) quantity ≤ℤ budget_of steps grid names start quantity

-- No amount is negative or above these totals on the way from a state to the next: after any of the fast steps, when the land is
-- drained and the ice slowed, and after any of the ocean's steps.
pub record IsWayUpTo (total : Quantity → ℤ) (grid : Grid) (names : Names) (whole : Whole) : Type 0 where
  pub fast : (i : ℕ) → i ≤ names.fast → IsMidUpTo total grid (fast_state grid names whole i)
  pub slow : IsWholeUpTo total grid (surface_after grid names whole)
  pub ocean : (i : ℕ) → i ≤ names.ocean_steps → IsSeaUpTo total (sea_at grid names whole i)
