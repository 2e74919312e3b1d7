-- When a coupling step of the surface can be made, with the air over it, and what it keeps.
use Rattle.std.specs.Prelude.{◌≡◌, ℕ, ◌<◌, ◌≤◌, ◌-◌, ℤ, pos, ◌+ℤ◌, ◌-ℤ◌, ◌*ℤ◌, ◌≤ℤ◌}
use Rattle.cpl_fixed.specs.Amounts.{at}
use Rattle.cpl_fixed.specs.declared.limits.TheConstants.{MOST_TOTAL}
use Rattle.cpl_fixed.specs.declared.words.Quantity.TheVariants as quantity
use Rattle.cpl_namelist.specs.declared.names.Names.{Names}
use Rattle.cpl_namelist.specs.Ranges.{AreNames}
use Rattle.cpl_xgrid.specs.declared.grid.Grid.{Grid}
use Rattle.cpl_xgrid.specs.declared.parts.Surface.TheVariants.{Land, Ocean}
use Rattle.cpl_xgrid.specs.Grids.{IsGrid}
use Rattle.cpl_state.specs.declared.whole.Whole.{Whole}
use Rattle.cpl_state.specs.declared.whole.Mid.{Mid}
use Rattle.cpl_state.specs.Diffusion.{IsAirMesh}
use Rattle.cpl_state.specs.States.{IsWhole, IsMid}
use Rattle.cpl_state.specs.FastStep.{Before, entered, left, heat_given, water_given, heat_to_land, water_to_land, heat_to_ice, water_to_ice}
use Rattle.cpl_state.specs.FastLaws.{CanStep, KeepsAll}
use Rattle.cpl_state.specs.SlowLaws.{CanSlowAll, KeepsSlow}
use Rattle.cpl_state.specs.Stocks.{held, held_within, flying_to_ocean}
use Rattle.cpl_state.specs.Budget.{sun_of_strength}
use Rattle.cpl_state.specs.CouplingStep.{taken, month_of, before, fast_by, after_fast, surface_after, over_fast_steps, step_entered, step_left}

-- the sun on all cells of the air in all fast steps of a coupling step
abbrev pub sun_of_step : Names → Whole → ℤ
sun_of_step names whole = pos names.fast *ℤ sun_of_strength (at names.rates.month (month_of names whole - 1)) whole.air_sun

-- A coupling step can be made from a lawful state of a grid that keeps its rules, where the totals of heat, with the sun of the
-- step, of water and of salt keep within 2^62 - 1.
pub record CanCouple (grid : Grid) (names : Names) (whole : Whole) : Type 0 where
  pub rules : IsGrid grid
  pub air : IsAirMesh grid.air
  pub are_names : AreNames names
  pub is_whole : IsWhole grid whole
  pub heat : (held grid whole quantity.Heat +ℤ sun_of_step names whole) ≤ℤ pos MOST_TOTAL
  pub water : held grid whole quantity.Water ≤ℤ pos MOST_TOTAL
  pub salt : held grid whole quantity.Salt ≤ℤ pos MOST_TOTAL

-- what the fast step of this number, from 0, goes by
abbrev pub fast_before : Grid → Names → Whole → ℕ → Before
fast_before grid names whole i = before grid names (month_of names whole) (fast_by i grid names (month_of names whole) (taken grid whole))

-- the numbers that only the ocean changes, and the sun
pub record IsSameSea (old new : Whole) : Type 0 where
  pub elapsed : new.elapsed ≡ old.elapsed
  pub sun : new.air_sun ≡ old.air_sun
  pub water : new.water ≡ old.water
  pub heat : new.heat ≡ old.heat
  pub salt : new.salt ≡ old.salt
  pub faces : new.faces ≡ old.faces

-- the state after this many of the fast steps of a coupling step
abbrev pub fast_state : Grid → Names → Whole → ℕ → Mid
fast_state grid names whole i = fast_by i grid names (month_of names whole) (taken grid whole)

-- A state within a coupling step is lawful, and what it holds is at most what the step began with, with the sun of the step.
pub record IsAmid (grid : Grid) (names : Names) (whole : Whole) (mid : Mid) : Type 0 where
  pub lawful : IsMid grid mid
  pub heat : held_within grid mid quantity.Heat ≤ℤ (held grid whole quantity.Heat +ℤ sun_of_step names whole)
  pub water : held_within grid mid quantity.Water ≤ℤ held grid whole quantity.Water
  pub salt : held_within grid mid quantity.Salt ≤ℤ held grid whole quantity.Salt

-- What the air, the land and the ice keep in a coupling step: each of its fast steps and its slow part can be made and keep all;
-- no more is held on the way than there was, with the sun; what was given was taken; and all that the state held, but what flew to
-- the ocean, is there after it, with the sun that entered, less what left to space.
pub record KeepsSurface (grid : Grid) (names : Names) (whole : Whole) : Type 0 where
  pub start : IsMid grid (taken grid whole)
  pub can_fast : (i : ℕ) → i < names.fast → CanStep (fast_before grid names whole i)
  pub fast : (i : ℕ) → i < names.fast → KeepsAll (fast_before grid names whole i)
  pub amid : (i : ℕ) → i ≤ names.fast → IsAmid grid names whole (fast_state grid names whole i)
  pub can_slow : CanSlowAll grid names.rates (after_fast grid names whole)
  pub slow : KeepsSlow grid names.rates (after_fast grid names whole)
  pub land_heat : over_fast_steps (λ s. heat_given s Land) grid names whole ≡ over_fast_steps heat_to_land grid names whole
  pub land_water : over_fast_steps (λ s. water_given s Land) grid names whole ≡ over_fast_steps water_to_land grid names whole
  pub ice_heat : over_fast_steps (λ s. heat_given s Ocean) grid names whole ≡ over_fast_steps heat_to_ice grid names whole
  pub ice_water : over_fast_steps (λ s. water_given s Ocean) grid names whole ≡ over_fast_steps water_to_ice grid names whole
  pub sun_entered : (pos 0 ≤ℤ step_entered grid names whole)
  pub within : step_entered grid names whole ≤ℤ sun_of_step names whole
  pub heat_left : pos 0 ≤ℤ step_left grid names whole
  pub after : IsWhole grid (surface_after grid names whole)
  pub same : IsSameSea whole (surface_after grid names whole)
  pub heat : held grid (surface_after grid names whole) quantity.Heat +ℤ flying_to_ocean grid whole quantity.Heat
      ≡ held grid whole quantity.Heat +ℤ step_entered grid names whole -ℤ step_left grid names whole
  pub water : held grid (surface_after grid names whole) quantity.Water +ℤ flying_to_ocean grid whole quantity.Water ≡ held grid whole quantity.Water
  pub salt : held grid (surface_after grid names whole) quantity.Salt +ℤ flying_to_ocean grid whole quantity.Salt ≡ held grid whole quantity.Salt
