-- The ranges that names keep.
use Rattle.std.specs.Prelude.{◌≡◌, ℕ, ◌*◌, ◌≤◌, List, Ok}
use Rattle.std.specs.List.{AllByRecursion}
pub use Rattle.cpl_fixed.specs.Ranges.{IsFrom, IsFromℤ, AreRates}
use Rattle.cpl_fixed.specs.declared.limits.TheConstants.{MOST_PIECES, MOST_FAST_STEPS, MOST_OCEAN_STEPS, MOST_STEPS}
use Rattle.cpl_namelist.specs.declared.names.Names.{Names}
use Rattle.cpl_namelist.specs.declared.places.TheConstants as places
use Rattle.cpl_namelist.specs.Tokens.{tokens}
use Rattle.cpl_namelist.specs.Settings.{Choices, nothing, judged, number}
use Rattle.cpl_namelist.specs.Names.{run_length}
use Rattle.cpl_namelist.specs.Civil.{IsStart}

-- pieces along x and y
abbrev pub IsLayout : ℕ × ℕ → Type 0
IsLayout layout = IsFrom 1 MOST_PIECES layout.0 × IsFrom 1 MOST_PIECES layout.1

-- the names are in their ranges
pub record AreNames (names : Names) : Type 0 where
  pub start : IsStart names.start
  pub fast : IsFrom 1 MOST_FAST_STEPS names.fast
  pub ocean_steps : IsFrom 1 MOST_OCEAN_STEPS names.ocean_steps
  pub steps : names.steps ≤ MOST_STEPS
  pub dt : IsFromℤ 1 2_678_400 names.dt
  pub layouts : AllByRecursion IsLayout names.layouts
  pub rates : AreRates names.rates

-- The numbers of time that a text gives are in their ranges, and the steps fill one another: those of the air and those of
-- the ocean fill a coupling step, and the coupling steps fill the run.
pub record FillTime (names : Names) (chosen : Choices) : Type 0 where
  pub days : IsFrom 0 1_000_000_000 (number chosen places.DAYS 0)
  pub hours : IsFrom 0 1_000_000_000 (number chosen places.HOURS 0)
  pub minutes : IsFrom 0 1_000_000_000 (number chosen places.MINUTES 0)
  pub seconds : IsFrom 0 1_000_000_000 (number chosen places.SECONDS 0)
  pub dt_atmos : IsFrom 1 2_678_400 (number chosen places.DT_ATMOS 0)
  pub dt_cpld : IsFrom 1 2_678_400 (number chosen places.DT_CPLD 0)
  pub dt_ocean : IsFrom 1 2_678_400 (number chosen places.DT_OCEAN 0)
  pub fast : names.fast * number chosen places.DT_ATMOS 0 ≡ number chosen places.DT_CPLD 0
  pub ocean : names.ocean_steps * number chosen places.DT_OCEAN 0 ≡ number chosen places.DT_CPLD 0
  pub run : names.steps * number chosen places.DT_CPLD 0 ≡ run_length chosen

-- what a text sets fills the time so
abbrev pub HasTimes : List ℕ → Names → Type 0
HasTimes bytes names = (chosen : Choices) → judged nothing (tokens bytes) ≡ Ok chosen → FillTime names chosen
