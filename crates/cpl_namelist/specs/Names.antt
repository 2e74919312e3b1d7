-- The names that a text gives, or its first fault.
use Rattle.std.specs.Prelude.{ℕ, ◌+◌, ◌*◌, ◌/◌, ◌%◌, ℤ, pos, List, [], ◌∷◌, map, ◌&&◌, not, nat_lt, nat_le, ◌==◌, if◌then◌else◌, Option, Some, None, Result, Ok, Err}
use Rattle.std.specs.List.{range_with_len}
use Rattle.cpl_fixed.specs.declared.Rates.{Rates}
use Rattle.cpl_fixed.specs.declared.limits.TheConstants.{MOST_FAST_STEPS, MOST_OCEAN_STEPS, MOST_STEPS}
use Rattle.cpl_fixed.specs.Results.{◌>>=◌}
use Rattle.cpl_namelist.specs.declared.fault.NamesError.{NamesError}
use Rattle.cpl_namelist.specs.declared.fault.NamesError.TheVariants as fault
use Rattle.cpl_namelist.specs.declared.fault.StepFault.{StepFault}
use Rattle.cpl_namelist.specs.declared.fault.StepFault.TheVariants as step
use Rattle.cpl_namelist.specs.declared.fault.Required.{Required}
use Rattle.cpl_namelist.specs.declared.fault.Required.TheVariants as required
use Rattle.cpl_namelist.specs.declared.syntax.State.TheVariants.{Outside}
use Rattle.cpl_namelist.specs.declared.names.Names.{Names}
use Rattle.cpl_namelist.specs.declared.names.StepCounts.{StepCounts}
use Rattle.cpl_namelist.specs.declared.places.TheConstants as places
use Rattle.cpl_namelist.specs.Tokens.{tokens, last_line}
use Rattle.cpl_namelist.specs.Syntax.{syntax_fault}
use Rattle.cpl_namelist.specs.Settings.{Choices, is_given, number, nothing, judged}

-- the first so many numbers of the name at this place
unfoldable pub signed_numbers : Choices → ℕ → ℕ → List ℤ
signed_numbers chosen place count = map (λ k. pos (number chosen place k)) (range_with_len 0 count)

-- the number of the name at this place
abbrev pub signed : Choices → ℕ → ℤ
signed chosen place = pos (number chosen place 0)

-- px and py
abbrev pub layout_of : Choices → ℕ → ℕ × ℕ
layout_of chosen place = (number chosen place 0, number chosen place 1)

-- the rates, each from the name that it is called by
unfoldable pub rates_of : Choices → Rates
rates_of chosen = record {
  ca = signed chosen places.CA;
  kh = signed chosen places.KH;
  ke = signed chosen places.KE;
  hs = signed chosen places.HS;
  ko = signed chosen places.KO;
  rc = signed chosen places.RC;
  month = signed_numbers chosen places.MONTH 12;
  cl = signed chosen places.CL;
  cap = signed chosen places.CAP;
  land_albedo = signed chosen places.LAND_ALBEDO;
  h0 = signed chosen places.H0;
  bounds = signed_numbers chosen places.BOUNDS 4;
  ice_albedo = signed chosen places.ICE_ALBEDO;
  water_albedo = signed chosen places.WATER_ALBEDO;
  slope = number chosen places.SLOPE 0;
  mix = number chosen places.MIX 0;
}

-- ---- steps

-- how often a number goes into another, where it divides it
abbrev pub divided : ℕ → ℕ → Option ℕ
divided part whole = if nat_lt 0 part && whole % part == 0 then Some (whole / part) else None

-- a number, or the rule that is broken where it is not there
abbrev pub need : StepFault → Option ℕ → Result ℕ NamesError
need step None = Err (fault.Step step)
need step (Some n) = Ok n

-- a number up to a limit, or the rule that is broken
abbrev pub at_most : StepFault → ℕ → ℕ → Result ℕ NamesError
at_most step limit n = if nat_le n limit then Ok n else Err (fault.Step step)

-- the counts of steps, or the first rule that they break
abbrev pub steps_of : ℕ → ℕ → ℕ → ℕ → Result StepCounts NamesError
steps_of atmos cpld ocean run = do
  fast ← need step.Atmos (divided atmos cpld)
  slow ← need step.Ocean (divided ocean cpld)
  count ← need step.Run (divided cpld run)
  few ← at_most step.FastCount MOST_FAST_STEPS fast
  some ← at_most step.OceanCount MOST_OCEAN_STEPS slow
  steps ← at_most step.Count MOST_STEPS count
  Ok (record { fast = few; ocean = some; count = steps })

-- the seconds of the run
abbrev pub run_length : Choices → ℕ
run_length chosen =
    86400 * number chosen places.DAYS 0 + 3600 * number chosen places.HOURS 0 + 60 * number chosen places.MINUTES 0 + number chosen places.SECONDS 0

-- ---- the whole

-- the names without a default, in the order of the table
abbrev pub required_names : List (ℕ × Required)
required_names =
    (places.CURRENT_DATE, required.CurrentDate) ∷ (places.CALENDAR, required.Calendar)
    ∷ (places.DT_ATMOS, required.DtAtmos) ∷ (places.DT_CPLD, required.DtCpld) ∷ (places.DT_OCEAN, required.DtOcean) ∷ []

-- the first of them that is not given
abbrev pub first_missing : Choices → List (ℕ × Required) → Option Required
first_missing chosen [] = None
first_missing chosen (named ∷ others) = if not (is_given chosen named.0) then Some named.1 else first_missing chosen others

-- the first name without a default that is not given
abbrev pub missing : Choices → Option Required
missing chosen = first_missing chosen required_names

-- the fault of a missing name comes first
abbrev pub unless_missing : Option Required → Result Names NamesError → Result Names NamesError
unless_missing None names = names
unless_missing (Some required) names = Err (fault.Missing required)

-- what was given, or else the defaults
abbrev pub names_with : Choices → StepCounts → Names
names_with chosen steps = record {
  start = signed_numbers chosen places.CURRENT_DATE 6;
  fast = steps.fast;
  ocean_steps = steps.ocean;
  steps = steps.count;
  dt = signed chosen places.DT_CPLD;
  layouts = layout_of chosen places.ATMOS_LAYOUT ∷ layout_of chosen places.LAND_LAYOUT ∷ layout_of chosen places.ICE_LAYOUT ∷ layout_of chosen places.OCEAN_LAYOUT ∷ [];
  rates = rates_of chosen;
}

-- the names that are set so, or the first fault
unfoldable pub names_of : Choices → Result Names NamesError
names_of chosen =
    unless_missing (missing chosen)
    (steps_of (number chosen places.DT_ATMOS 0) (number chosen places.DT_CPLD 0) (number chosen places.DT_OCEAN 0) (run_length chosen)
    >>= λ steps. Ok (names_with chosen steps))

-- the fault of the order of tokens comes first
abbrev pub unless_syntax : Option ℕ → Result Names NamesError → Result Names NamesError
unless_syntax None names = names
unless_syntax (Some line) names = Err (fault.Syntax line)

-- the names that a text gives, or its first fault: the order of the tokens, then headings and assignments, then
-- missing names, then steps
unfoldable pub reading : List ℕ → Result Names NamesError
reading bytes = unless_syntax (syntax_fault (last_line bytes) Outside (tokens bytes)) (judged nothing (tokens bytes) >>= names_of)
