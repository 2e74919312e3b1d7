-- Made namelists: their text, and the names that it gives.
use Rattle.std.specs.Prelude.{ℕ, ◌*◌, List, [], ◌∷◌, ◌++◌, codes, decimal, replicate, pos}
use Rattle.std.specs.List.{flat_map}
use Rattle.cpl_fixed.specs.declared.rates.Rates.{Rates}
use Rattle.cpl_namelist.specs.declared.names.Names.{Names}

abbrev pub ended : List ℕ → List ℕ
ended line = line ++ 10 ∷ []

-- the text of a run of this many coupling steps of an hour, each of two steps of the air and two of the ocean
unfoldable pub names_text : (steps : ℕ) → List ℕ
names_text steps = flat_map ended
    (codes "&coupler_nml" ∷ codes " current_date = 2001,1,1,0,0,0" ∷ codes " calendar = 'gregorian'"
    ∷ (codes " seconds = " ++ decimal (3600 * steps))
    ∷ codes " dt_atmos = 1800" ∷ codes " dt_cpld = 3600" ∷ codes "/"
    ∷ codes "&ocean_nml" ∷ codes " dt_ocean = 1800" ∷ codes "/" ∷ [])

-- all rates are those of a namelist that names none
abbrev pub usual_rates : Rates
usual_rates = record {
  ca = pos 10;
  kh = pos 1024;
  ke = pos 4096;
  hs = pos 1000;
  ko = pos 1024;
  rc = pos 1;
  month = replicate 12 (pos 1000);
  cl = pos 10;
  cap = pos 10;
  land_albedo = pos 200;
  h0 = pos 100;
  bounds = pos 100 ∷ pos 200 ∷ pos 400 ∷ pos 800 ∷ [];
  ice_albedo = pos 600;
  water_albedo = pos 100;
  slope = 8;
  mix = 6;
}

-- what the text says
unfoldable pub made_names : (steps : ℕ) → Names
made_names steps = record {
  start = pos 2001 ∷ pos 1 ∷ pos 1 ∷ pos 0 ∷ pos 0 ∷ pos 0 ∷ [];
  fast = 2;
  ocean_steps = 2;
  steps = steps;
  dt = pos 3600;
  layouts = replicate 4 (1, 1);
  rates = usual_rates;
}
