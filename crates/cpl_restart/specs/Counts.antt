-- How many numbers the sections of a restart have, as the reader has them.
use Rattle.std.specs.Prelude.{◌≡◌, ℕ, ◌≤◌, ◌^◌, List, [], ◌∷◌, length}
use Rattle.std.specs.List.{AllByRecursion}
use Rattle.cpl_xgrid.specs.declared.grid.Grid.{Grid}
use Rattle.cpl_restart.specs.RestartBytes.{counts_of}
use Rattle.cpl_restart.specs.declared.counts.Counts.{Counts}
use Rattle.cpl_state.specs.declared.whole.Whole.{Whole}

-- the counts section by section
abbrev pub counts_in : Counts → List ℕ
counts_in counts =
    counts.air ∷ counts.air ∷ counts.air ∷ counts.land ∷ counts.land ∷ counts.parts ∷ counts.ice ∷ counts.ice
    ∷ counts.water ∷ counts.water ∷ counts.water ∷ counts.faces ∷ counts.to_ice ∷ counts.to_ocean ∷ []

-- they are the grid's, and small
pub record AreCounts (grid : Grid) (counts : Counts) : Type 0 where
  pub are : counts_in counts ≡ counts_of grid
  pub small : AllByRecursion (λ n. n ≤ 2 ^ 24) (counts_in counts)

-- the lists of a state are short enough for indices of 32 bits
pub record AreShort (whole : Whole) : Type 0 where
  pub air_heat : length whole.air_heat ≤ 2 ^ 24
  pub air_vapour : length whole.air_vapour ≤ 2 ^ 24
  pub air_sun : length whole.air_sun ≤ 2 ^ 24
  pub land_heat : length whole.land_heat ≤ 2 ^ 24
  pub land_water : length whole.land_water ≤ 2 ^ 24
  pub parts : length whole.parts ≤ 2 ^ 24
  pub ice : length whole.ice ≤ 2 ^ 24
  pub ice_heat : length whole.ice_heat ≤ 2 ^ 24
  pub water : length whole.water ≤ 2 ^ 24
  pub heat : length whole.heat ≤ 2 ^ 24
  pub salt : length whole.salt ≤ 2 ^ 24
  pub faces : length whole.faces ≤ 2 ^ 24
  pub to_ice : length whole.to_ice ≤ 2 ^ 24
  pub to_ocean : length whole.to_ocean ≤ 2 ^ 24
