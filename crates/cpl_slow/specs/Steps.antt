-- The parts of the slow part: the land drains, then the ice slows.
use Rattle.std.specs.Prelude.{◌≡◌, ℕ, ◌*◌, ◌<◌, List, length}
use Rattle.cpl_fixed.specs.Amounts.{at}
use Rattle.cpl_fixed.specs.declared.gain.Gain.{Gain}
use Rattle.cpl_fixed.specs.declared.rates.Rates.{Rates}
use Rattle.cpl_xgrid.specs.declared.grid.Grid.{Grid}
use Rattle.cpl_land.specs.Land.{IsLandCell, dried}
use Rattle.cpl_state.specs.declared.whole.Whole.{Whole}
use Rattle.cpl_state.specs.declared.whole.Mid.{Mid}
use Rattle.cpl_state.specs.States.{categories, land_cell, land_cells, ocean_cells, part_count}
use Rattle.cpl_state.specs.FastStep.{for_each}
use Rattle.cpl_state.specs.Slow.{arrived, for_each_place, slow_cell, to_ocean_number}
use Rattle.cpl_state.specs.SlowLaws.{IsGainAmount}
use Rattle.cpl_slow.specs.Land.{gain_at}
use Rattle.cpl_slow.specs.Ice.{AreSkins, back_of}

-- the land's cells are in range, and so is what arrives in each cell of the ocean's mosaic
pub record CanDrain (grid : Grid) (rates : Rates) (whole : Whole) : Type 0 where
  pub heat_count : length whole.land_heat ≡ land_cells grid
  pub water_count : length whole.land_water ≡ land_cells grid
  pub cell : (n : ℕ) → n < land_cells grid → IsLandCell (land_cell grid whole n)
  pub arrival : (m : ℕ) → m < ocean_cells grid → IsGainAmount (arrived grid rates whole m)

-- the state whose land is drained
abbrev pub with_dry_land : Grid → Rates → Whole → Whole
with_dry_land grid rates whole = record whole {
  land_heat = for_each (land_cells grid) (λ n. (dried rates (land_cell grid whole n)).heat);
  land_water = for_each (land_cells grid) (λ n. (dried rates (land_cell grid whole n)).water);
}

-- what arrived in each cell of the ocean's mosaic stands in a list
pub record HasArrived (grid : Grid) (rates : Rates) (whole : Whole) (gains : List Gain) : Type 0 where
  pub count : length gains ≡ ocean_cells grid
  pub each : (m : ℕ) → m < ocean_cells grid → gain_at gains m ≡ arrived grid rates whole m

-- the state whose ice is slowed with what arrived
abbrev pub with_slow_ice : Grid → Rates → Mid → List Gain → Mid
with_slow_ice grid rates mid gains = record mid {
  whole = record mid.whole {
    parts = for_each_place grid (part_count grid) (λ n k. at (slow_cell grid rates mid n).parts k);
    ice = for_each_place grid (categories grid) (λ n k. at (slow_cell grid rates mid n).ice k);
    ice_heat = for_each_place grid (categories grid) (λ n k. at (slow_cell grid rates mid n).heat k);
    to_ocean = for_each_place grid 3 (λ n k. to_ocean_number (back_of grid rates mid gains n) k);
  };
}

-- the lists of the ice and of the flights have a grid's lengths, and skin and frazil are lawful
pub record HasIce (grid : Grid) (mid : Mid) : Type 0 where
  pub skins : AreSkins grid mid
  pub parts : length mid.whole.parts ≡ part_count grid * ocean_cells grid
  pub ice : length mid.whole.ice ≡ categories grid * ocean_cells grid
  pub ice_heat : length mid.whole.ice_heat ≡ categories grid * ocean_cells grid
  pub to_ocean : length mid.whole.to_ocean ≡ 3 * ocean_cells grid
