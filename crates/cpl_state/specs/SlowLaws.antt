-- When the slow part of a coupling step can be made, and what it keeps.
use Rattle.std.specs.Prelude.{◌≡◌, ℕ, ◌<◌, pos, ◌≤ℤ◌, All}
use Rattle.cpl_fixed.specs.Amounts.{IsAmount}
use Rattle.cpl_fixed.specs.Ranges.{AreRates}
use Rattle.cpl_fixed.specs.Totals.{total_of}
use Rattle.cpl_fixed.specs.declared.limits.TheConstants.{MOST_TOTAL}
use Rattle.cpl_fixed.specs.declared.gain.Gain.{Gain}
use Rattle.cpl_fixed.specs.declared.rates.Rates.{Rates}
use Rattle.cpl_fixed.specs.declared.words.Quantity.TheVariants as quantity
use Rattle.cpl_land.specs.Land.{IsLandCell, dried}
use Rattle.cpl_ice.specs.Cells.{IsIceCell, IsSalty}
use Rattle.cpl_ice.specs.Slow.{CanSlow}
use Rattle.cpl_xgrid.specs.declared.grid.Grid.{Grid}
use Rattle.cpl_xgrid.specs.Grids.{IsGrid}
use Rattle.cpl_state.specs.declared.whole.Mid.{Mid}
use Rattle.cpl_state.specs.States.{land_cells, ocean_cells, land_cell, ice_cell, IsWet, IsMid, IsWhole, HasNoFlights}
use Rattle.cpl_state.specs.FastStep.{for_each}
use Rattle.cpl_state.specs.Stocks.{held, held_within}
use Rattle.cpl_state.specs.Slow.{runoff_of, arrived, returned_at, slow_after}

-- The slow part can be made from a lawful state of a grid that keeps its rules, where nothing flies and the totals keep within
-- 2^62 - 1.
pub record CanSlowAll (grid : Grid) (rates : Rates) (mid : Mid) : Type 0 where
  pub rules : IsGrid grid
  pub are_rates : AreRates rates
  pub is_mid : IsMid grid mid
  pub flights : HasNoFlights mid.whole
  pub heat : held_within grid mid quantity.Heat ≤ℤ pos MOST_TOTAL
  pub water : held_within grid mid quantity.Water ≤ℤ pos MOST_TOTAL
  pub salt : held_within grid mid quantity.Salt ≤ℤ pos MOST_TOTAL

-- heat and water in range
pub record IsGainAmount (gain : Gain) : Type 0 where
  pub heat : IsAmount gain.heat
  pub water : IsAmount gain.water

-- What the slow part keeps: all that runs off the land arrives in cells of the ocean's mosaic with an area, no number is negative
-- or above the greatest total, and nothing is made or lost.
pub record KeepsSlow (grid : Grid) (rates : Rates) (mid : Mid) : Type 0 where
  pub land : (n : ℕ) → n < land_cells grid → IsLandCell (land_cell grid mid.whole n)
  pub runoff : (n : ℕ) → n < land_cells grid → IsGainAmount (runoff_of grid rates mid.whole n)
  pub drained : (n : ℕ) → n < land_cells grid → IsLandCell (dried rates (land_cell grid mid.whole n))
  pub arrival : (n : ℕ) → n < ocean_cells grid → IsGainAmount (arrived grid rates mid.whole n)
  pub exchange_heat : total_of (for_each (land_cells grid) (λ n. (runoff_of grid rates mid.whole n).heat))
      ≡ total_of (for_each (ocean_cells grid) (λ n. (arrived grid rates mid.whole n).heat))
  pub exchange_water : total_of (for_each (land_cells grid) (λ n. (runoff_of grid rates mid.whole n).water))
      ≡ total_of (for_each (ocean_cells grid) (λ n. (arrived grid rates mid.whole n).water))
  pub ice : (n : ℕ) → IsWet grid.ocean n → IsIceCell (ice_cell grid mid n)
  pub can_slow : (n : ℕ) → IsWet grid.ocean n → CanSlow (ice_cell grid mid n) (arrived grid rates mid.whole n)
  pub returned : (n : ℕ) → n < ocean_cells grid → IsSalty (returned_at grid rates mid n)
  pub slowed_ice : All IsAmount (slow_after grid rates mid).ice
  pub slowed_heat : All IsAmount (slow_after grid rates mid).ice_heat
  pub after : IsWhole grid (slow_after grid rates mid)
  pub heat : held grid (slow_after grid rates mid) quantity.Heat ≡ held_within grid mid quantity.Heat
  pub water : held grid (slow_after grid rates mid) quantity.Water ≡ held_within grid mid quantity.Water
  pub salt : held grid (slow_after grid rates mid) quantity.Salt ≡ held_within grid mid quantity.Salt
