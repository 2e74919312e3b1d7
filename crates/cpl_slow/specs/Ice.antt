-- The ice in lists, and its slow step cell by cell.
use Rattle.std.specs.Prelude.{◌≡◌, ◌≢◌, ℕ, ◌+◌, ◌*◌, ◌/◌, ◌%◌, ◌<◌, List, [], ◌∷◌, length, pos}
use Rattle.cpl_fixed.specs.Amounts.{at}
use Rattle.cpl_fixed.specs.declared.gain.Gain.{Gain}
use Rattle.cpl_fixed.specs.declared.limits.TheConstants.{PARTS}
use Rattle.cpl_fixed.specs.declared.rates.Rates.{Rates}
use Rattle.cpl_xgrid.specs.declared.grid.Grid.{Grid}
use Rattle.cpl_ice.specs.declared.cell.IceCell.{IceCell}
use Rattle.cpl_ice.specs.declared.parts.Salty.{Salty}
use Rattle.cpl_ice.specs.Cells.{IsIceCell}
use Rattle.cpl_ice.specs.Slow.{CanSlow}
use Rattle.cpl_state.specs.declared.whole.Whole.{Whole}
use Rattle.cpl_state.specs.declared.whole.Mid.{Mid}
use Rattle.cpl_state.specs.States.{IsOnOcean, categories, ice_cell, ocean_cells, of_cell, part_count}
use Rattle.cpl_state.specs.Slow.{for_each_place, returned_if_wet, slow_cell, to_ocean_number}
use Rattle.cpl_slow.specs.declared.ice.IceLists.{IceLists}
use Rattle.cpl_slow.specs.Blocks.{IsPartWay, IsPut}
use Rattle.cpl_slow.specs.Land.{gain_at}

-- a state with these lists of the ice
abbrev pub whole_with_ice : Whole → IceLists → Whole
whole_with_ice whole lists = record whole { parts = lists.parts.items; ice = lists.ice.items; ice_heat = lists.heat.items; to_ocean = lists.to_ocean.items }

abbrev pub with_ice : Mid → IceLists → Mid
with_ice mid lists = record mid { whole = whole_with_ice mid.whole lists }

-- the lists are those of a state
pub record HoldIce (whole : Whole) (lists : IceLists) : Type 0 where
  pub parts : lists.parts.items ≡ whole.parts
  pub ice : lists.ice.items ≡ whole.ice
  pub heat : lists.heat.items ≡ whole.ice_heat
  pub to_ocean : lists.to_ocean.items ≡ whole.to_ocean

-- the lists have a grid's lengths
pub record AreIceLists (grid : Grid) (lists : IceLists) : Type 0 where
  pub parts : length lists.parts.items ≡ part_count grid * ocean_cells grid
  pub ice : length lists.ice.items ≡ categories grid * ocean_cells grid
  pub heat : length lists.heat.items ≡ categories grid * ocean_cells grid
  pub to_ocean : length lists.to_ocean.items ≡ 3 * ocean_cells grid

-- skin and frazil are those of a lawful state
pub record AreSkins (grid : Grid) (mid : Mid) : Type 0 where
  pub skin_water : IsOnOcean grid mid.skin_water
  pub skin_heat : IsOnOcean grid mid.skin_heat
  pub skin_salt : IsOnOcean grid mid.skin_salt
  pub frazil_water : IsOnOcean grid mid.frazil_water
  pub frazil_heat : IsOnOcean grid mid.frazil_heat

-- cell n is open water alone, and there is neither ice nor heat in its categories nor frazil
pub record IsBare (width n : ℕ) (lists : IceLists) (mid : Mid) : Type 0 where
  pub open_water : at lists.parts.items (n * (width + 1)) ≡ PARTS
  pub ice : (k : ℕ) → k < width → of_cell width n k lists.ice.items ≡ pos 0
  pub heat : (k : ℕ) → k < width → of_cell width n k lists.heat.items ≡ pos 0
  pub frazil_water : at mid.frazil_water n ≡ pos 0
  pub frazil_heat : at mid.frazil_heat n ≡ pos 0

-- cell n stands in the lists, and the others as before; what flies to the ocean is as before
pub record IsCellPut (width n : ℕ) (cell : IceCell) (old new : IceLists) : Type 0 where
  pub parts : IsPut (n * (width + 1)) (width + 1) cell.parts old.parts.items new.parts.items
  pub ice : IsPut (n * width) width cell.ice old.ice.items new.ice.items
  pub heat : IsPut (n * width) width cell.heat old.heat.items new.heat.items
  pub to_ocean : new.to_ocean.items ≡ old.to_ocean.items

-- a cell with water is a cell of the ice that can slow with what arrives
abbrev pub CanSlowCell : IceCell → Gain → Type 0
CanSlowCell cell runoff = cell.area ≢ pos 0 → IsIceCell cell × CanSlow cell runoff

abbrev pub AllCanSlow : Grid → Mid → List Gain → Type 0
AllCanSlow grid mid arrived = (length arrived ≡ ocean_cells grid) × ((n : ℕ) → n < ocean_cells grid → CanSlowCell (ice_cell grid mid n) (gain_at arrived n))

-- cell n stands in the lists with what it gives back, and the others as before
pub record IsTurned (width n : ℕ) (cell : IceCell) (back : Salty) (old new : IceLists) : Type 0 where
  pub parts : IsPut (n * (width + 1)) (width + 1) cell.parts old.parts.items new.parts.items
  pub ice : IsPut (n * width) width cell.ice old.ice.items new.ice.items
  pub heat : IsPut (n * width) width cell.heat old.heat.items new.heat.items
  pub to_ocean : IsPut (n * 3) 3 (back.water ∷ back.heat ∷ back.salt ∷ []) old.to_ocean.items new.to_ocean.items

-- what cell n gives back
abbrev pub back_of : Grid → Rates → Mid → List Gain → ℕ → Salty
back_of grid rates mid arrived n = returned_if_wet rates (ice_cell grid mid n) (gain_at arrived n)

-- all cells are slowed
pub record AreSlowed (grid : Grid) (rates : Rates) (mid : Mid) (arrived : List Gain) (lists : IceLists) : Type 0 where
  pub parts : lists.parts.items ≡ for_each_place grid (part_count grid) (λ n k. at (slow_cell grid rates mid n).parts k)
  pub ice : lists.ice.items ≡ for_each_place grid (categories grid) (λ n k. at (slow_cell grid rates mid n).ice k)
  pub heat : lists.heat.items ≡ for_each_place grid (categories grid) (λ n k. at (slow_cell grid rates mid n).heat k)
  pub to_ocean : lists.to_ocean.items ≡ for_each_place grid 3 (λ n k. to_ocean_number (back_of grid rates mid arrived n) k)

-- the first n of them are
pub record AreSlowedTo (grid : Grid) (rates : Rates) (mid : Mid) (arrived : List Gain) (n : ℕ) (old new : IceLists) : Type 0 where
  pub lists : AreIceLists grid new
  pub parts : IsPartWay (n * part_count grid) (λ i. at (slow_cell grid rates mid (i / part_count grid)).parts (i % part_count grid)) old.parts.items new.parts.items
  pub ice : IsPartWay (n * categories grid) (λ i. at (slow_cell grid rates mid (i / categories grid)).ice (i % categories grid)) old.ice.items new.ice.items
  pub heat : IsPartWay (n * categories grid) (λ i. at (slow_cell grid rates mid (i / categories grid)).heat (i % categories grid)) old.heat.items new.heat.items
  pub to_ocean : IsPartWay (n * 3) (λ i. to_ocean_number (back_of grid rates mid arrived (i / 3)) (i % 3)) old.to_ocean.items new.to_ocean.items
