-- The slow part of a coupling step: the land's runoff, and the slow step of the ice.
use Rattle.std.specs.Prelude.{ℕ, ◌*◌, ◌/◌, ◌%◌, nat_lt, List, [], ◌∷◌, map, take, ℤ, pos, ◌+ℤ◌, slice_index_or, if◌then◌else◌}
use Rattle.std.specs.List.{filter}
use Rattle.cpl_fixed.specs.Amounts.{amount, at}
use Rattle.cpl_fixed.specs.Shares.{share}
use Rattle.cpl_fixed.specs.Totals.{total_of}
use Rattle.cpl_fixed.specs.declared.gain.Gain.{Gain}
use Rattle.cpl_fixed.specs.declared.rates.Rates.{Rates}
use Rattle.cpl_mosaic.specs.declared.parts.CellId.{CellId}
use Rattle.cpl_mosaic.specs.Sides.{is_same_cell}
use Rattle.cpl_mosaic.specs.Cells.{number_of, cell_of}
use Rattle.cpl_xgrid.specs.declared.grid.Grid.{Grid}
use Rattle.cpl_xgrid.specs.declared.parts.Outlet.{Outlet}
use Rattle.cpl_xgrid.specs.Rows.{numbers_of}
use Rattle.cpl_land.specs.Land.{dried, runoff}
use Rattle.cpl_ice.specs.declared.cell.IceCell.{IceCell}
use Rattle.cpl_ice.specs.declared.parts.Salty.{Salty}
use Rattle.cpl_ice.specs.Slow.{slowed, returned}
use Rattle.cpl_ice.specs.Cells.{nothing}
use Rattle.cpl_state.specs.declared.whole.Whole.{Whole}
use Rattle.cpl_state.specs.declared.whole.Mid.{Mid}
use Rattle.cpl_state.specs.States.{land_cells, ocean_cells, categories, part_count, land_cell, ice_cell}
use Rattle.cpl_state.specs.FastStep.{for_each}

-- RUNOFF

-- what would be read past the outlets
abbrev pub no_outlet : Outlet
no_outlet = record { land = record { tile = 0; i = 0; j = 0 }; ocean = record { tile = 0; i = 0; j = 0 }; weight = pos 0 }

abbrev pub outlet_at : Grid → ℕ → Outlet
outlet_at grid o = slice_index_or grid.xgrid.outlets o no_outlet

-- the number of the land cell that an outlet is of
unfoldable pub drained_cell : Grid → ℕ → ℕ
drained_cell grid o = number_of grid.land.mosaic.tiles (outlet_at grid o).land

-- the outlets of a land cell have these weights together
abbrev pub weights_of : CellId → List Outlet → ℤ
weights_of cell outlets = total_of (map (λ (outlet : Outlet). outlet.weight) (filter (λ (outlet : Outlet). is_same_cell outlet.land cell) outlets))

-- the weights of the outlets of the same land cell that come before one
unfoldable pub weight_before : Grid → ℕ → ℤ
weight_before grid o = weights_of (outlet_at grid o).land (take o grid.xgrid.outlets)

-- What an outlet has of an amount that is divided over all outlets of its land cell by their weights, in the order of the file:
-- the share between the weights before it and those with its own.
unfoldable pub outlet_share : Grid → (amount : ℤ) → ℕ → ℤ
outlet_share grid amount o =
    share amount (weight_before grid o) (weight_before grid o +ℤ (outlet_at grid o).weight) (weights_of (outlet_at grid o).land grid.xgrid.outlets)

-- what runs off cell n of the land
unfoldable pub runoff_of : Grid → Rates → Whole → ℕ → Gain
runoff_of grid rates whole n = runoff rates (land_cell grid whole n)

-- what an outlet brings
abbrev pub drain : Grid → Rates → Whole → ℕ → Gain
drain grid rates whole o = record {
  heat = outlet_share grid (runoff_of grid rates whole (drained_cell grid o)).heat o;
  water = outlet_share grid (runoff_of grid rates whole (drained_cell grid o)).water o;
}

-- the outlets that lead to cell n of the ocean's mosaic, in the order of the file
abbrev pub outlet_ocean : Outlet → CellId
outlet_ocean outlet = outlet.ocean

unfoldable pub outlets_to : Grid → ℕ → List ℕ
outlets_to grid n = numbers_of outlet_ocean (cell_of grid.ocean.mosaic.tiles n) grid.xgrid.outlets

-- what arrives in cell n of the ocean's mosaic
unfoldable pub arrived : Grid → Rates → Whole → ℕ → Gain
arrived grid rates whole n = record {
  heat = total_of (map (λ o. (drain grid rates whole o).heat) (outlets_to grid n));
  water = total_of (map (λ o. (drain grid rates whole o).water) (outlets_to grid n));
}

-- THE ICE

-- a cell of the ice after its slow step; a dry cell holds nothing and stays as it is
abbrev pub slowed_if_wet : Rates → IceCell → IceCell
slowed_if_wet rates cell = if nat_lt 0 (amount cell.area) then slowed rates cell else cell

unfoldable pub slow_cell : Grid → Rates → Mid → ℕ → IceCell
slow_cell grid rates mid n = slowed_if_wet rates (ice_cell grid mid n)

-- what a cell gives back to the ocean
abbrev pub returned_if_wet : Rates → IceCell → Gain → Salty
returned_if_wet rates cell gain = if nat_lt 0 (amount cell.area) then returned rates cell gain else nothing

unfoldable pub returned_at : Grid → Rates → Mid → ℕ → Salty
returned_at grid rates mid n = returned_if_wet rates (ice_cell grid mid n) (arrived grid rates mid.whole n)

-- THE STATE AFTER IT

-- a number for each place of each cell of the ocean's mosaic, the places of a cell in turn
abbrev pub for_each_place : Grid → (width : ℕ) → (ℕ → ℕ → ℤ) → List ℤ
for_each_place grid width f = for_each (width * ocean_cells grid) (λ i. f (i / width) (i % width))

-- a flight to the ocean as its numbers
abbrev pub to_ocean_number : Salty → ℕ → ℤ
to_ocean_number it k = at (it.water ∷ it.heat ∷ it.salt ∷ []) k

-- The state after the slow part: the land is drained, the ice slowed, and what it gives back flies to the ocean. Skin and frazil
-- are used up.
unfoldable pub slow_after : Grid → Rates → Mid → Whole
slow_after grid rates mid = record mid.whole {
  land_heat = for_each (land_cells grid) (λ n. (dried rates (land_cell grid mid.whole n)).heat);
  land_water = for_each (land_cells grid) (λ n. (dried rates (land_cell grid mid.whole n)).water);
  parts = for_each_place grid (part_count grid) (λ n k. at (slow_cell grid rates mid n).parts k);
  ice = for_each_place grid (categories grid) (λ n k. at (slow_cell grid rates mid n).ice k);
  ice_heat = for_each_place grid (categories grid) (λ n k. at (slow_cell grid rates mid n).heat k);
  to_ocean = for_each_place grid 3 (λ n k. to_ocean_number (returned_at grid rates mid n) k);
}
