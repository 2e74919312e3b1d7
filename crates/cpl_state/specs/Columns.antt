-- The columns of the two tables cell by cell: what each cell holds, what of it flies, and what it gave and took in a coupling step.
use Rattle.std.specs.Prelude.{ℕ, List, [], ◌∷◌, ◌++◌, ℤ, pos, ◌+ℤ◌}
use Rattle.cpl_fixed.specs.Amounts.{at}
use Rattle.cpl_fixed.specs.Totals.{total_of}
use Rattle.cpl_fixed.specs.declared.words.Quantity.{Quantity}
use Rattle.cpl_fixed.specs.declared.words.Quantity.TheVariants.{Heat, Water, Salt}
use Rattle.cpl_namelist.specs.declared.names.Names.{Names}
use Rattle.cpl_xgrid.specs.declared.grid.Grid.{Grid}
use Rattle.cpl_xgrid.specs.declared.parts.Surface.{Surface}
use Rattle.cpl_xgrid.specs.declared.parts.Surface.TheVariants.{Land, Ocean}
use Rattle.cpl_state.specs.declared.whole.Whole.{Whole}
use Rattle.cpl_state.specs.States.{air_cells, land_cells, ocean_cells, layers, categories, all_of_cell, column_of, flight_to_ice, flight_to_ocean}
use Rattle.cpl_state.specs.Elements.{refs_of_air_cell, refs_between, over_all}
use Rattle.cpl_state.specs.FastStep.{Before, for_each, absorbed, to_space, heat_taken, water_taken, land_taken, skin_taken, category_taken}
use Rattle.cpl_state.specs.Stocks.{Stocks, quantity_of, whole_flight}
use Rattle.cpl_state.specs.Cut.{cut_at}
use Rattle.cpl_state.specs.CouplingStep.{added_at, fresh, over_fast_steps, over_ice, sea_after, step_arrived, step_returned, step_runoff, taken}

-- the sum of a column over so many cells
abbrev pub over_cells : (cells : ℕ) → (ℕ → ℤ) → ℤ
over_cells cells column = total_of (for_each cells column)

-- the same of heat, water and salt
abbrev pub over_quantities : (cells : ℕ) → (Quantity → ℕ → ℤ) → List ℤ
over_quantities cells column = over_cells cells (column Heat) ∷ over_cells cells (column Water) ∷ over_cells cells (column Salt) ∷ []

-- STOCKS

-- what cell n of the air holds, and of the land
abbrev pub air_stock : Whole → Quantity → (n : ℕ) → ℤ
air_stock whole Heat n = at whole.air_heat n
air_stock whole Water n = at whole.air_vapour n
air_stock whole Salt n = pos 0

abbrev pub land_stock : Whole → Quantity → (n : ℕ) → ℤ
land_stock whole Heat n = at whole.land_heat n
land_stock whole Water n = at whole.land_water n
land_stock whole Salt n = pos 0

-- what all categories of cell n of the ocean's mosaic hold, and all its layers
abbrev pub ice_stock : Grid → Whole → Quantity → (n : ℕ) → ℤ
ice_stock grid whole Heat n = total_of (all_of_cell (categories grid) n whole.ice_heat)
ice_stock grid whole Water n = total_of (all_of_cell (categories grid) n whole.ice)
ice_stock grid whole Salt n = pos 0

abbrev pub ocean_stock : Grid → Whole → Quantity → (n : ℕ) → ℤ
ocean_stock grid whole Heat n = total_of (column_of (layers grid) (ocean_cells grid) n whole.heat)
ocean_stock grid whole Water n = total_of (column_of (layers grid) (ocean_cells grid) n whole.water)
ocean_stock grid whole Salt n = total_of (column_of (layers grid) (ocean_cells grid) n whole.salt)

-- what flies from cell n of the ocean to its ice, and from its ice to the ocean
abbrev pub to_ice_stock : Whole → Quantity → (n : ℕ) → ℤ
to_ice_stock whole quantity n = quantity_of quantity (whole_flight (flight_to_ice whole n))

abbrev pub to_ocean_stock : Whole → Quantity → (n : ℕ) → ℤ
to_ocean_stock whole quantity n = quantity_of quantity (flight_to_ocean whole n)

-- the stocks as sums over cells
abbrev pub stocks_by_cells : Grid → Whole → Quantity → Stocks
stocks_by_cells grid whole quantity = record {
  air = over_cells (air_cells grid) (air_stock whole quantity);
  land = over_cells (land_cells grid) (land_stock whole quantity);
  ice = over_cells (ocean_cells grid) (ice_stock grid whole quantity);
  ocean = over_cells (ocean_cells grid) (ocean_stock grid whole quantity);
  to_ice = over_cells (ocean_cells grid) (to_ice_stock whole quantity);
  to_ocean = over_cells (ocean_cells grid) (to_ocean_stock whole quantity);
}

-- FAST STEPS

-- the sun that the surface below cell n of the air absorbs in a fast step, and the heat that the cell gives to space
abbrev pub air_entered : (n : ℕ) → Before → ℤ
air_entered n s = over_all s.grid (absorbed s) (refs_of_air_cell s.grid n)

abbrev pub air_left : (n : ℕ) → Before → ℤ
air_left n s = to_space s n

-- what cell n of the air gives to the land or to the ice in a fast step
abbrev pub air_gives : Surface → Quantity → (n : ℕ) → Before → ℤ
air_gives list Heat n s = over_all s.grid (heat_taken s) (refs_between s.grid list n)
air_gives list Water n s = over_all s.grid (water_taken s) (refs_between s.grid list n)
air_gives list Salt n s = pos 0

-- what cell n of the land takes, and what skin and categories of cell n of the ocean's mosaic take
abbrev pub land_takes : Quantity → (n : ℕ) → Before → ℤ
land_takes Heat n s = (land_taken s n).heat
land_takes Water n s = (land_taken s n).water
land_takes Salt n s = pos 0

abbrev pub ice_takes : Quantity → (n : ℕ) → Before → ℤ
ice_takes Heat n s = (skin_taken s n).heat +ℤ total_of (for_each (categories s.grid) (category_taken s n))
ice_takes Water n s = (skin_taken s n).water
ice_takes Salt n s = pos 0

-- A COUPLING STEP

-- the sun that entered through cell n of the air, and the heat that left through it
abbrev pub entered_at : Grid → Names → Whole → (n : ℕ) → ℤ
entered_at grid names whole n = over_fast_steps (air_entered n) grid names whole

abbrev pub left_at : Grid → Names → Whole → (n : ℕ) → ℤ
left_at grid names whole n = over_fast_steps (air_left n) grid names whole

-- what a cell gave: of the air to the land or to the ice, of the land to the ice, of the ocean to the ice, of the ice to the ocean
abbrev pub air_gave : Grid → Names → Whole → Surface → Quantity → (n : ℕ) → ℤ
air_gave grid names whole list quantity n = over_fast_steps (air_gives list quantity n) grid names whole

abbrev pub land_gave : Grid → Names → Whole → Quantity → (n : ℕ) → ℤ
land_gave grid names whole quantity n = quantity_of quantity (fresh (step_runoff grid names whole n))

abbrev pub ocean_gave : Grid → Names → Whole → Quantity → (n : ℕ) → ℤ
ocean_gave grid names whole quantity n = quantity_of quantity (whole_flight (cut_at grid.ocean (sea_after grid names whole) n))

abbrev pub ice_gave : Grid → Names → Whole → Quantity → (n : ℕ) → ℤ
ice_gave grid names whole quantity n = quantity_of quantity (step_returned grid names whole n)

-- what a cell took: of the land from the air, of the ice from the air, from the land and from the ocean, of the ocean from the ice
abbrev pub land_took : Grid → Names → Whole → Quantity → (n : ℕ) → ℤ
land_took grid names whole quantity n = over_fast_steps (land_takes quantity n) grid names whole

abbrev pub ice_took_of_air : Grid → Names → Whole → Quantity → (n : ℕ) → ℤ
ice_took_of_air grid names whole quantity n = over_fast_steps (ice_takes quantity n) grid names whole

abbrev pub ice_took_of_land : Grid → Names → Whole → Quantity → (n : ℕ) → ℤ
ice_took_of_land grid names whole quantity n = quantity_of quantity (fresh (step_arrived grid names whole n))

abbrev pub ice_took_of_ocean : Grid → Whole → Quantity → (n : ℕ) → ℤ
ice_took_of_ocean grid whole quantity n = quantity_of quantity (over_ice (taken grid whole) n)

abbrev pub ocean_took : Grid → Whole → Quantity → (n : ℕ) → ℤ
ocean_took grid whole quantity n = quantity_of quantity (added_at grid whole n)

-- what was given and what was taken in the five exchanges, as sums over the giver's and the taker's cells
unfoldable pub gave_by_cells : Grid → Names → Whole → List ℤ
gave_by_cells grid names whole =
    over_quantities (air_cells grid) (air_gave grid names whole Land)
    ++ over_quantities (air_cells grid) (air_gave grid names whole Ocean)
    ++ over_quantities (land_cells grid) (land_gave grid names whole)
    ++ over_quantities (ocean_cells grid) (ocean_gave grid names whole)
    ++ over_quantities (ocean_cells grid) (ice_gave grid names whole)

unfoldable pub took_by_cells : Grid → Names → Whole → List ℤ
took_by_cells grid names whole =
    over_quantities (land_cells grid) (land_took grid names whole)
    ++ over_quantities (ocean_cells grid) (ice_took_of_air grid names whole)
    ++ over_quantities (ocean_cells grid) (ice_took_of_land grid names whole)
    ++ over_quantities (ocean_cells grid) (ice_took_of_ocean grid whole)
    ++ over_quantities (ocean_cells grid) (ocean_took grid whole)
