-- Stocks: what all cells hold of heat, of water and of salt, part by part of the model.
use Rattle.std.specs.Prelude.{ℤ, pos, ◌+ℤ◌}
use Rattle.cpl_fixed.specs.Totals.{total_of}
use Rattle.cpl_fixed.specs.declared.words.Quantity.{Quantity}
use Rattle.cpl_fixed.specs.declared.words.Quantity.TheVariants.{Heat, Water, Salt}
use Rattle.cpl_ice.specs.declared.parts.Salty.{Salty}
use Rattle.cpl_ice.specs.declared.parts.ToIce.{ToIce}
use Rattle.cpl_xgrid.specs.declared.grid.Grid.{Grid}
use Rattle.cpl_state.specs.declared.whole.Whole.{Whole}
use Rattle.cpl_state.specs.declared.whole.Mid.{Mid}
use Rattle.cpl_state.specs.States.{ocean_cells, flight_to_ice, flight_to_ocean}
use Rattle.cpl_state.specs.FastStep.{for_each}

-- heat, water or salt
abbrev pub quantity_of : Quantity → Salty → ℤ
quantity_of Heat it = it.heat
quantity_of Water it = it.water
quantity_of Salt it = it.salt

-- frazil and skin together
abbrev pub whole_flight : ToIce → Salty
whole_flight flight = record {
  water = flight.frazil_water +ℤ flight.skin.water;
  heat = flight.frazil_heat +ℤ flight.skin.heat;
  salt = flight.skin.salt;
}

-- what the parts of the model hold of a quantity
pub record Stocks : Type 0 where
  pub air : ℤ
  pub land : ℤ
  pub ice : ℤ
  pub ocean : ℤ
  pub to_ice : ℤ
  pub to_ocean : ℤ

-- what flies to the ice, frazil and skin together, and what flies to the ocean
abbrev pub flying_to_ice : Grid → Whole → Quantity → ℤ
flying_to_ice grid whole quantity = total_of (for_each (ocean_cells grid) (λ n. quantity_of quantity (whole_flight (flight_to_ice whole n))))

abbrev pub flying_to_ocean : Grid → Whole → Quantity → ℤ
flying_to_ocean grid whole quantity = total_of (for_each (ocean_cells grid) (λ n. quantity_of quantity (flight_to_ocean whole n)))

-- the stocks of a state; neither air nor land nor ice has salt
unfoldable pub stocks_of : Grid → Whole → Quantity → Stocks
stocks_of grid whole Heat = record {
  air = total_of whole.air_heat;
  land = total_of whole.land_heat;
  ice = total_of whole.ice_heat;
  ocean = total_of whole.heat;
  to_ice = flying_to_ice grid whole Heat;
  to_ocean = flying_to_ocean grid whole Heat;
}
stocks_of grid whole Water = record {
  air = total_of whole.air_vapour;
  land = total_of whole.land_water;
  ice = total_of whole.ice;
  ocean = total_of whole.water;
  to_ice = flying_to_ice grid whole Water;
  to_ocean = flying_to_ocean grid whole Water;
}
stocks_of grid whole Salt = record {
  air = pos 0;
  land = pos 0;
  ice = pos 0;
  ocean = total_of whole.salt;
  to_ice = flying_to_ice grid whole Salt;
  to_ocean = flying_to_ocean grid whole Salt;
}

-- all of them together
abbrev pub sum_of_stocks : Stocks → ℤ
sum_of_stocks stocks = stocks.air +ℤ stocks.land +ℤ stocks.ice +ℤ stocks.ocean +ℤ stocks.to_ice +ℤ stocks.to_ocean

abbrev pub held : Grid → Whole → Quantity → ℤ
held grid whole quantity = sum_of_stocks (stocks_of grid whole quantity)

-- what the skins of a coupling step hold, and the frazil
abbrev pub held_by_skin : Mid → Quantity → ℤ
held_by_skin mid Heat = total_of mid.skin_heat +ℤ total_of mid.frazil_heat
held_by_skin mid Water = total_of mid.skin_water +ℤ total_of mid.frazil_water
held_by_skin mid Salt = total_of mid.skin_salt

-- all that a state within a coupling step holds
abbrev pub held_within : Grid → Mid → Quantity → ℤ
held_within grid mid quantity = held grid mid.whole quantity +ℤ held_by_skin mid quantity
