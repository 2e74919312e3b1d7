-- States none of whose amounts is negative or above what there may be in all: heats, waters and salts each by a total of their own.
use Rattle.std.specs.Prelude.{ℕ, ◌<◌, List, ℤ, pos, ◌≤ℤ◌, All}
use Rattle.cpl_fixed.specs.declared.words.Quantity.{Quantity}
use Rattle.cpl_fixed.specs.declared.words.Quantity.TheVariants.{Heat, Water, Salt}
use Rattle.cpl_ice.specs.declared.parts.Salty.{Salty}
use Rattle.cpl_ice.specs.declared.parts.ToIce.{ToIce}
use Rattle.cpl_xgrid.specs.declared.grid.Grid.{Grid}
use Rattle.cpl_state.specs.declared.whole.Whole.{Whole}
use Rattle.cpl_state.specs.declared.whole.Mid.{Mid}
use Rattle.cpl_state.specs.States.{ocean_cells, flight_to_ice, flight_to_ocean}
use Rattle.cpl_state.specs.Transport.{Sea}

-- from 0 to this total
abbrev pub IsUpTo : (total : ℤ) → ℤ → Type 0
IsUpTo total x = (pos 0 ≤ℤ x) × (x ≤ℤ total)

abbrev pub AreUpTo : (total : ℤ) → List ℤ → Type 0
AreUpTo total xs = All (IsUpTo total) xs

-- water with its heat and salt
pub record IsSaltyUpTo (total : Quantity → ℤ) (it : Salty) : Type 0 where
  pub water : IsUpTo (total Water) it.water
  pub heat : IsUpTo (total Heat) it.heat
  pub salt : IsUpTo (total Salt) it.salt

-- what flies to the ice of a cell
pub record IsFlightUpTo (total : Quantity → ℤ) (flight : ToIce) : Type 0 where
  pub frazil_water : IsUpTo (total Water) flight.frazil_water
  pub frazil_heat : IsUpTo (total Heat) flight.frazil_heat
  pub skin : IsSaltyUpTo total flight.skin

-- the ocean
pub record IsSeaUpTo (total : Quantity → ℤ) (sea : Sea) : Type 0 where
  pub water : AreUpTo (total Water) sea.water
  pub heat : AreUpTo (total Heat) sea.heat
  pub salt : AreUpTo (total Salt) sea.salt

-- a state
pub record IsWholeUpTo (total : Quantity → ℤ) (grid : Grid) (whole : Whole) : Type 0 where
  pub air_heat : AreUpTo (total Heat) whole.air_heat
  pub air_vapour : AreUpTo (total Water) whole.air_vapour
  pub land_heat : AreUpTo (total Heat) whole.land_heat
  pub land_water : AreUpTo (total Water) whole.land_water
  pub ice : AreUpTo (total Water) whole.ice
  pub ice_heat : AreUpTo (total Heat) whole.ice_heat
  pub water : AreUpTo (total Water) whole.water
  pub heat : AreUpTo (total Heat) whole.heat
  pub salt : AreUpTo (total Salt) whole.salt
  pub to_ice : (n : ℕ) → n < ocean_cells grid → IsFlightUpTo total (flight_to_ice whole n)
  pub to_ocean : (n : ℕ) → n < ocean_cells grid → IsSaltyUpTo total (flight_to_ocean whole n)

-- a state within a coupling step
pub record IsMidUpTo (total : Quantity → ℤ) (grid : Grid) (mid : Mid) : Type 0 where
  pub whole : IsWholeUpTo total grid mid.whole
  pub skin_water : AreUpTo (total Water) mid.skin_water
  pub skin_heat : AreUpTo (total Heat) mid.skin_heat
  pub skin_salt : AreUpTo (total Salt) mid.skin_salt
  pub frazil_water : AreUpTo (total Water) mid.frazil_water
  pub frazil_heat : AreUpTo (total Heat) mid.frazil_heat
