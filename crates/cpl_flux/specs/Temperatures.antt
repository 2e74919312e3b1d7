-- Temperatures in millikelvin, and humidity.
use Rattle.std.specs.Prelude.{◌≡◌, ℕ, ◌+◌, ◌-◌, ◌*◌, ◌/◌, ◌==◌, min, if◌then◌else◌}
pub use Rattle.cpl_fixed.specs.Amounts.{amount}
use Rattle.cpl_fixed.specs.declared.limits.TheConstants.{VAPOUR_HEAT, MELT_HEAT}
use Rattle.cpl_fixed.specs.declared.rates.Rates.{Rates}
use Rattle.cpl_flux.specs.declared.parts.AirSide.{AirSide}
use Rattle.cpl_flux.specs.declared.parts.Part.{Part}
use Rattle.cpl_flux.specs.declared.parts.Weather.{Weather}
use Rattle.cpl_flux.specs.declared.parts.Kind.{Kind}
use Rattle.cpl_flux.specs.declared.parts.Kind.TheVariants.{Land, Water, Ice}
use Rattle.cpl_flux.specs.declared.temperatures.TheConstants.{FREEZING, HOTTEST, MOST_HUMIDITY}

-- what the heat gives in millikelvin where each kelvin takes the capacity: at most 400000, and freezing where there is no capacity
abbrev pub temperature : (heat capacity : ℕ) → ℕ
temperature heat capacity = if capacity == 0 then FREEZING else min (1_000 * heat / capacity) HOTTEST

-- the heat of a cell of the air beyond that of its vapour, over its area
abbrev pub air_temperature : Rates → AirSide → ℕ
air_temperature rates air =
    temperature (amount air.heat - amount VAPOUR_HEAT * amount air.vapour) (amount rates.ca * amount air.area)

-- land: the heat, over the area and the water
abbrev pub land_temperature : Rates → Part → ℕ
land_temperature rates part = temperature (amount part.heat) (amount rates.cl * amount part.area + 4 * amount part.mass)

-- open water: the heat beyond that of melting, over the water
abbrev pub water_temperature : Part → ℕ
water_temperature part = temperature (amount part.heat - amount MELT_HEAT * amount part.mass) (4 * amount part.mass)

-- ice: the heat over the ice, at most freezing
abbrev pub ice_temperature : Part → ℕ
ice_temperature part = min FREEZING (temperature (amount part.heat) (4 * amount part.mass))

abbrev pub temperature_by : Rates → Part → Kind → ℕ
temperature_by rates part Land = land_temperature rates part
temperature_by rates part Water = water_temperature part
temperature_by rates part Ice = ice_temperature part

-- the temperature of a part of the surface
abbrev pub part_temperature : Rates → Part → ℕ
part_temperature rates part = temperature_by rates part part.kind

-- the vapour of a cell of the air over its area, by the rate hs, at most 1600
abbrev pub humidity : Rates → AirSide → ℕ
humidity rates air = min (amount air.vapour * amount rates.hs / amount air.area) MOST_HUMIDITY

-- what is worked out once for a cell of the air
abbrev pub weather : Rates → AirSide → Weather
weather rates air = record { temperature = air_temperature rates air; humidity = humidity rates air }

-- freezing and the ends of what is served, each by its number: millikelvin, and thousandths of humidity
pub record AreTemperatures : Type 0 where
  pub freezing : FREEZING ≡ 273_000
  pub hottest : HOTTEST ≡ 400_000
  pub humid : MOST_HUMIDITY ≡ 1_600
