-- What flows through an element in a fast step.
use Rattle.std.specs.Prelude.{◌≡◌, ℕ, ◌-◌, ◌*◌, ◌/◌, min, ℤ, pos, neg_ℤ, ◌-ℤ◌, ◌*ℤ◌, ◌≤ℤ◌}
use Rattle.cpl_fixed.specs.Division.{trunc, clamp}
use Rattle.cpl_fixed.specs.Ranges.{IsFromℤ}
use Rattle.cpl_fixed.specs.declared.limits.TheConstants.{MOST_AREA, MOST_TOTAL, VAPOUR_HEAT}
use Rattle.cpl_fixed.specs.declared.rates.Rates.{Rates}
use Rattle.cpl_flux.specs.declared.parts.AirSide.{AirSide}
use Rattle.cpl_flux.specs.declared.parts.Part.{Part}
use Rattle.cpl_flux.specs.declared.parts.Flux.{Flux}
use Rattle.cpl_flux.specs.declared.parts.Weather.{Weather}
use Rattle.cpl_flux.specs.declared.parts.Kind.{Kind}
use Rattle.cpl_flux.specs.declared.parts.Kind.TheVariants.{Ice}
use Rattle.cpl_flux.specs.Temperatures.{amount, weather, part_temperature}

-- a cell of the air
pub record IsAirSide (air : AirSide) : Type 0 where
  pub heat : IsFromℤ 0 MOST_TOTAL air.heat
  pub vapour : IsFromℤ 0 MOST_TOTAL air.vapour
  pub area : IsFromℤ 1 MOST_AREA air.area

-- a part of the surface
pub record IsPart (part : Part) : Type 0 where
  pub heat : IsFromℤ 0 MOST_TOTAL part.heat
  pub mass : IsFromℤ 0 MOST_TOTAL part.mass
  pub area : IsFromℤ 0 MOST_AREA part.area

-- the area of an element lies in the cell of the air and in the part
pub record IsElement (air : AirSide) (part : Part) (b : ℤ) : Type 0 where
  pub least : pos 0 ≤ℤ b
  pub in_air : b ≤ℤ air.area
  pub in_part : b ≤ℤ part.area

-- an eighth of what there is, for the area b of the whole
abbrev pub eighth : (there b whole : ℕ) → ℕ
eighth there b whole = there * b / (8 * whole)

-- the heat that the difference of the temperatures drives from the air to the part, before it is bounded
abbrev pub raw_heat : (kh b air part : ℕ) → ℤ
raw_heat kh b air part = trunc (pos (kh * b) *ℤ (pos air -ℤ pos part)) (pos 1_048_576)

-- the heat from the air to the part: either side gives at most an eighth of its heat
abbrev pub heat_flux : Rates → AirSide → Part → (b : ℤ) → (air_temperature part_temperature : ℕ) → ℤ
heat_flux rates air part b air_temperature part_temperature =
    clamp (raw_heat (amount rates.kh) (amount b) air_temperature part_temperature)
    (neg_ℤ (pos (eighth (amount part.heat) (amount b) (amount part.area))))
    (pos (eighth (amount air.heat) (amount b) (amount air.area)))

-- the humidity of air above water of this temperature that takes up no more
abbrev pub saturation : (temperature : ℕ) → ℕ
saturation temperature = (temperature - 240_000) / 100

-- what evaporates from land or open water: at most an eighth of its water, and what an eighth of its heat carries off
abbrev pub wet_evaporation : Rates → Part → (b : ℤ) → (dryness : ℕ) → ℕ
wet_evaporation rates part b dryness =
    min (min (amount rates.ke * amount b * dryness / 1_048_576) (eighth (amount part.mass) (amount b) (amount part.area)))
    (eighth (amount part.heat) (amount b) (amount VAPOUR_HEAT * amount part.area))

-- nothing evaporates from ice
abbrev pub evaporation : Kind → Rates → Part → (b : ℤ) → (humidity part_temperature : ℕ) → ℕ
evaporation Ice rates part b humidity part_temperature = 0
evaporation _ rates part b humidity part_temperature =
    wet_evaporation rates part b (saturation part_temperature - humidity)

-- what flows through the element of the area b, by the weather and the temperature of the part
abbrev pub element_between : Rates → AirSide → Weather → Part → ℕ → (b : ℤ) → Flux
element_between rates air weather part temperature b = record {
  heat = heat_flux rates air part b weather.temperature temperature;
  water = pos (evaporation part.kind rates part b weather.humidity temperature);
}

-- what flows through the element of the area b
abbrev pub element : Rates → AirSide → Part → (b : ℤ) → Flux
element rates air part b = element_between rates air (weather rates air) part (part_temperature rates part) b

-- what is given through the area b is at most an eighth of what there is on the whole, in the proportion of the areas
abbrev pub IsGiven : (there whole b given : ℤ) → Type 0
IsGiven there whole b given = (pos 8 *ℤ (whole *ℤ given)) ≤ℤ (there *ℤ b)

-- each flow of an element is at most an eighth of what its side has, in the proportion of the areas
pub record IsBounded (air : AirSide) (part : Part) (b : ℤ) (flux : Flux) : Type 0 where
  pub from_air : IsGiven air.heat air.area b flux.heat
  pub from_part : IsGiven part.heat part.area b (neg_ℤ flux.heat)
  pub vapour_heat : IsGiven part.heat part.area b (VAPOUR_HEAT *ℤ flux.water)
  pub water : IsGiven part.mass part.area b flux.water
  pub upward : pos 0 ≤ℤ flux.water
  pub dry_ice : part.kind ≡ Ice → flux.water ≡ pos 0
