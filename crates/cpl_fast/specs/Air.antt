-- A cell of the air by the sums of the flows through its elements.
use Rattle.std.specs.Prelude.{ℕ, ◌-◌, ◌*◌, ◌/◌, ◌≤◌, min, List, length, ℤ, pos, ◌+ℤ◌, ◌-ℤ◌, ◌*ℤ◌, All}
use Rattle.cpl_fixed.specs.Amounts.{IsAmount, amount}
use Rattle.cpl_fixed.specs.Shares.{part_of}
use Rattle.cpl_fixed.specs.declared.limits.TheConstants.{MOST_EXCHANGE_CELLS, WATER_HEAT}
use Rattle.cpl_fixed.specs.declared.rates.Rates.{Rates}
use Rattle.cpl_mosaic.specs.Cells.{cell_of}
use Rattle.cpl_flux.specs.declared.parts.AirSide.{AirSide}
use Rattle.cpl_flux.specs.Elements.{IsAirSide}
use Rattle.cpl_xgrid.specs.Lists.{XGridLists}
use Rattle.cpl_xgrid.specs.Rows.{refs_of_air}
use Rattle.cpl_xgrid.specs.declared.parts.XRef.{XRef}
use Rattle.cpl_fast.specs.declared.air.Rained.{Rained}
use Rattle.cpl_fast.specs.declared.flows.Flow.{Flow}
use Rattle.cpl_fast.specs.declared.sums.FlowLists.{FlowLists}
use Rattle.cpl_fast.specs.declared.sums.Sums.{Sums}
use Rattle.cpl_fast.specs.Sums.{in_rows, net_heat, within}

-- the heat that it gives to space
abbrev pub space : Rates → AirSide → ℤ
space rates air = part_of air.heat rates.ko (pos 1_048_576)

-- its heat and vapour before it rains
abbrev pub warm : Rates → AirSide → Sums → ℤ
warm rates air sums = air.heat -ℤ net_heat sums -ℤ space rates air

abbrev pub moist : AirSide → Sums → ℤ
moist air sums = air.vapour +ℤ sums.water

-- its rain
abbrev pub rain_of : Rates → (area heat vapour : ℤ) → ℤ
rain_of rates area heat vapour =
    pos (min ((amount vapour - amount rates.rc * amount area) / 2) (amount heat / (8 * amount WATER_HEAT)))

abbrev pub rain : Rates → AirSide → Sums → ℤ
rain rates air sums = rain_of rates air.area (warm rates air sums) (moist air sums)

-- after it has rained
abbrev pub after_rain : (heat vapour rain space : ℤ) → Rained
after_rain heat vapour rain space = record { heat = heat -ℤ (WATER_HEAT *ℤ rain); vapour = vapour -ℤ rain; rain = rain; space = space }

abbrev pub rained : Rates → AirSide → Sums → Rained
rained rates air sums = after_rain (warm rates air sums) (moist air sums) (rain rates air sums) (space rates air)

-- the exchange cells of cell n
abbrev pub refs_at : XGridLists → ℕ → List XRef
refs_at xgrid n = refs_of_air xgrid.land_rows xgrid.ocean_rows (cell_of xgrid.air n)

-- the sums of its flows
unfoldable pub sums_at : XGridLists → FlowLists → ℕ → Sums
sums_at xgrid flows n = record {
  heat = in_rows flows (refs_at xgrid n) (λ (flow : Flow). flow.heat);
  water = in_rows flows (refs_at xgrid n) (λ (flow : Flow). flow.water);
  sun = in_rows flows (refs_at xgrid n) (λ (flow : Flow). flow.sun);
  rain = in_rows flows (refs_at xgrid n) (λ (flow : Flow). flow.rain);
}

unfoldable pub rained_at : Rates → XGridLists → AirSide → FlowLists → ℕ → Rained
rained_at rates xgrid air flows n = rained rates air (sums_at xgrid flows n)

-- the flows of cell n stand in their lists, and all is in range
pub record CanRain (rates : Rates) (xgrid : XGridLists) (air : AirSide) (flows : FlowLists) (n : ℕ) : Type 0 where
  pub range : IsAirSide air
  pub few : length (refs_at xgrid n) ≤ MOST_EXCHANGE_CELLS
  pub rows : All (within flows) (refs_at xgrid n)
  pub heat : IsAmount (warm rates air (sums_at xgrid flows n))
  pub vapour : IsAmount (moist air (sums_at xgrid flows n))
