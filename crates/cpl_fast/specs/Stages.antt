-- How far a fast step has come: what stands in its room.
use Rattle.std.specs.Prelude.{◌≡◌, ℕ, ◌*◌, ◌^◌, ◌<◌, ◌≤◌, List, length, ℤ, pos}
use Rattle.cpl_fixed.specs.declared.limits.TheConstants.{MOST_CELLS}
use Rattle.cpl_mosaic.specs.Mates.{MatesAgree}
use Rattle.cpl_xgrid.specs.declared.parts.XRef.{XRef}
use Rattle.cpl_xgrid.specs.declared.parts.Surface.{Surface}
use Rattle.cpl_xgrid.specs.declared.parts.Surface.TheVariants.{Land, Ocean}
use Rattle.cpl_xgrid.specs.Rows.{rows_of}
use Rattle.cpl_laws.specs.Once.{IsNumbered, over_list}
use Rattle.cpl_state.specs.declared.whole.Mid.{Mid}
use Rattle.cpl_state.specs.States.{air_cells, land_cells, ocean_cells}
use Rattle.cpl_state.specs.Elements.{element_count, over_elements}
use Rattle.cpl_state.specs.FastStep.{Before, heat_down, water_up, absorbed, heat_after_rain, vapour_after_rain, rain, air_heat_after, air_vapour_after, land_after, skin_after, category_heat_after, heat_given, water_given, heat_to_land, water_to_land, heat_to_ice, water_to_ice, for_each, for_each_category}
use Rattle.cpl_state.specs.FastLaws.{CanStep, KeepsAll}
use Rattle.cpl_fast.specs.declared.flows.Flow.{Flow}
use Rattle.cpl_fast.specs.declared.room.FastRoom.{FastRoom}
use Rattle.cpl_fast.specs.declared.stages.Flown.{Flown}
use Rattle.cpl_fast.specs.declared.stages.View.{View}
use Rattle.cpl_fast.specs.declared.sums.Sums.{Sums}
use Rattle.cpl_fast.specs.declared.sums.Taken.{Taken}
use Rattle.cpl_fast.specs.Filled.{AreTables, AreSkies}
use Rattle.cpl_fast.specs.Flows.{flow_at}
use Rattle.cpl_fast.specs.Places.{place_in}
use Rattle.cpl_fast.specs.Rooms.{IsDivided}
use Rattle.cpl_fast.specs.Sums.{AreSmall}

-- the step that a view is of
abbrev pub step_of : View → Before
step_of view = record { grid = view.grid.now; rates = view.rates.now; month = view.month; mid = view.mid.now }

-- a step that can be made, on a grid of so many cells at most, which have their numbers, and what it keeps
pub record IsLawful (s : Before) : Type 0 where
  pub airs : air_cells s.grid ≤ MOST_CELLS
  pub lands : land_cells s.grid ≤ MOST_CELLS
  pub oceans : ocean_cells s.grid ≤ MOST_CELLS
  pub numbers : IsNumbered s.grid
  pub mates : MatesAgree s.grid.air.mosaic
  pub can : CanStep s
  pub keeps : KeepsAll s

-- room in which the tables of the state before the step stand
pub record IsSeen (s : Before) (fast : FastRoom) : Type 0 where
  pub lawful : IsLawful s
  pub room : IsDivided s fast
  pub land : AreTables s Land fast.land
  pub ocean : AreTables s Ocean fast.ocean
  pub skies : AreSkies s fast.skies.items

-- what flows through an element, where this rains on it
abbrev pub flow_of : Before → (wet : XRef → ℕ → ℤ) → XRef → ℕ → Flow
flow_of s wet ref k = record { heat = heat_down s ref k; water = water_up s ref k; sun = absorbed s ref k; rain = wet ref k }

-- no rain
abbrev pub dry : XRef → ℕ → ℤ
dry ref k = pos 0

-- the flows of all elements of a list, part by part
pub record AreFlows (s : Before) (wet : XRef → ℕ → ℤ) (list : Surface) (flows : List Flow) : Type 0 where
  pub count : length flows ≡ length (rows_of s.grid.xgrid list) * element_count s.grid list
  pub each : (m k : ℕ) → m < length (rows_of s.grid.xgrid list) → k < element_count s.grid list
      → flow_at flows (place_in (length (rows_of s.grid.xgrid list)) m k) ≡ flow_of s wet (record { list = list; row = m }) k

-- room in which the flows of all elements stand
pub record HasFlows (s : Before) (wet : XRef → ℕ → ℤ) (room : FastRoom) : Type 0 where
  pub seen : IsSeen s room
  pub land : AreFlows s wet Land room.land_flows.items
  pub ocean : AreFlows s wet Ocean room.ocean_flows.items

-- the sum over all elements of a list
abbrev pub over_rows : Before → Surface → (XRef → ℕ → ℤ) → ℤ
over_rows s list f = over_list list (rows_of s.grid.xgrid list) (over_elements s.grid f)

-- the sums of the flows of all elements of a list, where this rains on them
abbrev pub sums_of : Before → (wet : XRef → ℕ → ℤ) → Surface → Sums
sums_of s wet list = record { heat = over_rows s list (heat_down s); water = over_rows s list (water_up s); sun = over_rows s list (absorbed s); rain = over_rows s list wet }

-- what flowed through all elements, before it rained
pub record IsFlown (s : Before) (flown : Flown) : Type 0 where
  pub land : flown.land ≡ sums_of s dry Land
  pub ocean : flown.ocean ≡ sums_of s dry Ocean
  pub land_small : AreSmall (2 ^ 30) flown.land
  pub ocean_small : AreSmall (2 ^ 30) flown.ocean

-- room in which the cells of the air have given and taken, and have rained
pub record HasRained (s : Before) (room : FastRoom) : Type 0 where
  pub heat : room.air_heat.items ≡ for_each (air_cells s.grid) (heat_after_rain s)
  pub vapour : room.air_vapour.items ≡ for_each (air_cells s.grid) (vapour_after_rain s)
  pub rain : room.rain.items ≡ for_each (air_cells s.grid) (rain s)

-- room with the air after the step
pub record HasAir (s : Before) (room : FastRoom) : Type 0 where
  pub heat : room.air_heat.items ≡ air_heat_after s
  pub vapour : room.air_vapour.items ≡ air_vapour_after s

-- a state with the land after the step
pub record HasLand (s : Before) (mid : Mid) : Type 0 where
  pub heat : mid.whole.land_heat ≡ for_each (land_cells s.grid) (λ n. (land_after s n).heat)
  pub water : mid.whole.land_water ≡ for_each (land_cells s.grid) (λ n. (land_after s n).water)

-- a state with the skins and the categories after the step
pub record HasIce (s : Before) (mid : Mid) : Type 0 where
  pub ice : mid.whole.ice_heat ≡ for_each_category s.grid (category_heat_after s)
  pub heat : mid.skin_heat ≡ for_each (ocean_cells s.grid) (λ n. (skin_after s n).heat)
  pub water : mid.skin_water ≡ for_each (ocean_cells s.grid) (λ n. (skin_after s n).water)

-- what the cells of the air gave to the elements of a list, and what the land and the ice took
abbrev pub given : Before → Surface → Taken
given s list = record { heat = heat_given s list; water = water_given s list }

abbrev pub to_land : Before → Taken
to_land s = record { heat = heat_to_land s; water = water_to_land s }

abbrev pub to_ice : Before → Taken
to_ice s = record { heat = heat_to_ice s; water = water_to_ice s }

-- a state whose air is that of the room
abbrev pub with_air : Mid → FastRoom → Mid
with_air mid room = record mid { whole = record mid.whole { air_heat = room.air_heat.items; air_vapour = room.air_vapour.items } }

-- room that has the air of a state
pub record HoldsAir (mid : Mid) (room : FastRoom) : Type 0 where
  pub heat : room.air_heat.items ≡ mid.whole.air_heat
  pub vapour : room.air_vapour.items ≡ mid.whole.air_vapour

-- two states that differ in the land alone
abbrev pub HasOtherLand : (old new : Mid) → Type 0
HasOtherLand old new = new ≡ record old { whole = record old.whole { land_heat = new.whole.land_heat; land_water = new.whole.land_water } }

-- two states that differ in skins and categories alone
abbrev pub HasOtherIce : (old new : Mid) → Type 0
HasOtherIce old new = new ≡ record old { whole = record old.whole { ice_heat = new.whole.ice_heat }; skin_water = new.skin_water; skin_heat = new.skin_heat }

-- two rooms that differ in the lists alone which hold the land and the ice while they take what flowed
abbrev pub HasOtherSurface : (old new : FastRoom) → Type 0
HasOtherSurface old new = new ≡ record old {
  land_heat = new.land_heat;
  land_water = new.land_water;
  ice_heat = new.ice_heat;
  skin_water = new.skin_water;
  skin_heat = new.skin_heat;
}
