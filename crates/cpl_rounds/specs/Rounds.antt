-- The rounds of a run: what the cells of each component hold after each of its rounds of a coupling step, by the functions of the
-- undivided run. The air has two rounds in each fast step, one up to the rain and one that diffuses it. The land has one in each
-- fast step and one for its runoff. The ice has one that takes the flight to it, one in each fast step and the slow one. The ocean
-- has one that adds the flight to it, one in each of its steps and the cut. The last round of each leads to round 0 of the next
-- coupling step.
use Rattle.std.specs.Prelude.{ℕ, zero, suc, ◌+◌, ◌*◌, ◌/◌, ◌%◌, ◌==◌, ℤ, pos, ◌+ℤ◌, if◌then◌else◌}
use Rattle.cpl_fixed.specs.Amounts.{at}
use Rattle.cpl_fixed.specs.declared.gain.Gain.{Gain}
use Rattle.cpl_fixed.specs.declared.words.Component.{Component}
use Rattle.cpl_fixed.specs.declared.words.Component.TheVariants.{Atmos, Land, Ice, Ocean}
use Rattle.cpl_mosaic.specs.declared.mosaic.Mesh.{Mesh}
use Rattle.cpl_mosaic.specs.declared.parts.Side.{Side}
use Rattle.cpl_xgrid.specs.declared.grid.Grid.{Grid}
use Rattle.cpl_xgrid.specs.declared.parts.XRef.{XRef}
use Rattle.cpl_xgrid.specs.declared.parts.Surface.{Surface}
use Rattle.cpl_xgrid.specs.declared.parts.Surface.TheVariants as surface
use Rattle.cpl_namelist.specs.declared.names.Names.{Names}
use Rattle.cpl_flux.specs.declared.parts.AirSide.{AirSide}
use Rattle.cpl_flux.specs.declared.parts.Kind.TheVariants as kind
use Rattle.cpl_flux.specs.declared.parts.Part.{Part}
use Rattle.cpl_land.specs.declared.cell.LandCell.{LandCell}
use Rattle.cpl_ice.specs.declared.cell.IceCell.{IceCell}
use Rattle.cpl_ice.specs.declared.parts.Salty.{Salty}
use Rattle.cpl_ice.specs.declared.parts.ToIce.{ToIce}
use Rattle.cpl_ice.specs.Cells.{gained, nothing}
use Rattle.cpl_state.specs.declared.whole.Whole.{Whole}
use Rattle.cpl_state.specs.declared.whole.Mid.{Mid}
use Rattle.cpl_state.specs.States.{layers, air_side, land_cell, ice_cell, flight_to_ice, flight_to_ocean}
use Rattle.cpl_state.specs.Elements.{element_area, part_area}
use Rattle.cpl_state.specs.FastStep.{Before, heat_after_rain, vapour_after_rain, skin_taken, category_taken, part_absorbed, with_sun}
use Rattle.cpl_state.specs.Transport.{Sea, face_count, outward, stepped_by}
use Rattle.cpl_state.specs.Cut.{with_flight}
use Rattle.cpl_state.specs.CouplingStep.{before, fast_by, month_of, sea_of, state_after, taken}

-- what a run goes by: a grid, a namelist and a start
pub record PlanParts : Type 0 where
  pub grid : Grid
  pub names : Names
  pub start : Whole

-- STATES

-- the state with which coupling step n begins
unfoldable pub state_at : PlanParts → (n : ℕ) → Whole
state_at plan n = state_after n plan.grid plan.names plan.start

-- the surface and the air over it after i fast steps of coupling step n
unfoldable pub mid_at : PlanParts → (n i : ℕ) → Mid
mid_at plan n i = fast_by i plan.grid plan.names (month_of plan.names (state_at plan n)) (taken plan.grid (state_at plan n))

-- what fast step i of coupling step n goes by
abbrev pub fast_step : PlanParts → (n i : ℕ) → Before
fast_step plan n i = before plan.grid plan.names (month_of plan.names (state_at plan n)) (mid_at plan n i)

-- ROUNDS

-- how many rounds a component has in a coupling step
abbrev pub rounds_of : PlanParts → Component → ℕ
rounds_of plan Atmos = 2 * plan.names.fast
rounds_of plan Land = plan.names.fast + 1
rounds_of plan Ice = plan.names.fast + 2
rounds_of plan Ocean = plan.names.ocean_steps + 2

-- THE AIR

-- cell c of the air before fast step i, and in it after the rain, before the diffusion
abbrev pub air_before : PlanParts → (n i c : ℕ) → AirSide
air_before plan n i c = air_side plan.grid (mid_at plan n i).whole c

abbrev pub air_between : PlanParts → (n i c : ℕ) → AirSide
air_between plan n i c = record {
  heat = heat_after_rain (fast_step plan n i) c;
  vapour = vapour_after_rain (fast_step plan n i) c;
  area = at plan.grid.air.area c;
}

-- cell c of the air after r rounds of coupling step n
unfoldable pub air_at : PlanParts → (n r c : ℕ) → AirSide
air_at plan n r c = if r % 2 == 0 then air_before plan n (r / 2) c else air_between plan n (r / 2) c

-- THE LAND

-- cell c of the land after r rounds of coupling step n
unfoldable pub land_at : PlanParts → (n r c : ℕ) → LandCell
land_at plan n r c = land_cell plan.grid (mid_at plan n r).whole c

-- THE ICE

-- a cell of the ice with neither frazil nor skin
abbrev pub without_flight : IceCell → IceCell
without_flight cell = record cell { frazil_water = pos 0; frazil_heat = pos 0; skin = nothing }

-- cell c of the ice after r rounds of coupling step n: the first round takes the flight
unfoldable pub ice_at : PlanParts → (n r c : ℕ) → IceCell
ice_at plan n zero c = without_flight (ice_cell plan.grid (mid_at plan n 0) c)
ice_at plan n (suc i) c = ice_cell plan.grid (mid_at plan n i) c

-- what part k of cell c gains in a fast step: the skin heat and water, a category heat alone
abbrev pub part_gain : Before → (c k : ℕ) → Gain
part_gain s c zero = with_sun (skin_taken s c) (part_absorbed s surface.Ocean c 0)
part_gain s c (suc k) = record { heat = category_taken s c k +ℤ part_absorbed s surface.Ocean c (k + 1); water = pos 0 }

-- a cell of the ice of which the parts below `count` have gained
abbrev pub gained_by : (count : ℕ) → (gain : ℕ → Gain) → IceCell → IceCell
gained_by zero gain cell = cell
gained_by (suc k) gain cell = gained (gained_by k gain cell) k (gain k)

-- WHAT THE AIR SEES OF THE SURFACE

-- a cell of the land, which is one part of the surface of this area
abbrev pub land_seen : LandCell → (area : ℤ) → Part
land_seen cell area = record { kind = kind.Land; heat = cell.heat; mass = cell.water; area = area }

-- part k of a cell of the ice: the skin, which is open water, or a category
abbrev pub ice_seen : IceCell → (area : ℤ) → (k : ℕ) → Part
ice_seen cell area zero = record { kind = kind.Water; heat = cell.skin.heat; mass = cell.skin.water; area = area }
ice_seen cell area (suc k) = record { kind = kind.Ice; heat = at cell.heat k; mass = at cell.ice k; area = area }

-- the areas of an element and of part k of cell c of a surface, which stand through coupling step n
abbrev pub element_area_at : PlanParts → (n : ℕ) → XRef → (k : ℕ) → ℤ
element_area_at plan n ref k = element_area plan.grid (state_at plan n) ref k

abbrev pub part_area_at : PlanParts → (n : ℕ) → Surface → (c k : ℕ) → ℤ
part_area_at plan n list c k = part_area plan.grid (state_at plan n) list c k

-- cell c of the land, and part k of cell c of the ice, as the air sees them in fast step i
abbrev pub land_seen_at : PlanParts → (n i c : ℕ) → Part
land_seen_at plan n i c = land_seen (land_at plan n i c) (part_area_at plan n surface.Land c 0)

abbrev pub ice_seen_at : PlanParts → (n i c k : ℕ) → Part
ice_seen_at plan n i c k = ice_seen (ice_at plan n (i + 1) c) (part_area_at plan n surface.Ocean c k) k

-- THE OCEAN

-- the ocean after r rounds of coupling step n: the first round adds the flight
unfoldable pub ocean_at : PlanParts → (n r : ℕ) → Sea
ocean_at plan n zero = sea_of (state_at plan n)
ocean_at plan n (suc i) =
    stepped_by i plan.grid.ocean (layers plan.grid) plan.names.rates
    (with_flight plan.grid.ocean (sea_of (state_at plan n)) (state_at plan n).to_ocean)

-- the number of a face of a layer, outward through a side of cell c
abbrev pub outward_in : Mesh → Sea → (layer c : ℕ) → Side → ℤ
outward_in mesh sea layer c side = outward mesh.mosaic (λ f. at sea.faces (layer * face_count mesh + f)) c side

-- FLIGHTS

-- What flies from cell c through coupling step n, until the last round: the ocean has what flies to the ice, and the ice what
-- flies to the ocean.
abbrev pub to_ice_at : PlanParts → (n c : ℕ) → ToIce
to_ice_at plan n c = flight_to_ice (state_at plan n) c

abbrev pub to_ocean_at : PlanParts → (n c : ℕ) → Salty
to_ocean_at plan n c = flight_to_ocean (state_at plan n) c
