-- The wiring of a plan: its edges and scripts, and what each use of an edge carries, by the undivided run.
use Rattle.std.specs.Prelude.{ℕ, ◌-◌, List, ℤ}
use Rattle.cpl_core.specs.declared.wiring.Wires.{Wires}
use Rattle.cpl_fixed.specs.declared.words.Component.{Component}
use Rattle.cpl_fixed.specs.declared.words.Component.TheVariants.{Atmos, Ocean}
use Rattle.cpl_mosaic.specs.declared.parts.Side.{Side}
use Rattle.cpl_stocks.specs.Partials.{words_of}
use Rattle.cpl_wires.specs.declared.parts.Purpose.{Purpose}
use Rattle.cpl_wires.specs.declared.parts.Purpose.TheVariants.{AirHalo, LandToAir, IceToAir, AirToLand, AirToIce, LandToIce, IceToOcean, OceanToIce, OceanHalo, Sums}
use Rattle.cpl_wires.specs.declared.parts.Edge.{Edge}
use Rattle.cpl_wires.specs.Settings.{Setting, layout_of, base_of}
use Rattle.cpl_wires.specs.Pairs.{carried, air_halo as air_strip, ocean_halo as ocean_strip, ocean_faces}
use Rattle.cpl_wires.specs.Wirings.{wires_of}
use Rattle.cpl_rounds.specs.Rounds.{PlanParts}
use Rattle.cpl_rounds.specs.Values.{cells_at, sides_at, by_fast_step, by_ocean_step, air_halo, land_to_air, ice_to_air, air_to_land, air_to_ice, land_to_ice, ice_to_ocean, ocean_to_ice, ocean_halo}
use Rattle.cpl_plan.specs.Plans.{setting_of}
use Rattle.cpl_plan.specs.PieceSums.{part_sums}

-- WHAT HALOS CARRY NUMBERS OF

-- the cells at places of a piece of a component, and the sides at spots of it
abbrev pub cells_from : Setting → Component → (from : ℕ) → (places : List (ℕ × ℕ)) → List ℕ
cells_from setting component from places = cells_at (layout_of setting component) (from - base_of setting component) places

abbrev pub sides_from : Setting → Component → (from : ℕ) → (spots : List (ℕ × ℕ × Side)) → List (ℕ × Side)
sides_from setting component from spots = sides_at (layout_of setting component) (from - base_of setting component) spots

-- those of a strip of the air, of a strip of the ocean, and of a face strip of the ocean
abbrev pub air_halo_cells : Setting → (from to : ℕ) → List ℕ
air_halo_cells setting from to = cells_from setting Atmos from (air_strip setting from to).places

abbrev pub ocean_halo_cells : Setting → (from to : ℕ) → List ℕ
ocean_halo_cells setting from to = cells_from setting Ocean from (ocean_strip setting from to).places

abbrev pub ocean_halo_sides : Setting → (from to : ℕ) → List (ℕ × Side)
ocean_halo_sides setting from to = sides_from setting Ocean from (ocean_faces setting from to).sources

-- VALUES

-- What the k-th use of an edge carries, from one piece to another, of these exchange cells, outlets or cells. An edge that is used in
-- each fast step, or in each ocean step, is counted through all coupling steps; others are used once in each. Sums are those with
-- which coupling step k begins.
abbrev pub value_for : PlanParts → Purpose → (from to : ℕ) → (items : List ℕ) → (k : ℕ) → List ℤ
value_for plan AirHalo from to items k = by_fast_step plan (λ n i. air_halo plan n i (air_halo_cells (setting_of plan) from to)) k
value_for plan LandToAir from to items k = by_fast_step plan (λ n i. land_to_air plan n i items) k
value_for plan IceToAir from to items k = by_fast_step plan (λ n i. ice_to_air plan n i items) k
value_for plan AirToLand from to items k = by_fast_step plan (λ n i. air_to_land plan n i items) k
value_for plan AirToIce from to items k = by_fast_step plan (λ n i. air_to_ice plan n i items) k
value_for plan LandToIce from to items k = land_to_ice plan k items
value_for plan IceToOcean from to items k = ice_to_ocean plan k items
value_for plan OceanToIce from to items k = ocean_to_ice plan k items
value_for plan OceanHalo from to items k =
    by_ocean_step plan (λ n i. ocean_halo plan n i (ocean_halo_cells (setting_of plan) from to) (ocean_halo_sides (setting_of plan) from to)) k
value_for plan Sums from to items k = words_of (part_sums plan from k)

-- the value of the k-th use of an edge
unfoldable pub value : PlanParts → Edge → (k : ℕ) → List ℤ
value plan edge k = value_for plan edge.purpose edge.from edge.to (carried (setting_of plan) edge.purpose edge.from edge.to) k

-- THE WIRING

-- all edges with their values, and all scripts
abbrev pub wires_of_plan : PlanParts → Wires
wires_of_plan plan = wires_of (setting_of plan) (value plan)
