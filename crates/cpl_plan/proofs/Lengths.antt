-- What the uses of edges carry has the edges' lengths.
use Rattle.std.proofs.Common.{◌≡◌, ◌∙◌, refl, ℕ, ◌+◌, ◌-◌, ◌*◌, ◌/◌, ◌%◌, arith, List, length}
use Rattle.std.proofs.lemmas.List.{length-map}
use Rattle.cpl_fixed.specs.declared.words.Component.TheVariants.{Atmos, Ocean}
use Rattle.cpl_state.specs.Elements.{surface_number}
use Rattle.cpl_state.specs.States.{layers, part_count}
use Rattle.cpl_state.specs.Slow.{drain, returned_at}
use Rattle.cpl_state.specs.Cut.{cut_at, to_ice_numbers}
use Rattle.cpl_wires.specs.declared.parts.Purpose.{Purpose}
use Rattle.cpl_wires.specs.declared.parts.Purpose.TheVariants.{AirHalo, LandToAir, IceToAir, AirToLand, AirToIce, LandToIce, IceToOcean, OceanToIce, OceanHalo, Sums}
use Rattle.cpl_wires.specs.Settings.{layout_of, base_of}
use Rattle.cpl_wires.specs.Pairs.{air_halo as air_strip, carried, ocean_faces, ocean_halo as ocean_strip}
use Rattle.cpl_wires.specs.Edges.{edge_at, length_for, length_of}
use Rattle.cpl_wires.specs.Wirings.{HasLengths}
use Rattle.cpl_rounds.specs.Rounds.{PlanParts, mid_at, fast_step, air_at, land_at, ocean_at}
use Rattle.cpl_rounds.specs.Values.{air_halo, air_to_ice, air_to_land, cell_number_at, element_flows, element_numbers, ice_to_air, ice_to_ocean, land_numbers, land_to_air, land_to_ice, ocean_halo, ocean_to_ice, on_land, on_ocean, runoff_numbers, salty_numbers, side_of}
use Rattle.cpl_rounds.proofs.Blocks.{has_blocks, has_elements}
use Rattle.cpl_rounds.proofs.Halos.{has_pairs, has_sea}
use Rattle.cpl_plan.specs.Plans.{setting_of}
use Rattle.cpl_plan.specs.Values.{air_halo_cells, ocean_halo_cells, ocean_halo_sides, value, value_for}
use Rattle.cpl_plan.proofs.PieceShapes.{sums_long}

module _ (plan : PlanParts) (from to : ℕ) (items : List ℕ) where
  -- in fast step i of coupling step n
  air_halo_long : (n i : ℕ) → length (air_halo plan n i (air_halo_cells (setting_of plan) from to)) ≡ 2 * length (air_strip (setting_of plan) from to).places
  unfolding air_halo
  air_halo_long n i =
      let long = (has_pairs (λ c. (air_at plan n (2 * i + 1) c).heat) (λ c. (air_at plan n (2 * i + 1) c).vapour) (air_halo_cells (setting_of plan) from to)).long in
      let places = length-map (air_strip (setting_of plan) from to).places (cell_number_at (layout_of (setting_of plan) Atmos) (from - base_of (setting_of plan) Atmos)) in
      omega (arith, long, places)

  land_to_air_long : (n i : ℕ) → length (land_to_air plan n i items) ≡ 2 * length items
  unfolding land_to_air
  land_to_air_long n i =
      let long = (has_blocks 2 (λ row. land_numbers (land_at plan n i (surface_number plan.grid (on_land row)))) (λ x. refl) items).long in omega (arith, long)

  ice_to_air_long : (n i : ℕ) → length (ice_to_air plan n i items) ≡ 4 * (part_count plan.grid * length items)
  unfolding ice_to_air
  ice_to_air_long n i =
      let long = (has_elements (part_count plan.grid) (element_numbers plan.grid (mid_at plan n i)) (λ row k. refl) items).long in omega (arith, long)

  air_to_land_long : (n i : ℕ) → length (air_to_land plan n i items) ≡ 4 * length items
  unfolding air_to_land
  air_to_land_long n i =
      let long = (has_blocks 4 (λ row. element_flows (fast_step plan n i) (on_land row) 0) (λ x. refl) items).long in omega (arith, long)

  air_to_ice_long : (n i : ℕ) → length (air_to_ice plan n i items) ≡ 4 * (part_count plan.grid * length items)
  unfolding air_to_ice
  air_to_ice_long n i =
      let long = (has_elements (part_count plan.grid) (λ row. element_flows (fast_step plan n i) (on_ocean row)) (λ row k. refl) items).long in omega (arith, long)

  land_to_ice_long : (n : ℕ) → length (land_to_ice plan n items) ≡ 2 * length items
  unfolding land_to_ice
  land_to_ice_long n =
      let long = (has_blocks 2 (λ o. runoff_numbers (drain plan.grid plan.names.rates (mid_at plan n plan.names.fast).whole o)) (λ x. refl) items).long in omega (arith, long)

  ice_to_ocean_long : (n : ℕ) → length (ice_to_ocean plan n items) ≡ 3 * length items
  unfolding ice_to_ocean
  ice_to_ocean_long n =
      let long = (has_blocks 3 (λ c. salty_numbers (returned_at plan.grid plan.names.rates (mid_at plan n plan.names.fast) c)) (λ x. refl) items).long in omega (arith, long)

  ocean_to_ice_long : (n : ℕ) → length (ocean_to_ice plan n items) ≡ 5 * length items
  unfolding ocean_to_ice
  ocean_to_ice_long n =
      let long = (has_blocks 5 (λ c. to_ice_numbers (cut_at plan.grid.ocean (ocean_at plan n (plan.names.ocean_steps + 1)) c)) (λ x. refl) items).long in omega (arith, long)

  -- in ocean step i of coupling step n
  ocean_halo_long : (n i : ℕ) → length (ocean_halo plan n i (ocean_halo_cells (setting_of plan) from to) (ocean_halo_sides (setting_of plan) from to))
      ≡ layers plan.grid * (3 * length (ocean_strip (setting_of plan) from to).places) + layers plan.grid * length (ocean_faces (setting_of plan) from to).sources
  unfolding ocean_halo
  ocean_halo_long n i =
      let cells = ocean_halo_cells (setting_of plan) from to in
      let sides = ocean_halo_sides (setting_of plan) from to in
      let own = from - base_of (setting_of plan) Ocean in
      let long = (has_sea plan.grid.ocean (layers plan.grid) (ocean_at plan n (i + 1)) cells sides).long in
      let places = length-map (ocean_strip (setting_of plan) from to).places (cell_number_at (layout_of (setting_of plan) Ocean) own) in
      let sources = length-map (ocean_faces (setting_of plan) from to).sources (side_of (layout_of (setting_of plan) Ocean) own) in
      let regroup : layers plan.grid * 3 * length cells + layers plan.grid * length sides ≡ layers plan.grid * (3 * length cells) + layers plan.grid * length sides = omega arith in
      long ∙ regroup ∙ (λ t. layers plan.grid * (3 * places t) + layers plan.grid * sources t)

-- each use of an edge of a purpose carries as many numbers as its length says
long_for : (plan : PlanParts) (purpose : Purpose) (from to : ℕ) (items : List ℕ) (k : ℕ)
    → length (value_for plan purpose from to items k) ≡ length_for (setting_of plan) purpose from to (length items)
long_for plan AirHalo from to items k = air_halo_long plan from to items (k / plan.names.fast) (k % plan.names.fast)
long_for plan LandToAir from to items k = land_to_air_long plan from to items (k / plan.names.fast) (k % plan.names.fast)
long_for plan IceToAir from to items k = ice_to_air_long plan from to items (k / plan.names.fast) (k % plan.names.fast)
long_for plan AirToLand from to items k = air_to_land_long plan from to items (k / plan.names.fast) (k % plan.names.fast)
long_for plan AirToIce from to items k = air_to_ice_long plan from to items (k / plan.names.fast) (k % plan.names.fast)
long_for plan LandToIce from to items k = land_to_ice_long plan from to items k
long_for plan IceToOcean from to items k = ice_to_ocean_long plan from to items k
long_for plan OceanToIce from to items k = ocean_to_ice_long plan from to items k
long_for plan OceanHalo from to items k = ocean_halo_long plan from to items (k / plan.names.ocean_steps) (k % plan.names.ocean_steps)
long_for plan Sums from to items k = sums_long plan from k

pub has_lengths : (plan : PlanParts) → HasLengths (setting_of plan) (value plan)
unfolding value length_of
has_lengths plan edge k l =
    let own = edge_at (setting_of plan) edge in
    long_for plan own.purpose own.from own.to (carried (setting_of plan) own.purpose own.from own.to) k
