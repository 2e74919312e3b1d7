-- What the surface takes in a fast step is far below what the words of this machine hold.
use Rattle.std.proofs.Common.{◌≡◌, ℕ, ◌<◌, ◌^◌, arith, length}
use Rattle.std.specs.Prelude.{ℤ, pos, ◌+ℤ◌, ◌-ℤ◌, ◌≤ℤ◌}
use Rattle.std.proofs.lemmas.Int.{ints}
use Rattle.cpl_fixed.specs.Totals.{total_of}
use Rattle.cpl_fixed.specs.declared.limits.TheConstants.{MOST_TOTAL}
use Rattle.cpl_mosaic.specs.Mates.{MatesAgree}
use Rattle.cpl_xgrid.specs.declared.parts.Surface.{Surface}
use Rattle.cpl_state.specs.Diffusion.{IsAirMesh}
use Rattle.cpl_state.specs.States.{air_cells, land_cells, ocean_cells}
use Rattle.cpl_state.specs.FastStep.{Before, for_each, for_each_category, heat_after_rain, vapour_after_rain, land_taken, skin_taken, category_taken, rain_on, rain_on_ice, heat_to_land, water_to_land, heat_to_ice, water_to_ice}
use Rattle.cpl_state.specs.FastLaws.{CanStep}
use Rattle.cpl_laws.specs.Once.{IsNumbered}
use Rattle.cpl_laws.proofs.Sums.{cells_same}
use Rattle.cpl_laws.proofs.Elements.{ref_in, rows_in}
use Rattle.cpl_laws.proofs.Flows.{rain_on_natural}
use Rattle.cpl_laws.proofs.FastTotals.{added_sum, added_blocks, air_heat_with, air_vapour_with, land_heat_with, land_water_with, skin_heat_with, skin_water_with, category_with, some_category, category_natural, land_heat_natural, land_water_natural, skin_heat_natural, skin_water_natural, heat_kept, water_kept}
use Rattle.cpl_laws.proofs.FastRanges.{cells_natural, categories_natural, heat_after, vapour_after, heat_after_natural, vapour_after_natural, left_range, sun_strength_natural}
use Rattle.cpl_laws.proofs.Naturals.{are_natural}
use Rattle.cpl_laws.proofs.FastKept.{heat_held, water_held, other_heat_natural, ice_and_more}

-- between -2^63 and 2^63
abbrev pub IsSmall : ℤ → Type 0
IsSmall x = ((pos 0 -ℤ pos (2 ^ 63)) ≤ℤ x) × (x ≤ℤ pos (2 ^ 63))

-- what a fast step moves between the air and the surface
pub record AreSmall (s : Before) : Type 0 where
  pub heat_land : IsSmall (heat_to_land s)
  pub water_land : IsSmall (water_to_land s)
  pub heat_ice : IsSmall (heat_to_ice s)
  pub water_ice : IsSmall (water_to_ice s)

module _ (s : Before) (is : IsNumbered s.grid) (air : IsAirMesh s.grid.air) (mates : MatesAgree s.grid.air.mosaic) (can : CanStep s) where
  wets : (list : Surface) (m k : ℕ) → m < length (rows_in s.grid is list) → pos 0 ≤ℤ rain_on s (ref_in list m) k
  wets list m k l = rain_on_natural s is air can list m k l

  -- THE TOTALS BEFORE THE STEP

  heat_room : (total_of s.mid.whole.air_heat +ℤ total_of s.mid.whole.land_heat +ℤ total_of s.mid.skin_heat +ℤ total_of s.mid.whole.ice_heat) ≤ℤ pos MOST_TOTAL
  heat_room =
      let held = heat_held s.grid s.mid in
      let others = other_heat_natural s is air mates can in
      let sun = sun_strength_natural s is air can in
      let most = can.heat in
      omega (arith, ints, held, others, sun, most)

  water_room : (total_of s.mid.whole.air_vapour +ℤ total_of s.mid.whole.land_water +ℤ total_of s.mid.skin_water) ≤ℤ pos MOST_TOTAL
  water_room =
      let held = water_held s.grid s.mid in
      let others = ice_and_more s is air mates can in
      let natural = are_natural s.grid s.mid can.mid in
      let most = can.water in
      omega (arith, ints, held, others, natural.ice, most)

  -- AFTER IT, WITHOUT THE SUN

  air_heat_least : pos 0 ≤ℤ total_of (for_each (air_cells s.grid) (air_heat_with s (rain_on s)))
  air_heat_least =
      let same = cells_same (heat_after_rain s) (air_heat_with s (rain_on s)) (air_cells s.grid) (heat_after s is air can) in
      let least = cells_natural (heat_after_rain s) (air_cells s.grid) (heat_after_natural s is air can) in
      omega (arith, ints, same, least)

  air_vapour_least : pos 0 ≤ℤ total_of (for_each (air_cells s.grid) (air_vapour_with s (rain_on s)))
  air_vapour_least =
      let same = cells_same (vapour_after_rain s) (air_vapour_with s (rain_on s)) (air_cells s.grid) (vapour_after s is air can) in
      let least = cells_natural (vapour_after_rain s) (air_cells s.grid) (vapour_after_natural s is air can) in
      omega (arith, ints, same, least)

  abbrev land_heats : ℤ
  land_heats = total_of (for_each (land_cells s.grid) (land_heat_with s (rain_on s)))

  abbrev land_waters : ℤ
  land_waters = total_of (for_each (land_cells s.grid) (land_water_with s (rain_on s)))

  abbrev skin_heats : ℤ
  skin_heats = total_of (for_each (ocean_cells s.grid) (skin_heat_with s (rain_on s)))

  abbrev skin_waters : ℤ
  skin_waters = total_of (for_each (ocean_cells s.grid) (skin_water_with s (rain_on s)))

  abbrev ice_heats : ℤ
  ice_heats = total_of (for_each_category s.grid (category_with s))

  record HasRoom : Type 0 where
    land_heat : (pos 0 ≤ℤ land_heats) × (land_heats ≤ℤ pos MOST_TOTAL)
    skin_heat : (pos 0 ≤ℤ skin_heats) × (skin_heats ≤ℤ pos MOST_TOTAL)
    ice_heat : (pos 0 ≤ℤ ice_heats) × (ice_heats ≤ℤ pos MOST_TOTAL)
    land_water : (pos 0 ≤ℤ land_waters) × (land_waters ≤ℤ pos MOST_TOTAL)
    skin_water : (pos 0 ≤ℤ skin_waters) × (skin_waters ≤ℤ pos MOST_TOTAL)

  has_room : HasRoom
  has_room =
      let heat = heat_kept s is air can (rain_on s) wets in
      let water = water_kept s is air can (rain_on s) wets in
      let heat_most = heat_room in
      let water_most = water_room in
      let leaving = left_range s is air can in
      let a = air_heat_least in
      let b = air_vapour_least in
      let c = cells_natural (land_heat_with s (rain_on s)) (land_cells s.grid) (land_heat_natural s is air can (rain_on s) wets) in
      let d = cells_natural (skin_heat_with s (rain_on s)) (ocean_cells s.grid) (skin_heat_natural s is air can (rain_on s) wets) in
      let e = categories_natural s.grid (category_with s) (some_category s is air can) (category_natural s is air can) in
      let f = cells_natural (land_water_with s (rain_on s)) (land_cells s.grid) (land_water_natural s is air can (rain_on s) wets) in
      let g = cells_natural (skin_water_with s (rain_on s)) (ocean_cells s.grid) (skin_water_natural s is air can (rain_on s) wets) in
      record {
        land_heat = (c, omega (arith, ints, heat, heat_most, leaving.0, a, d, e));
        skin_heat = (d, omega (arith, ints, heat, heat_most, leaving.0, a, c, e));
        ice_heat = (e, omega (arith, ints, heat, heat_most, leaving.0, a, c, d));
        land_water = (f, omega (arith, ints, water, water_most, b, g));
        skin_water = (g, omega (arith, ints, water, water_most, b, f));
      }

  -- WHAT THE SURFACE TOOK

  land_heat_took : land_heats ≡ total_of s.mid.whole.land_heat +ℤ heat_to_land s
  unfolding heat_to_land land_taken
  land_heat_took = added_sum s.mid.whole.land_heat (λ n. (land_taken s n).heat) (land_cells s.grid) can.mid.whole.lengths.land_heat

  land_water_took : land_waters ≡ total_of s.mid.whole.land_water +ℤ water_to_land s
  unfolding water_to_land land_taken
  land_water_took = added_sum s.mid.whole.land_water (λ n. (land_taken s n).water) (land_cells s.grid) can.mid.whole.lengths.land_water

  skin_heat_took : skin_heats ≡ total_of s.mid.skin_heat +ℤ total_of (for_each (ocean_cells s.grid) (λ n. (skin_taken s n).heat))
  unfolding skin_taken rain_on_ice
  skin_heat_took = added_sum s.mid.skin_heat (λ n. (skin_taken s n).heat) (ocean_cells s.grid) can.mid.skin_heat.count

  skin_water_took : skin_waters ≡ total_of s.mid.skin_water +ℤ water_to_ice s
  unfolding water_to_ice skin_taken rain_on_ice
  skin_water_took = added_sum s.mid.skin_water (λ n. (skin_taken s n).water) (ocean_cells s.grid) can.mid.skin_water.count

  ice_heat_took : ice_heats ≡ total_of s.mid.whole.ice_heat +ℤ total_of (for_each_category s.grid (category_taken s))
  unfolding category_taken
  ice_heat_took = added_blocks s.grid s.mid.whole.ice_heat (category_taken s) can.mid.whole.lengths.ice_heat

  heat_ice_took : heat_to_ice s ≡ total_of (for_each (ocean_cells s.grid) (λ n. (skin_taken s n).heat)) +ℤ total_of (for_each_category s.grid (category_taken s))
  unfolding heat_to_ice
  heat_ice_took = omega (arith, ints)

  pub are_small : AreSmall s
  are_small =
      let room = has_room in
      let natural = are_natural s.grid s.mid can.mid in
      let heat = heat_room in
      let water = water_room in
      let a = land_heat_took in
      let b = land_water_took in
      let c = skin_heat_took in
      let d = skin_water_took in
      let e = ice_heat_took in
      let f = heat_ice_took in
      record {
        heat_land = (omega (arith, ints, a, room.land_heat.0, heat, natural.air_heat, natural.skin_heat, natural.ice_heat), omega (arith, ints, a, room.land_heat.1, natural.land_heat));
        water_land = (omega (arith, ints, b, room.land_water.0, water, natural.air_vapour, natural.skin_water), omega (arith, ints, b, room.land_water.1, natural.land_water));
        heat_ice = (omega (arith, ints, c, e, f, room.skin_heat.0, room.ice_heat.0, heat, natural.air_heat, natural.land_heat), omega (arith, ints, c, e, f, room.skin_heat.1, room.ice_heat.1, natural.skin_heat, natural.ice_heat));
        water_ice = (omega (arith, ints, d, room.skin_water.0, water, natural.air_vapour, natural.land_water), omega (arith, ints, d, room.skin_water.1, natural.skin_water));
      }
