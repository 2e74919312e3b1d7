-- The cells of the air and the parts of the surface are in range before a step, those that no element is of too.
use Rattle.std.proofs.Common.{ℕ, zero, suc, ◌+◌, ◌*◌, ◌<◌, arith}
use Rattle.std.specs.Prelude.{pos, ◌+ℤ◌, ◌≤ℤ◌}
use Rattle.std.proofs.lemmas.Int.{ints}
use Rattle.cpl_fixed.specs.Totals.{total_of}
use Rattle.cpl_fixed.specs.declared.limits.TheConstants.{MOST_AREA, MOST_TOTAL}
use Rattle.cpl_flux.specs.Elements.{IsAirSide, IsPart}
use Rattle.cpl_mosaic.specs.Contacts.{cells_of}
use Rattle.cpl_mosaic.specs.Mates.{MatesAgree}
use Rattle.cpl_xgrid.specs.declared.grid.Grid.{Grid}
use Rattle.cpl_xgrid.specs.declared.parts.Surface.{Surface}
use Rattle.cpl_xgrid.specs.declared.parts.Surface.TheVariants.{Land, Ocean}
use Rattle.cpl_state.specs.Diffusion.{IsAirMesh}
use Rattle.cpl_state.specs.States.{air_cells, air_side, categories}
use Rattle.cpl_state.specs.Elements.{tiles_of, element_count, part_area}
use Rattle.cpl_state.specs.FastStep.{Before, surface_part}
use Rattle.cpl_state.specs.FastLaws.{CanStep}
use Rattle.cpl_laws.specs.Once.{IsNumbered}
use Rattle.cpl_laws.proofs.Areas.{part_natural, part_most}
use Rattle.cpl_laws.proofs.FastRanges.{sun_strength_natural}
use Rattle.cpl_laws.proofs.Naturals.{are_natural}
use Rattle.cpl_laws.proofs.FastKept.{heat_held, water_held, other_heat_natural, ice_and_more}
use Rattle.cpl_laws.proofs.Held.{stored_amount}
use Rattle.cpl_fast.proofs.Making.{mesh_most}

-- each row of a list has an element
pub some_parts : (grid : Grid) (list : Surface) → 0 < element_count grid list
some_parts grid Land = omega arith
some_parts grid Ocean = omega arith

module _ (s : Before) (is : IsNumbered s.grid) (air : IsAirMesh s.grid.air) (mates : MatesAgree s.grid.air.mosaic) (can : CanStep s) where
  -- the total of each list is within the most
  record AreWithin : Type 0 where
    air_heat : total_of s.mid.whole.air_heat ≤ℤ pos MOST_TOTAL
    land_heat : total_of s.mid.whole.land_heat ≤ℤ pos MOST_TOTAL
    skin_heat : total_of s.mid.skin_heat ≤ℤ pos MOST_TOTAL
    ice_heat : total_of s.mid.whole.ice_heat ≤ℤ pos MOST_TOTAL
    vapour : total_of s.mid.whole.air_vapour ≤ℤ pos MOST_TOTAL
    land_water : total_of s.mid.whole.land_water ≤ℤ pos MOST_TOTAL
    skin_water : total_of s.mid.skin_water ≤ℤ pos MOST_TOTAL
    ice : total_of s.mid.whole.ice ≤ℤ pos MOST_TOTAL

  within : AreWithin
  within =
      let heat = heat_held s.grid s.mid in
      let water = water_held s.grid s.mid in
      let most_heat = can.heat in
      let most_water = can.water in
      let others = other_heat_natural s is air mates can in
      let ice = ice_and_more s is air mates can in
      let sun = sun_strength_natural s is air can in
      let natural = are_natural s.grid s.mid can.mid in
      let held : (total_of s.mid.whole.air_heat +ℤ total_of s.mid.whole.land_heat +ℤ total_of s.mid.skin_heat +ℤ total_of s.mid.whole.ice_heat) ≤ℤ pos MOST_TOTAL = omega (arith, ints, heat, most_heat, others, sun) in
      let held_water : (total_of s.mid.whole.air_vapour +ℤ total_of s.mid.whole.land_water +ℤ total_of s.mid.skin_water +ℤ total_of s.mid.whole.ice) ≤ℤ pos MOST_TOTAL = omega (arith, ints, water, most_water, ice) in
      record {
        air_heat = omega (arith, ints, held, natural.land_heat, natural.skin_heat, natural.ice_heat);
        land_heat = omega (arith, ints, held, natural.air_heat, natural.skin_heat, natural.ice_heat);
        skin_heat = omega (arith, ints, held, natural.air_heat, natural.land_heat, natural.ice_heat);
        ice_heat = omega (arith, ints, held, natural.air_heat, natural.land_heat, natural.skin_heat);
        vapour = omega (arith, ints, held_water, natural.land_water, natural.skin_water, natural.ice);
        land_water = omega (arith, ints, held_water, natural.air_vapour, natural.skin_water, natural.ice);
        skin_water = omega (arith, ints, held_water, natural.air_vapour, natural.land_water, natural.ice);
        ice = omega (arith, ints, held_water, natural.air_vapour, natural.land_water, natural.skin_water);
      }

  area_in_range : (list : Surface) (n k : ℕ) → n < cells_of (tiles_of s.grid list) → k < element_count s.grid list
      → (pos 0 ≤ℤ part_area s.grid s.mid.whole list n k) × (part_area s.grid s.mid.whole list n k ≤ℤ pos MOST_AREA)
  area_in_range list n k l h =
      let least = part_natural s.grid is s.mid.whole can.mid.whole list n k l in
      let most = part_most s.grid is s.mid.whole can.mid.whole list n k l h in
      let all = mesh_most s.grid is s.mid.whole can.mid.whole list n l in
      (least, omega (arith, ints, most, all))

  -- each part of each cell
  pub part_in_range : (list : Surface) (n k : ℕ) → n < cells_of (tiles_of s.grid list) → k < element_count s.grid list → IsPart (surface_part s.grid s.mid list n k)
  part_in_range Land n k l h = record {
    heat = stored_amount s.mid.whole.land_heat can.mid.whole.stored.land_heat within.land_heat n;
    mass = stored_amount s.mid.whole.land_water can.mid.whole.stored.land_water within.land_water n;
    area = area_in_range Land n 0 l (omega arith);
  }
  part_in_range Ocean n zero l h = record {
    heat = stored_amount s.mid.skin_heat can.mid.skin_heat.stored within.skin_heat n;
    mass = stored_amount s.mid.skin_water can.mid.skin_water.stored within.skin_water n;
    area = area_in_range Ocean n 0 l h;
  }
  part_in_range Ocean n (suc k) l h = record {
    heat = stored_amount s.mid.whole.ice_heat can.mid.whole.stored.ice_heat within.ice_heat (n * categories s.grid + k);
    mass = stored_amount s.mid.whole.ice can.mid.whole.stored.ice within.ice (n * categories s.grid + k);
    area = area_in_range Ocean n (suc k) l h;
  }

  -- each cell of the air
  pub air_in_range : (n : ℕ) → n < air_cells s.grid → IsAirSide (air_side s.grid s.mid.whole n)
  air_in_range n l =
      let least = air.each n (pos 0) (let e = air.areas in omega (arith, e)) in
      record {
        heat = stored_amount s.mid.whole.air_heat can.mid.whole.stored.air_heat within.air_heat n;
        vapour = stored_amount s.mid.whole.air_vapour can.mid.whole.stored.air_vapour within.vapour n;
        area = (omega (arith, ints, least.0), omega (arith, ints, least.1));
      }
