-- The land and the ice of a state take what flowed through their elements.
use Rattle.std.proofs.Common.{◌≡◌, ◌∙◌, sym, ap, subst, ℕ, ◌+◌, ◌*◌, arith, List, length}
use Rattle.std.specs.Prelude.{ℤ}
use Rattle.cpl_fixed.specs.Amounts.{at}
use Rattle.cpl_mosaic.specs.Contacts.{cells_of}
use Rattle.cpl_xgrid.specs.declared.parts.Surface.TheVariants.{Land, Ocean}
use Rattle.cpl_state.specs.declared.whole.Mid.{Mid}
use Rattle.cpl_state.specs.States.{categories, land_cells, ocean_cells, part_count}
use Rattle.cpl_state.specs.FastStep.{Before, rain_on}
use Rattle.cpl_fast.specs.declared.flows.Flow.{Flow}
use Rattle.cpl_fast.specs.declared.room.FastRoom.{FastRoom}
use Rattle.cpl_fast.specs.Places.{AreEnds, place_in}
use Rattle.cpl_fast.specs.Rooms.{ArePartAreas}
use Rattle.cpl_fast.specs.Stages.{AreFlows, HasFlows, HasIce, HasLand, HasOtherLand, HasOtherSurface, IsLawful, to_ice, to_land, with_air}
use Rattle.cpl_fast.specs.Surfaces.{CanTakeIce, CanTakeLand, HasTakenIce, HasTakenLand, land_at, ocean_at, taken_to}
use Rattle.cpl_fast.proofs.Elementwise.{tiles_are}
use Rattle.cpl_fast.proofs.Empty.{no_sums}
use Rattle.cpl_fast.proofs.ToSurface.{can_gain_ice, can_gain_land, can_gain_skin, ice_heats, ice_took, land_heats, land_took, land_waters, skin_heats, skin_waters}

module _ (s : Before) (lawful : IsLawful s) where
  -- THE LAND

  module _ (flows : List Flow) (are : AreFlows s (rain_on s) Land flows) (heat water : List ℤ) (heat_is : heat ≡ s.mid.whole.land_heat) (water_is : water ≡ s.mid.whole.land_water) where
    lands : length heat ≡ land_cells s.grid
    lands = ap length heat_is ∙ lawful.can.mid.whole.lengths.land_heat

    pub can_take_land : CanTakeLand s.grid.xgrid flows heat water
    can_take_land =
        let own = lands in
        let most = lawful.lands in
        record {
          cells = lands ∙ sym (ap cells_of (tiles_are s lawful.numbers Land));
          few = omega (arith, most, own);
          count = ap length water_is ∙ lawful.can.mid.whole.lengths.land_water ∙ sym lands;
          each = λ n l. can_gain_land s lawful flows are heat water heat_is water_is n (omega (arith, l, own));
        }

    pub has_land : (new : Mid) → HasTakenLand s.grid.xgrid flows heat water new.whole.land_heat new.whole.land_water → HasLand s new
    has_land new took =
        let own = lands in
        record {
          heat = land_heats s lawful flows are heat water heat_is water_is new.whole.land_heat (took.heat_count ∙ lands) (λ n l. took.heat_after n (omega (arith, l, own)));
          water = land_waters s lawful flows are heat water heat_is water_is new.whole.land_water (took.water_count ∙ lands) (λ n l. took.water_after n (omega (arith, l, own)));
        }

    pub took_land : taken_to (length heat) (λ n. (land_at s.grid.xgrid flows (at heat n) (at water n) n).taken) ≡ to_land s
    took_land =
        ap (λ (k : ℕ). taken_to k (λ n. (land_at s.grid.xgrid flows (at heat n) (at water n) n).taken)) lands
        ∙ land_took s lawful flows are heat water heat_is water_is

  -- THE ICE

  module _ (flows : List Flow) (are : AreFlows s (rain_on s) Ocean flows) (ice heat water : List ℤ) (ice_is : ice ≡ s.mid.whole.ice_heat) (heat_is : heat ≡ s.mid.skin_heat) (water_is : water ≡ s.mid.skin_water) where
    skins : length heat ≡ ocean_cells s.grid
    skins = ap length heat_is ∙ lawful.can.mid.skin_heat.count

    ices : length ice ≡ categories s.grid * ocean_cells s.grid
    ices = ap length ice_is ∙ lawful.can.mid.whole.lengths.ice_heat

    pub can_take_ice : (area : List ℤ) (used : List ℕ) → ArePartAreas s.grid s.mid.whole Ocean area → AreEnds area used (ocean_cells s.grid) (part_count s.grid)
        → CanTakeIce s.grid.xgrid flows area used (categories s.grid) ice heat water
    can_take_ice area used areas ends =
        let own = skins in
        let most = lawful.oceans in
        let cells = sym (ap cells_of (tiles_are s lawful.numbers Ocean)) in
        record {
          cells = skins ∙ cells;
          parts = record {
            few = omega (arith, most, cells);
            most = lawful.numbers.rules.column.categories.1;
            count = areas.count ∙ ap (λ (n : ℕ). n * (categories s.grid + 1)) cells;
            ends = subst (λ (count : ℕ). AreEnds area used count (part_count s.grid)) cells ends;
          };
          ice_count = ices ∙ sym (ap (λ (n : ℕ). categories s.grid * n) skins);
          water_count = ap length water_is ∙ lawful.can.mid.skin_water.count ∙ sym skins;
          still = λ n l k h e. no_sums s lawful flows are n k (omega (arith, l, own)) h (sym (areas.each n k (omega (arith, l, own)) h) ∙ ap (λ (count : ℕ). at area (place_in count n k)) cells ∙ e);
          skins = λ n l. can_gain_skin s lawful flows are ice heat water ice_is heat_is water_is n (omega (arith, l, own));
          ices = λ n k l h. can_gain_ice s lawful flows are ice heat water ice_is heat_is water_is n k (omega (arith, l, own)) h;
        }

    pub has_ice : (new : Mid) → HasTakenIce s.grid.xgrid flows (categories s.grid) ice heat water new.whole.ice_heat new.skin_heat new.skin_water → HasIce s new
    has_ice new took =
        let own = skins in
        record {
          ice = ice_heats s lawful flows are ice heat water ice_is heat_is water_is new.whole.ice_heat (took.ice_count ∙ ices) (λ n k l h. took.ice_after n k (omega (arith, l, own)) h);
          heat = skin_heats s lawful flows are ice heat water ice_is heat_is water_is new.skin_heat (took.heat_count ∙ skins) (λ n l. took.heat_after n (omega (arith, l, own)));
          water = skin_waters s lawful flows are ice heat water ice_is heat_is water_is new.skin_water (took.water_count ∙ skins) (λ n l. took.water_after n (omega (arith, l, own)));
        }

    pub took_ice : taken_to (length heat) (λ n. ocean_at s.grid.xgrid flows (categories s.grid) n) ≡ to_ice s
    took_ice = ap (λ (k : ℕ). taken_to k (λ n. ocean_at s.grid.xgrid flows (categories s.grid) n)) skins ∙ ice_took s lawful flows are

-- IN A STEP: the room with the flows changes its air, and then the land and the ice of the state take

module _ (s : Before) (filled room : FastRoom) (mid : Mid) (have : HasFlows s (rain_on s) filled) (rest : room ≡ record filled { air_heat = room.air_heat; air_vapour = room.air_vapour }) (with_its_air : mid ≡ with_air s.mid filled) where
  land_flows : AreFlows s (rain_on s) Land room.land_flows.items
  land_flows = subst (AreFlows s (rain_on s) Land) (sym (ap (λ (room : FastRoom). room.land_flows.items) rest)) have.land

  pub land_can : CanTakeLand s.grid.xgrid room.land_flows.items mid.whole.land_heat mid.whole.land_water
  land_can = can_take_land s have.seen.lawful room.land_flows.items land_flows mid.whole.land_heat mid.whole.land_water (ap (λ (m : Mid). m.whole.land_heat) with_its_air) (ap (λ (m : Mid). m.whole.land_water) with_its_air)

  pub land_has : (new : Mid) → HasTakenLand s.grid.xgrid room.land_flows.items mid.whole.land_heat mid.whole.land_water new.whole.land_heat new.whole.land_water → HasLand s new
  land_has = has_land s have.seen.lawful room.land_flows.items land_flows mid.whole.land_heat mid.whole.land_water (ap (λ (m : Mid). m.whole.land_heat) with_its_air) (ap (λ (m : Mid). m.whole.land_water) with_its_air)

  pub land_takes : taken_to (length mid.whole.land_heat) (λ n. (land_at s.grid.xgrid room.land_flows.items (at mid.whole.land_heat n) (at mid.whole.land_water n) n).taken) ≡ to_land s
  land_takes = took_land s have.seen.lawful room.land_flows.items land_flows mid.whole.land_heat mid.whole.land_water (ap (λ (m : Mid). m.whole.land_heat) with_its_air) (ap (λ (m : Mid). m.whole.land_water) with_its_air)

  module _ (after : FastRoom) (half : Mid) (same : HasOtherSurface room after) (on_land : HasOtherLand mid half) where
    ice_flows : AreFlows s (rain_on s) Ocean after.ocean_flows.items
    ice_flows = subst (AreFlows s (rain_on s) Ocean) (sym (ap (λ (room : FastRoom). room.ocean_flows.items) same ∙ ap (λ (room : FastRoom). room.ocean_flows.items) rest)) have.ocean

    ice_same : half.whole.ice_heat ≡ s.mid.whole.ice_heat
    ice_same = ap (λ (m : Mid). m.whole.ice_heat) on_land ∙ ap (λ (m : Mid). m.whole.ice_heat) with_its_air

    heat_same : half.skin_heat ≡ s.mid.skin_heat
    heat_same = ap (λ (m : Mid). m.skin_heat) on_land ∙ ap (λ (m : Mid). m.skin_heat) with_its_air

    water_same : half.skin_water ≡ s.mid.skin_water
    water_same = ap (λ (m : Mid). m.skin_water) on_land ∙ ap (λ (m : Mid). m.skin_water) with_its_air

    pub ice_can : CanTakeIce s.grid.xgrid after.ocean_flows.items after.ocean_area.items after.ocean_used.items (categories s.grid) half.whole.ice_heat half.skin_heat half.skin_water
    ice_can =
        let areas = subst (ArePartAreas s.grid s.mid.whole Ocean) (sym (ap (λ (room : FastRoom). room.ocean_area.items) same ∙ ap (λ (room : FastRoom). room.ocean_area.items) rest)) have.seen.room.ocean_area in
        let are_ends = λ (room : FastRoom). AreEnds room.ocean_area.items room.ocean_used.items (ocean_cells s.grid) (part_count s.grid) in
        let ends = subst are_ends (sym same) (subst are_ends (sym rest) have.seen.room.room.ocean_used) in
        can_take_ice s have.seen.lawful after.ocean_flows.items ice_flows half.whole.ice_heat half.skin_heat half.skin_water ice_same heat_same water_same after.ocean_area.items after.ocean_used.items areas ends

    pub ice_has : (new : Mid) → HasTakenIce s.grid.xgrid after.ocean_flows.items (categories s.grid) half.whole.ice_heat half.skin_heat half.skin_water new.whole.ice_heat new.skin_heat new.skin_water → HasIce s new
    ice_has = has_ice s have.seen.lawful after.ocean_flows.items ice_flows half.whole.ice_heat half.skin_heat half.skin_water ice_same heat_same water_same

    pub ice_takes : taken_to (length half.skin_heat) (λ n. ocean_at s.grid.xgrid after.ocean_flows.items (categories s.grid) n) ≡ to_ice s
    ice_takes = took_ice s have.seen.lawful after.ocean_flows.items ice_flows half.whole.ice_heat half.skin_heat half.skin_water ice_same heat_same water_same
