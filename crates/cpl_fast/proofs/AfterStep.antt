-- After a fast step: the state has the air of the room, its land and its ice took what flowed, and the room has the air of before.
use Rattle.std.proofs.Common.{◌≡◌, ◌∙◌, refl, sym, ap, subst, ℕ, ◌-◌, List, length, map, rules, take}
use Rattle.std.specs.Prelude.{ℤ, pos, ◌+ℤ◌, ◌-ℤ◌}
use Rattle.cpl_fixed.specs.Amounts.{at}
use Rattle.cpl_fixed.specs.Shares.{part_of, share, shares_of}
use Rattle.cpl_fixed.specs.Totals.{total_of}
use Rattle.cpl_mosaic.specs.Contacts.{IsMosaic}
use Rattle.cpl_mosaic.specs.Mates.{MatesAgree}
use Rattle.cpl_xgrid.specs.declared.grid.Grid.{Grid}
use Rattle.cpl_xgrid.specs.declared.parts.XRef.{XRef}
use Rattle.cpl_xgrid.specs.declared.parts.Surface.{Surface}
use Rattle.cpl_xgrid.specs.declared.parts.Surface.TheVariants.{Land, Ocean}
use Rattle.cpl_state.specs.declared.whole.Whole.{Whole}
use Rattle.cpl_state.specs.declared.whole.Mid.{Mid}
use Rattle.cpl_state.specs.States.{air_cells, all_of_cell, land_cells, ocean_cells, part_count}
use Rattle.cpl_state.specs.Elements.{air_number, area_before, areas_in, areas_on, part_area, refs_of_surface_cell, row_at, rows_before, share_at, surface_number}
use Rattle.cpl_state.specs.FastStep.{Before, absorbed, albedo, category_heat_after, fast_after, for_each, for_each_category, land_after, skin_after, sun_on}
use Rattle.cpl_state.specs.FastLaws.{CanStep}
use Rattle.cpl_laws.specs.Once.{IsNumbered}
use Rattle.cpl_laws.proofs.FastKept.{keeps_all}
use Rattle.cpl_fast.specs.declared.flows.Flow.{Flow}
use Rattle.cpl_fast.specs.declared.room.FastRoom.{FastRoom}
use Rattle.cpl_fast.specs.Filled.{AreElementAreas}
use Rattle.cpl_fast.specs.Rooms.{ArePartAreas, HaveSuns, IsDivided, IsFastRoom}
use Rattle.cpl_fast.specs.Stages.{HasAir, HasIce, HasLand, HasOtherIce, HasOtherLand, HasOtherSurface, HoldsAir, IsLawful, with_air}

-- THE ROOM

-- the areas of elements go by the parts alone
module _ (grid : Grid) (whole other : Whole) (same : whole.parts ≡ other.parts) where
  on_is : (ref : XRef) (list : Surface) → areas_on grid whole ref list ≡ areas_on grid other ref list
  on_is ref Land = refl
  on_is ref Ocean = ap (λ (parts : List ℤ). shares_of (row_at grid ref).area (all_of_cell (part_count grid) (surface_number grid ref) parts)) same

  areas_are : (ref : XRef) → areas_in grid whole ref ≡ areas_in grid other ref
  unfolding areas_in
  areas_are ref = on_is ref ref.list

  part_is : (list : Surface) (n k : ℕ) → part_area grid whole list n k ≡ part_area grid other list n k
  unfolding part_area
  part_is list n k = λ i. total_of (map (λ (ref : XRef). at (areas_are ref i) k) (refs_of_surface_cell grid list n))

  elements_stay : (list : Surface) (areas : List ℤ) → AreElementAreas grid whole list areas → AreElementAreas grid other list areas
  elements_stay list areas are = record { count = are.count; each = λ m k l h. are.each m k l h ∙ ap (λ (xs : List ℤ). at xs k) (areas_are (record { list = list; row = m })) }

  parts_stay : (list : Surface) (areas : List ℤ) → ArePartAreas grid whole list areas → ArePartAreas grid other list areas
  parts_stay list areas are = record { count = are.count; each = λ n k l h. are.each n k l h ∙ part_is list n k }

-- the sun that elements absorb goes by the parts and the air's sun alone
module _ (s : Before) (mid : Mid) (same : s.mid.whole.parts ≡ mid.whole.parts) (sun : s.mid.whole.air_sun ≡ mid.whole.air_sun) where
  absorbed_stays : (ref : XRef) (k : ℕ) → absorbed s ref k ≡ absorbed (record s { mid = mid }) ref k
  unfolding absorbed share_at area_before sun_on
  absorbed_stays ref k =
      let areas = areas_are s.grid s.mid.whole mid.whole same ref in
      let first = rows_before s.grid ref ref.list in
      let n = air_number s.grid ref in
      λ i. part_of
      (share (part_of (at (sun i) n) (at s.rates.month (s.month - 1)) (pos 1_000)) (first +ℤ total_of (take k (areas i))) (first +ℤ total_of (take k (areas i)) +ℤ at (areas i) k) (at s.grid.air.area n))
      (pos 1_000 -ℤ albedo s.rates ref.list k) (pos 1_000)

  suns_stay : (list : Surface) (flows : List Flow) → HaveSuns s list flows → HaveSuns (record s { mid = mid }) list flows
  suns_stay list flows have = record { each = λ m k l h. have.each m k l h ∙ absorbed_stays (record { list = list; row = m }) k }

  pub divided_stays : (room : FastRoom) → IsDivided s room → IsDivided (record s { mid = mid }) room
  divided_stays room is = record {
    room = is.room;
    land = elements_stay s.grid s.mid.whole mid.whole same Land room.land.areas.items is.land;
    ocean = elements_stay s.grid s.mid.whole mid.whole same Ocean room.ocean.areas.items is.ocean;
    land_area = parts_stay s.grid s.mid.whole mid.whole same Land room.land_area.items is.land_area;
    ocean_area = parts_stay s.grid s.mid.whole mid.whole same Ocean room.ocean_area.items is.ocean_area;
    land_suns = suns_stay Land room.land_flows.items is.land_suns;
    ocean_suns = suns_stay Ocean room.ocean_flows.items is.ocean_suns;
  }

-- a step that can be made is lawful
pub lawful_is : (s : Before) → CanStep s → IsNumbered s.grid → MatesAgree s.grid.air.mosaic
    → IsMosaic s.grid.air.mosaic.tiles s.grid.air.mosaic.contacts → IsMosaic s.grid.land.mosaic.tiles s.grid.land.mosaic.contacts → IsMosaic s.grid.ocean.mosaic.tiles s.grid.ocean.mosaic.contacts
    → IsLawful s
lawful_is s can is mates air land ocean = record {
  airs = air.sizes.cells;
  lands = land.sizes.cells;
  oceans = ocean.sizes.cells;
  numbers = is;
  mates = mates;
  can = can;
  keeps = keeps_all s is can.air mates can;
}

-- THE STATE AND THE ROOM

module _ (s : Before) (room : FastRoom) (air land ice : Mid) (with_its_air : air ≡ with_air s.mid room) (on_land : HasOtherLand air land) (on_ice : HasOtherIce land ice) where
  pub after_is : HasAir s room → HasLand s land → HasIce s ice → ice ≡ fast_after s
  unfolding fast_after
  after_is has_air has_land has_ice =
      on_ice
      ∙ (λ i. record (on_land i) { whole = record (on_land i).whole { ice_heat = has_ice.ice i }; skin_water = has_ice.water i; skin_heat = has_ice.heat i })
      ∙ (λ i. record (with_its_air i) {
        whole = record (with_its_air i).whole { land_heat = has_land.heat i; land_water = has_land.water i; ice_heat = for_each_category s.grid (category_heat_after s) };
        skin_water = for_each (ocean_cells s.grid) (λ n. (skin_after s n).water);
        skin_heat = for_each (ocean_cells s.grid) (λ n. (skin_after s n).heat);
      })
      ∙ (λ i. record s.mid {
        whole = record s.mid.whole {
          air_heat = has_air.heat i;
          air_vapour = has_air.vapour i;
          land_heat = for_each (land_cells s.grid) (λ n. (land_after s n).heat);
          land_water = for_each (land_cells s.grid) (λ n. (land_after s n).water);
          ice_heat = for_each_category s.grid (category_heat_after s);
        };
        skin_water = for_each (ocean_cells s.grid) (λ n. (skin_after s n).water);
        skin_heat = for_each (ocean_cells s.grid) (λ n. (skin_after s n).heat);
      })

  pub parts_same : s.mid.whole.parts ≡ ice.whole.parts
  parts_same = sym (ap (λ (m : Mid). m.whole.parts) on_ice ∙ ap (λ (m : Mid). m.whole.parts) on_land ∙ ap (λ (m : Mid). m.whole.parts) with_its_air)

  pub sun_same : s.mid.whole.air_sun ≡ ice.whole.air_sun
  sun_same = sym (ap (λ (m : Mid). m.whole.air_sun) on_ice ∙ ap (λ (m : Mid). m.whole.air_sun) on_land ∙ ap (λ (m : Mid). m.whole.air_sun) with_its_air)

-- room that changed its air for that of the state before
pub air_changed : (s : Before) (old new : FastRoom) → CanStep s → HoldsAir s.mid new → new ≡ record old { air_heat = new.air_heat; air_vapour = new.air_vapour }
    → IsDivided s old → IsDivided s new
air_changed s old new can held rest is =
    let air_heat : length new.air_heat.items ≡ air_cells s.grid = ap length held.heat ∙ can.mid.whole.lengths.air_heat in
    let air_vapour : length new.air_vapour.items ≡ air_cells s.grid = ap length held.vapour ∙ can.mid.whole.lengths.air_vapour in
    let fast : IsFastRoom s.grid (record old { air_heat = new.air_heat; air_vapour = new.air_vapour }) = search rules in
    subst (IsDivided s) (sym rest) (record { room = fast; land = is.land; ocean = is.ocean; land_area = is.land_area; ocean_area = is.ocean_area; land_suns = is.land_suns; ocean_suns = is.ocean_suns })

-- the lists of the surface have no part in what a room is of
pub surface_changed : (s : Before) (old new : FastRoom) → HasOtherSurface old new → IsDivided s old → IsDivided s new
surface_changed s old new rest is =
    let fast : IsFastRoom s.grid (record old {
      land_heat = new.land_heat;
      land_water = new.land_water;
      ice_heat = new.ice_heat;
      skin_water = new.skin_water;
      skin_heat = new.skin_heat;
    }) = search rules in
    subst (IsDivided s) (sym rest) (record { room = fast; land = is.land; ocean = is.ocean; land_area = is.land_area; ocean_area = is.ocean_area; land_suns = is.land_suns; ocean_suns = is.ocean_suns })
