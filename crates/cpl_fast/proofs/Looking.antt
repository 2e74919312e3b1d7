-- What a fast step sees of a state: the numbers of its cells and parts as they stand in lists.
use Rattle.std.proofs.Common.{◌≡◌, ◌∙◌, ap, sym, subst, ℕ, zero, suc, ◌+◌, ◌*◌, ◌<◌, arith, rules, mul_comm, List, [], length}
use Rattle.std.specs.Prelude.{ℤ}
use Rattle.cpl_fixed.specs.Amounts.{at}
use Rattle.cpl_flux.specs.declared.parts.Kind.TheVariants as kind
use Rattle.cpl_flux.specs.Elements.{IsAirSide}
use Rattle.cpl_mosaic.specs.Contacts.{cells_of}
use Rattle.cpl_mosaic.specs.Mates.{MatesAgree}
use Rattle.cpl_xgrid.specs.declared.parts.Surface.{Surface}
use Rattle.cpl_xgrid.specs.declared.parts.Surface.TheVariants.{Land, Ocean}
use Rattle.cpl_state.specs.States.{air_cells, air_side, categories, of_cell}
use Rattle.cpl_state.specs.Elements.{element_count, part_area, tiles_of}
use Rattle.cpl_state.specs.FastStep.{Before, surface_part}
use Rattle.cpl_state.specs.FastLaws.{CanStep}
use Rattle.cpl_laws.specs.Once.{IsNumbered}
use Rattle.cpl_fast.specs.declared.flows.Sky.{Sky}
use Rattle.cpl_fast.specs.declared.flows.Tables.{Tables}
use Rattle.cpl_fast.specs.declared.part_lists.PartLists.{PartLists}
use Rattle.cpl_fast.specs.declared.room.FastRoom.{FastRoom}
use Rattle.cpl_fast.specs.Flows.{sky_at}
use Rattle.cpl_fast.specs.PartLists.{AreParts, area_of_part, part_by, part_in}
use Rattle.cpl_fast.specs.Tables.{side_of, sky_by}
use Rattle.cpl_fast.specs.Places.{place_in}
use Rattle.cpl_fast.specs.Filled.{AreElementAreas, AreSkies, AreTables}
use Rattle.cpl_fast.specs.Rooms.{ArePartAreas, HasTables, IsDivided, IsFastRoom}
use Rattle.cpl_fast.specs.Stages.{IsLawful, IsSeen}
use Rattle.cpl_fast.proofs.InRange.{air_in_range}
use Rattle.cpl_fast.proofs.Making.{skies_are}

-- THE PARTS OF A SURFACE

module _ (s : Before) (list : Surface) (lists : PartLists) (are : ArePartAreas s.grid s.mid.whole list lists.area.now) (cells : length lists.heat.now ≡ cells_of (tiles_of s.grid list)) where
  own_area : (n k : ℕ) → n < cells_of (tiles_of s.grid list) → k < element_count s.grid list → area_of_part lists n k ≡ part_area s.grid s.mid.whole list n k
  own_area n k l h = ap (λ (count : ℕ). at lists.area.now (place_in count n k)) cells ∙ are.each n k l h

  -- there are as many areas as parts
  area_count : element_count s.grid list ≡ lists.categories + 1 → length lists.area.now ≡ length lists.heat.now * (lists.categories + 1)
  area_count width = are.count ∙ (λ i. sym cells i * width i)

-- those of the land, in lists of its cells and none of ice
module _ (s : Before) (can : CanStep s) (lists : PartLists) (first_is : lists.first ≡ kind.Land) (none : lists.categories ≡ 0)
    (heat_is : lists.heat.now ≡ s.mid.whole.land_heat) (water_is : lists.water.now ≡ s.mid.whole.land_water) (are : ArePartAreas s.grid s.mid.whole Land lists.area.now) where
  land_count : length lists.heat.now ≡ cells_of (tiles_of s.grid Land)
  land_count = ap length heat_is ∙ can.mid.whole.lengths.land_heat

  land_part_is : (n k : ℕ) → n < cells_of (tiles_of s.grid Land) → k < 1 → part_in lists n k ≡ surface_part s.grid s.mid Land n k
  unfolding part_in
  land_part_is n zero l h =
      let own = own_area s Land lists are land_count n 0 l h in
      λ i. part_by (first_is i) (at (heat_is i) n) (at (water_is i) n) (own i)
  land_part_is n (suc k) l h = absurd (omega (arith, h))

  pub land_parts_are : lists.ice_heat.now ≡ [] → lists.ice.now ≡ [] → AreParts s Land lists
  land_parts_are ice_heat_is ice_is =
      let width : 1 ≡ lists.categories + 1 = omega (arith, none) in
      let product = ap (λ (k : ℕ). length lists.heat.now * k) none in
      let no_ice : length lists.heat.now * lists.categories ≡ 0 = omega (arith, product) in
      record {
        cells = land_count;
        categories = width;
        counts = record {
          water = ap length water_is ∙ can.mid.whole.lengths.land_water ∙ sym land_count;
          ice_heat = ap length ice_heat_is ∙ sym no_ice;
          ice = ap length ice_is ∙ sym no_ice;
          area = area_count s Land lists are land_count width;
        };
        each = land_part_is;
      }

-- those of the ocean's mosaic
module _ (s : Before) (can : CanStep s) (lists : PartLists) (first_is : lists.first ≡ kind.Water) (some : lists.categories ≡ categories s.grid)
    (heat_is : lists.heat.now ≡ s.mid.skin_heat) (water_is : lists.water.now ≡ s.mid.skin_water)
    (ice_heat_is : lists.ice_heat.now ≡ s.mid.whole.ice_heat) (ice_is : lists.ice.now ≡ s.mid.whole.ice) (are : ArePartAreas s.grid s.mid.whole Ocean lists.area.now) where
  ocean_count : length lists.heat.now ≡ cells_of (tiles_of s.grid Ocean)
  ocean_count = ap length heat_is ∙ can.mid.skin_heat.count

  ocean_part_is : (n k : ℕ) → n < cells_of (tiles_of s.grid Ocean) → k < element_count s.grid Ocean → part_in lists n k ≡ surface_part s.grid s.mid Ocean n k
  unfolding part_in
  ocean_part_is n zero l h =
      let own = own_area s Ocean lists are ocean_count n 0 l h in
      λ i. part_by (first_is i) (at (heat_is i) n) (at (water_is i) n) (own i)
  ocean_part_is n (suc k) l h =
      let own = own_area s Ocean lists are ocean_count n (suc k) l h in
      λ i. part_by kind.Ice (of_cell (some i) n k (ice_heat_is i)) (of_cell (some i) n k (ice_is i)) (own i)

  -- there are as many numbers of ice as categories of all cells
  ice_count : (numbers : List ℤ) → length numbers ≡ categories s.grid * cells_of (tiles_of s.grid Ocean) → length numbers ≡ length lists.heat.now * lists.categories
  ice_count numbers count = count ∙ mul_comm (categories s.grid) (cells_of (tiles_of s.grid Ocean)) ∙ (λ i. sym ocean_count i * sym some i)

  pub ocean_parts_are : AreParts s Ocean lists
  ocean_parts_are =
      let width : element_count s.grid Ocean ≡ lists.categories + 1 = omega (arith, some) in
      record {
        cells = ocean_count;
        categories = width;
        counts = record {
          water = ap length water_is ∙ can.mid.skin_water.count ∙ sym ocean_count;
          ice_heat = ap length ice_heat_is ∙ ice_count s.mid.whole.ice_heat can.mid.whole.lengths.ice_heat;
          ice = ap length ice_is ∙ ice_count s.mid.whole.ice can.mid.whole.lengths.ice;
          area = area_count s Ocean lists are ocean_count width;
        };
        each = ocean_part_is;
      }

-- THE AIR

module _ (s : Before) (is : IsNumbered s.grid) (mates : MatesAgree s.grid.air.mosaic) (can : CanStep s) (heat vapour area : List ℤ)
    (heat_is : heat ≡ s.mid.whole.air_heat) (vapour_is : vapour ≡ s.mid.whole.air_vapour) (area_is : area ≡ s.grid.air.area) where
  pub side_in_range : (n : ℕ) → n < air_cells s.grid → IsAirSide (side_of heat vapour area n)
  side_in_range n l =
      let same : side_of heat vapour area n ≡ air_side s.grid s.mid.whole n = (λ i. side_of (heat_is i) (vapour_is i) (area_is i) n) in
      subst IsAirSide (sym same) (air_in_range s is can.air mates can n l)

  pub skies_seen : (skies : List Sky) → length skies ≡ air_cells s.grid → ((n : ℕ) → n < air_cells s.grid → sky_at skies n ≡ sky_by s.rates heat vapour area n) → AreSkies s skies
  skies_seen skies count value = skies_are s skies count (λ n l. value n l ∙ (λ i. sky_by s.rates (heat_is i) (vapour_is i) (area_is i) n))

-- ROOM

-- the tables of a list, where the areas of the state stand
tables_are : (s : Before) (list : Surface) (tables : Tables) → HasTables s.grid list tables → AreElementAreas s.grid s.mid.whole list tables.areas.items → AreTables s list tables
tables_are s list tables has areas = record { width = has.width; links = has.links; areas = areas; used = has.used }

-- room of a state in which the skies were written
pub room_seen : (s : Before) (old new : FastRoom) → IsLawful s → IsDivided s old → AreSkies s new.skies.items → new ≡ record old { skies = new.skies } → IsSeen s new
room_seen s old new lawful is skies rest =
    let count = skies.count in
    let fast : IsFastRoom s.grid (record old { skies = new.skies }) = search rules in
    let now : IsSeen s (record old { skies = new.skies }) = record {
      lawful = lawful;
      room = record { room = fast; land = is.land; ocean = is.ocean; land_area = is.land_area; ocean_area = is.ocean_area; land_suns = is.land_suns; ocean_suns = is.ocean_suns };
      land = tables_are s Land old.land is.room.land is.land;
      ocean = tables_are s Ocean old.ocean is.room.ocean is.ocean;
      skies = skies;
    } in
    subst (IsSeen s) (sym rest) now
