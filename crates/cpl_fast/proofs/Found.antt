-- What flows by the tables is what flows through the elements.
use Rattle.std.proofs.Common.{◌≡◌, ◌∙◌, refl, sym, ap, ℕ, zero, suc, ◌+◌, ◌<◌, ◌≤◌, arith, List, length, take}
use Rattle.std.specs.Prelude.{ℤ, pos, ◌+ℤ◌}
use Rattle.std.proofs.lemmas.Int.{ints}
use Rattle.cpl_fixed.specs.Amounts.{at}
use Rattle.cpl_fixed.specs.Totals.{total_of}
use Rattle.cpl_fixed.proofs.ShareLaws.{total_more}
use Rattle.cpl_flux.specs.Temperatures.{weather}
use Rattle.cpl_xgrid.specs.declared.parts.Surface.{Surface}
use Rattle.cpl_xgrid.specs.Rows.{rows_of}
use Rattle.cpl_state.specs.States.{air_side}
use Rattle.cpl_state.specs.Elements.{air_number, surface_number, element_count, element_area, areas_in, area_before}
use Rattle.cpl_state.specs.FastStep.{Before, flux, heat_down, water_up, absorbed, surface_part}
use Rattle.cpl_state.specs.FastLaws.{CanStep}
use Rattle.cpl_diffusion.proofs.Sums.{sum_to, total_range}
use Rattle.cpl_laws.specs.Once.{IsNumbered}
use Rattle.cpl_laws.proofs.Elements.{air_below, surface_below}
use Rattle.cpl_laws.proofs.Areas.{areas_are}
use Rattle.cpl_fast.specs.declared.flows.Sky.{Sky}
use Rattle.cpl_fast.specs.declared.flows.Tables.{Tables}
use Rattle.cpl_fast.specs.declared.part_lists.PartLists.{PartLists}
use Rattle.cpl_fast.specs.Flows.{area_in, before_in, flow_in, flow_through, part_of_row, sky_at, sky_of}
use Rattle.cpl_fast.specs.PartLists.{AreParts, part_in}
use Rattle.cpl_fast.specs.Places.{place_in}
use Rattle.cpl_fast.specs.Tables.{AreLinks}
use Rattle.cpl_fast.specs.Filled.{AreElementAreas, AreTables, AreSkies}

-- the area of an element, and the areas before it
module _ (s : Before) (list : Surface) (tables : Tables) (links : AreLinks s.grid list tables.links.items)
    (are : AreElementAreas s.grid s.mid.whole list tables.areas.items) (is : IsNumbered s.grid) (can : CanStep s) (m : ℕ) (l : m < length (rows_of s.grid.xgrid list)) where
  pub area_by : (k : ℕ) → k < element_count s.grid list → area_in tables m k ≡ element_area s.grid s.mid.whole (record { list = list; row = m }) k
  area_by k h = ap (λ (rows : ℕ). at tables.areas.items (place_in rows m k)) links.count ∙ are.each m k l h

  so_far : (k : ℕ) → k ≤ element_count s.grid list → sum_to (area_in tables m) k ≡ total_of (take k (areas_in s.grid s.mid.whole (record { list = list; row = m })))
  so_far zero h = refl
  so_far (suc k) h =
      let areas = areas_in s.grid s.mid.whole (record { list = list; row = m }) in
      let count = (areas_are s.grid is s.mid.whole can.mid.whole list m l).count in
      let before = so_far k (omega arith) in
      let own = area_by k (omega arith) in
      let e : k + 1 ≡ suc k = omega arith in
      let more = ap (λ (n : ℕ). total_of (take n areas)) (sym e) ∙ total_more areas k (omega arith) in
      omega (arith, ints, before, own, more)

  pub before_by : (k : ℕ) → k < element_count s.grid list → before_in tables m k ≡ area_before s.grid s.mid.whole (record { list = list; row = m }) k
  unfolding area_before
  before_by k h =
      let start = (links.each m l).before in
      let sum = total_range (area_in tables m) k ∙ so_far k (omega arith) in
      λ i. start i +ℤ sum i

module _ (s : Before) (list : Surface) (tables : Tables) (skies : List Sky) (are : AreTables s list tables) (seen : AreSkies s skies)
    (is : IsNumbered s.grid) (can : CanStep s) (m k : ℕ) (l : m < length (rows_of s.grid.xgrid list)) (h : k < element_count s.grid list) where
  -- its area
  pub area_found : area_in tables m k ≡ element_area s.grid s.mid.whole (record { list = list; row = m }) k
  area_found = area_by s list tables are.links are.areas is can m l k h

  -- the areas before it
  pub before_found : before_in tables m k ≡ area_before s.grid s.mid.whole (record { list = list; row = m }) k
  before_found = before_by s list tables are.links are.areas is can m l k h

  -- its sky
  pub sky_found : sky_of skies tables m ≡ record { air = air_side s.grid s.mid.whole (air_number s.grid (record { list = list; row = m })); weather = weather s.rates (air_side s.grid s.mid.whole (air_number s.grid (record { list = list; row = m }))) }
  sky_found = ap (sky_at skies) (are.links.each m l).air ∙ seen.each (air_number s.grid (record { list = list; row = m })) (air_below s.grid is list m l)

-- what flows through an element by its tables and by the lists of its surface's parts
module _ (s : Before) (list : Surface) (tables : Tables) (parts : PartLists) (skies : List Sky) (are : AreTables s list tables) (own : AreParts s list parts) (seen : AreSkies s skies)
    (is : IsNumbered s.grid) (can : CanStep s) (m k : ℕ) (l : m < length (rows_of s.grid.xgrid list)) (h : k < element_count s.grid list) where
  -- its part
  pub part_found : part_of_row tables parts m k ≡ surface_part s.grid s.mid list (surface_number s.grid (record { list = list; row = m })) k
  part_found =
      ap (λ (n : ℕ). part_in parts n k) (are.links.each m l).surface
      ∙ own.each (surface_number s.grid (record { list = list; row = m })) k (surface_below s.grid is list m l) h

  pub flow_found : (sun : ℤ) → sun ≡ absorbed s (record { list = list; row = m }) k → flow_in s.rates (sky_of skies tables m) tables parts m k sun
      ≡ record { heat = heat_down s (record { list = list; row = m }) k; water = water_up s (record { list = list; row = m }) k; sun = absorbed s (record { list = list; row = m }) k; rain = pos 0 }
  unfolding flow_in flux
  flow_found sun stands =
      let sky = sky_found s list tables skies are seen is can m k l h in
      let area = area_found s list tables skies are seen is can m k l h in
      λ i. flow_through s.rates (sky i) (part_found i) (area i) (stands i)
