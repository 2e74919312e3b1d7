-- What flows through the elements and rains on them by the tables is that of the definitions.
use Rattle.std.proofs.Common.{◌≡◌, ◌∙◌, sym, ap, subst, Bool, true, false, ℕ, ◌*◌, ◌<◌, ◌≤◌, arith, List, length, map, cond, min}
use Rattle.std.specs.Prelude.{ℤ, pos, ◌+ℤ◌, ◌-ℤ◌, ◌*ℤ◌, ◌≤ℤ◌}
use Rattle.std.specs.List.{range_with_len}
use Rattle.std.proofs.lemmas.Int.{ints}
use Rattle.std.proofs.lemmas.List.FromFn.{length-map-range_with_len}
use Rattle.cpl_fixed.specs.Amounts.{IsAmount, at}
use Rattle.cpl_fixed.specs.Shares.{share}
use Rattle.cpl_fixed.specs.Totals.{total_of}
use Rattle.cpl_fixed.specs.declared.limits.TheConstants.{VAPOUR_HEAT, WATER_HEAT}
use Rattle.cpl_flux.specs.declared.parts.AirSide.{AirSide}
use Rattle.cpl_flux.specs.declared.parts.Part.{Part}
use Rattle.cpl_flux.specs.declared.temperatures.TheConstants.{FREEZING, HOTTEST}
use Rattle.cpl_flux.specs.Elements.{IsElement, IsPart}
use Rattle.cpl_flux.specs.Temperatures.{temperature, weather}
use Rattle.cpl_xgrid.specs.Rows.{refs_to, rows_of}
use Rattle.cpl_xgrid.specs.declared.parts.XRef.{XRef}
use Rattle.cpl_xgrid.specs.declared.parts.Surface.{Surface}
use Rattle.cpl_xgrid.specs.declared.parts.Surface.TheVariants.{Land, Ocean}
use Rattle.cpl_state.specs.States.{air_cells, air_side}
use Rattle.cpl_state.specs.Elements.{air_number, area_before, element_area, element_count, over_all, over_elements, surface_number, share_at}
use Rattle.cpl_state.specs.FastStep.{Before, absorbed, entered, heat_down, heat_given, rain, rain_on, surface_part, water_given, water_up, for_each}
use Rattle.cpl_state.specs.FastLaws.{IsPlaced}
use Rattle.cpl_laws.proofs.Elements.{air_below, surface_below}
use Rattle.cpl_laws.proofs.FastSums.{air_sum, all_water_with, all_with, given_heat, given_water, heat_with, over_rows, water_with}
use Rattle.cpl_laws.proofs.Held.{read_cell}
use Rattle.cpl_laws.proofs.Once.{refs_total}
use Rattle.cpl_laws.proofs.Sums.{cells_same}
use Rattle.cpl_laws.specs.Once.{IsNumbered}
use Rattle.cpl_fast.specs.declared.flows.Flow.{Flow}
use Rattle.cpl_fast.specs.declared.flows.Sky.{Sky}
use Rattle.cpl_fast.specs.declared.flows.Tables.{Tables}
use Rattle.cpl_fast.specs.declared.part_lists.PartLists.{PartLists}
use Rattle.cpl_fast.specs.declared.sums.Sums.{Sums}
use Rattle.cpl_fast.specs.Filled.{AreSkies, AreTables}
use Rattle.cpl_fast.specs.Flows.{CanFlow, IsInCell, IsSky, area_in, before_in, flow_again, flow_at, link_at, part_of_row, sky_at, sky_of}
use Rattle.cpl_fast.specs.PartLists.{AreParts}
use Rattle.cpl_fast.specs.Places.{place_in}
use Rattle.cpl_fast.specs.Rain.{AreDry, in_list, rain_in, rain_on_row, rained_on}
use Rattle.cpl_fast.specs.Rooms.{HaveSuns}
use Rattle.cpl_fast.specs.Stages.{AreFlows, IsLawful, dry, flow_of, given, sums_of}
use Rattle.cpl_fast.specs.Sums.{SumsAre, net_heat, taken}
use Rattle.cpl_fast.proofs.Elementwise.{list_is}
use Rattle.cpl_fast.proofs.Found.{area_found, before_found, flow_found, part_found, sky_found}
use Rattle.cpl_fast.proofs.InRange.{air_in_range, part_in_range, some_parts}

-- TEMPERATURES

coolest : (b : Bool) (t : ℕ) → cond b FREEZING (min t HOTTEST) ≤ HOTTEST
coolest true t = omega arith
coolest false t = omega arith

temperature_most : (heat capacity : ℕ) → temperature heat capacity ≤ HOTTEST
temperature_most heat capacity = coolest _ _

-- ROWS

-- sums over all rows of a list
module _ (s : Before) (is : IsNumbered s.grid) (list : Surface) (wet : XRef → ℕ → ℤ) where
  over_all_rows : (f : XRef → ℕ → ℤ) → over_all s.grid f (refs_to list (range_with_len 0 (length (rows_of s.grid.xgrid list)))) ≡ over_rows s.grid list f
  over_all_rows f = refs_total (over_elements s.grid f) list (range_with_len 0 (length (rows_of s.grid.xgrid list)))

  pub rows_with : over_rows s.grid list (heat_with s wet) ≡ over_rows s.grid list (heat_down s) -ℤ (VAPOUR_HEAT *ℤ over_rows s.grid list (water_up s)) +ℤ (WATER_HEAT *ℤ over_rows s.grid list wet)
  rows_with =
      let all = all_with s is wet (refs_to list (range_with_len 0 (length (rows_of s.grid.xgrid list)))) in
      let a = over_all_rows (heat_with s wet) in
      let b = over_all_rows (heat_down s) in
      let c = over_all_rows (water_up s) in
      let d = over_all_rows wet in
      sym a ∙ all ∙ (λ i. b i -ℤ (VAPOUR_HEAT *ℤ c i) +ℤ (WATER_HEAT *ℤ d i))

  pub rows_water_with : over_rows s.grid list (water_with s wet) ≡ over_rows s.grid list wet -ℤ over_rows s.grid list (water_up s)
  rows_water_with =
      let all = all_water_with s is wet (refs_to list (range_with_len 0 (length (rows_of s.grid.xgrid list)))) in
      let a = over_all_rows (water_with s wet) in
      let c = over_all_rows (water_up s) in
      let d = over_all_rows wet in
      sym a ∙ all ∙ (λ i. d i -ℤ c i)

-- LISTS

module _ (s : Before) (lawful : IsLawful s) (list : Surface) (tables : Tables) (skies : List Sky) (are : AreTables s list tables) (seen : AreSkies s skies) where
  abbrev rows : ℕ
  rows = length (rows_of s.grid.xgrid list)

  abbrev width : ℕ
  width = element_count s.grid list

  rows_most : (l : Surface) → length (rows_of s.grid.xgrid l) ≤ 1_048_576
  rows_most Land = let few = lawful.numbers.rules.rows.few in omega (arith, few)
  rows_most Ocean = let few = lawful.numbers.rules.rows.few in omega (arith, few)

  abbrev ref : ℕ → XRef
  ref m = record { list = list; row = m }

  -- what stands in the tables for an element
  module _ (m k : ℕ) (l : m < rows) (h : k < width) where
    abbrev air_of : AirSide
    air_of = air_side s.grid s.mid.whole (air_number s.grid (ref m))

    sky_is : sky_of skies tables m ≡ record { air = air_of; weather = weather s.rates air_of }
    sky_is = sky_found s list tables skies are seen lawful.numbers lawful.can m k l h

    area_is : area_in tables m k ≡ element_area s.grid s.mid.whole (ref m) k
    area_is = area_found s list tables skies are seen lawful.numbers lawful.can m k l h

    before_is : before_in tables m k ≡ area_before s.grid s.mid.whole (ref m) k
    before_is = before_found s list tables skies are seen lawful.numbers lawful.can m k l h

    placed : IsPlaced s (ref m) k
    placed = lawful.keeps.placed (ref m) k (record { row = l; part = h })

    below : air_number s.grid (ref m) < air_cells s.grid
    below = air_below s.grid lawful.numbers list m l

    sky_in_range : IsSky (sky_of skies tables m)
    sky_in_range =
        subst IsSky (sym sky_is) (record {
          air = air_in_range s lawful.numbers lawful.can.air lawful.mates lawful.can (air_number s.grid (ref m)) below;
          temperature = temperature_most _ _;
        })

    least : pos 0 ≤ℤ area_in tables m k
    least = let e = area_is in let p = placed.element.least in omega (arith, ints, e, p)

    natural : pos 0 ≤ℤ before_in tables m k
    natural = let e = before_is in let p = placed.before in omega (arith, ints, e, p)

    inside : (before_in tables m k +ℤ area_in tables m k) ≤ℤ (sky_of skies tables m).air.area
    inside =
        let a = area_is in
        let b = before_is in
        let p = placed.within in
        let e : (sky_of skies tables m).air.area ≡ at s.grid.air.area (air_number s.grid (ref m)) = ap (λ (sky : Sky). sky.air.area) sky_is in
        omega (arith, ints, a, b, p, e)

    can_flow_here : (parts : PartLists) → AreParts s list parts → CanFlow (sky_of skies tables m) tables parts m k
    can_flow_here parts own =
        let n = surface_number s.grid (ref m) in
        let part = part_found s list tables parts skies are own seen lawful.numbers lawful.can m k l h in
        record {
          seen = sky_in_range;
          part = subst IsPart (sym part) (part_in_range s lawful.numbers lawful.can.air lawful.mates lawful.can list n k (surface_below s.grid lawful.numbers list m l) h);
          element =
              subst (λ (sky : Sky). IsElement sky.air (part_of_row tables parts m k) (area_in tables m k)) (sym sky_is)
              (subst (λ (p : Part). IsElement air_of p (area_in tables m k)) (sym part)
              (subst (λ (b : ℤ). IsElement air_of (surface_part s.grid s.mid list n k) b) (sym area_is) placed.element));
        }

    can_rain_here : IsInCell (sky_of skies tables m).air.area tables m k
    can_rain_here = record {
      range = sky_in_range.air.area;
      least = least;
      before = natural;
      within = inside;
    }

  -- THE FLOWS OF ALL ELEMENTS

  pub airs : (m : ℕ) → m < length tables.links.items → (link_at tables.links.items m).air < length skies
  airs m l =
      let count = are.links.count in
      let h : m < rows = omega (arith, l, count) in
      let e = (are.links.each m h).air in
      let below = air_below s.grid lawful.numbers list m h in
      let long = seen.count in
      omega (arith, e, below, long)

  row_below : (m : ℕ) → m < length tables.links.items → m < rows
  row_below m l = let count = are.links.count in omega (arith, l, count)

  part_below : (k : ℕ) → k < tables.width → k < width
  part_below k h = let w = are.width in omega (arith, h, w)

  row_above : (m : ℕ) → m < rows → m < length tables.links.items
  row_above m l = let count = are.links.count in omega (arith, l, count)

  part_above : (k : ℕ) → k < width → k < tables.width
  part_above k h = let w = are.width in omega (arith, h, w)

  pub some : 0 < tables.width
  some = let w = are.width in let parts = some_parts s.grid list in omega (arith, w, parts)

  pub few : length tables.links.items ≤ 1_048_576
  few = let e = are.links.count in let most = rows_most list in omega (arith, e, most)

  -- what flows by the parts of its surface
  module _ (parts : PartLists) (own : AreParts s list parts) where
    pub cells : (m : ℕ) → m < length tables.links.items → (link_at tables.links.items m).surface < length parts.heat.now
    cells m l =
        let h = row_below m l in
        let e = (are.links.each m h).surface in
        let below = surface_below s.grid lawful.numbers list m h in
        let long = own.cells in
        omega (arith, e, below, long)

    pub can_flow : (m k : ℕ) → m < length tables.links.items → k < tables.width → CanFlow (sky_of skies tables m) tables parts m k
    can_flow m k l h = can_flow_here m k (row_below m l) (part_below k h) parts own

    pub flows_are : (old flows : List Flow) → HaveSuns s list old → length flows ≡ length tables.links.items * tables.width
        → ((m k : ℕ) → m < length tables.links.items → k < tables.width → flow_at flows (place_in (length tables.links.items) m k) ≡ flow_again s.rates (sky_of skies tables m) tables parts old m k)
        → AreFlows s dry list flows
    flows_are old flows suns count value = record {
      count = count ∙ (λ i. are.links.count i * are.width i);
      each = λ m k l h. (
          let sun = ap (λ (r : ℕ). (flow_at old (place_in r m k)).sun) are.links.count ∙ suns.each m k l h in
          ap (λ (r : ℕ). flow_at flows (place_in r m k)) (sym are.links.count) ∙ value m k (row_above m l) (part_above k h)
          ∙ flow_found s list tables parts skies are own seen lawful.numbers lawful.can m k l h _ sun);
    }

  -- RAIN

  module _ (rains : List ℤ) (rains_are : rains ≡ for_each (air_cells s.grid) (rain s)) where
    pub rains_long : length rains ≡ length skies
    rains_long = ap length rains_are ∙ length-map-range_with_len (rain s) 0 (air_cells s.grid) ∙ sym seen.count

    rain_at : (n : ℕ) → n < air_cells s.grid → at rains n ≡ rain s n
    rain_at n l = ap (λ (xs : List ℤ). at xs n) rains_are ∙ read_cell (rain s) (air_cells s.grid) n l

    rain_in_range : (n : ℕ) → n < air_cells s.grid → IsAmount (rain s n)
    unfolding rain
    rain_in_range n l = let most = lawful.keeps.vapour_before_rain n l in (omega (arith, ints), omega (arith, ints, most.0, most.1))

    pub rains_in_range : (n : ℕ) → n < length skies → IsAmount (at rains n)
    rains_in_range n l =
        let h : n < air_cells s.grid = let e = seen.count in omega (arith, l, e) in
        subst IsAmount (sym (rain_at n h)) (rain_in_range n h)

    pub can_rain_on : (m k : ℕ) → m < length tables.links.items → k < tables.width → IsInCell (sky_at skies (link_at tables.links.items m).air).air.area tables m k
    can_rain_on m k l h = can_rain_here m k (row_below m l) (part_below k h)

    -- the rain on an element
    rain_is : (m : ℕ) → m < rows → (k : ℕ) → k < width → rain_in (at rains (link_at tables.links.items m).air) (sky_at skies (link_at tables.links.items m).air).air.area tables m k ≡ rain_on s (ref m) k
    unfolding rain_on share_at
    rain_is m l k h =
        let n = air_number s.grid (ref m) in
        let water = ap (at rains) (are.links.each m l).air ∙ rain_at n (below m k l h) in
        let before = before_is m k l h in
        let area = area_is m k l h in
        let whole = ap (λ (sky : Sky). sky.air.area) (sky_is m k l h) in
        λ i. share (water i) (before i) (before i +ℤ area i) (whole i)

    wet_is : (flows : List Flow) → AreFlows s dry list flows → (m k : ℕ) → m < rows → k < width
        → rained_on (at rains (link_at tables.links.items m).air) (sky_at skies (link_at tables.links.items m).air).air.area tables flows m k ≡ flow_of s (rain_on s) (ref m) k
    unfolding rained_on
    wet_is flows have m k l h =
        let flow = ap (λ (r : ℕ). flow_at flows (place_in r m k)) are.links.count ∙ have.each m k l h in
        λ i. record (flow i) { rain = rain_is m l k h i }

    -- the flows before it rains
    pub are_dry : (flows : List Flow) → AreFlows s dry list flows → AreDry tables flows
    are_dry flows have m k l h =
        ap (λ (r : ℕ). (flow_at flows (place_in r m k)).rain) are.links.count ∙ ap (λ (flow : Flow). flow.rain) (have.each m k (row_below m l) (part_below k h))

    -- the rain on all elements
    pub fell_is : (fell : ℤ)
        → fell ≡ total_of (map (λ row. rain_on_row (at rains (link_at tables.links.items row).air) (sky_at skies (link_at tables.links.items row).air).air.area tables row) (range_with_len 0 (length tables.links.items)))
        → fell ≡ over_rows s.grid list (rain_on s)
    fell_is fell e =
        let one = λ (m : ℕ). rain_on_row (at rains (link_at tables.links.items m).air) (sky_at skies (link_at tables.links.items m).air).air.area tables m in
        e ∙ ap (λ (n : ℕ). total_of (map one (range_with_len 0 n))) are.links.count
        ∙ cells_same one (λ m. over_elements s.grid (rain_on s) (ref m)) rows (λ m l. (
        let rain = rain_in (at rains (link_at tables.links.items m).air) (sky_at skies (link_at tables.links.items m).air).air.area tables m in
        ap (λ (w : ℕ). total_of (map rain (range_with_len 0 w))) are.width ∙ cells_same rain (rain_on s (ref m)) width (rain_is m l)))

    pub wet_are : (flows new : List Flow) → AreFlows s dry list flows → length new ≡ length flows
        → ((m k : ℕ) → m < length tables.links.items → k < tables.width
        → flow_at new (place_in (length tables.links.items) m k) ≡ rained_on (at rains (link_at tables.links.items m).air) (sky_at skies (link_at tables.links.items m).air).air.area tables flows m k)
        → AreFlows s (rain_on s) list new
    wet_are flows new have count value = record {
      count = count ∙ have.count;
      each = λ m k l h. ap (λ (r : ℕ). flow_at new (place_in r m k)) (sym are.links.count) ∙ value m k (row_above m l) (part_above k h) ∙ wet_is flows have m k l h;
    }

  -- WHAT ALL ELEMENTS OF THE LIST HAVE

  over_is : (wet : XRef → ℕ → ℤ) (flows : List Flow) (number : Flow → ℤ) → AreFlows s wet list flows → in_list flows (length tables.links.items) tables.width number ≡ over_rows s.grid list (λ ref k. number (flow_of s wet ref k))
  over_is wet flows number have =
      (λ i. in_list flows (are.links.count i) (are.width i) number) ∙ list_is s wet number list flows have

  -- the sums of what flows
  pub flown_is : (wet : XRef → ℕ → ℤ) (flows : List Flow) (sums : Sums) → AreFlows s wet list flows → SumsAre sums (in_list flows (length tables.links.items) tables.width) → sums ≡ sums_of s wet list
  flown_is wet flows sums have of =
      let heat = of.heat ∙ over_is wet flows (λ (flow : Flow). flow.heat) have in
      let water = of.water ∙ over_is wet flows (λ (flow : Flow). flow.water) have in
      let sun = of.sun ∙ over_is wet flows (λ (flow : Flow). flow.sun) have in
      let rain = of.rain ∙ over_is wet flows (λ (flow : Flow). flow.rain) have in
      λ i. record { heat = heat i; water = water i; sun = sun i; rain = rain i }

  -- what the air gave, by the sums before it rained and by the rain
  pub given_is : (sums : Sums) (fell : ℤ) → sums ≡ sums_of s dry list → fell ≡ over_rows s.grid list (rain_on s) → taken (record sums { rain = fell }) ≡ given s list
  given_is sums fell of rain =
      let heat = ap (λ (a : Sums). a.heat) of in
      let water = ap (λ (a : Sums). a.water) of in
      let a = given_heat s lawful.numbers list ∙ rows_with s lawful.numbers list (rain_on s) in
      let b = given_water s lawful.numbers list ∙ rows_water_with s lawful.numbers list (rain_on s) in
      let h : net_heat sums +ℤ (WATER_HEAT *ℤ fell) ≡ heat_given s list = omega (arith, ints, heat, water, rain, a) in
      let w : fell -ℤ sums.water ≡ water_given s list = omega (arith, ints, water, rain, b) in
      λ i. record { heat = h i; water = w i }

-- the sun of both lists is what entered
pub entered_is : (s : Before) → IsLawful s → entered s ≡ over_rows s.grid Land (absorbed s) +ℤ over_rows s.grid Ocean (absorbed s)
unfolding entered
entered_is s lawful = air_sum s.grid lawful.numbers (absorbed s)
