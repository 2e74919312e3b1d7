-- The sun that is set in the flows of a list is what its elements absorb.
use Rattle.std.proofs.Common.{◌≡◌, ◌∙◌, sym, ap, subst, ℕ, ◌-◌, ◌<◌, arith, List, length, inl, inr, w64, to_z, of_z}
use Rattle.std.specs.Prelude.{ℤ, pos, ◌+ℤ◌, ◌-ℤ◌, ◌≤ℤ◌}
use Rattle.std.proofs.lemmas.Int.{ints}
use Rattle.std.proofs.lemmas.Bool.{cases_lt}
use Rattle.std.proofs.lemmas.List.{get_or_past}
use Rattle.std.proofs.lemmas.List.Elements.{All-from_recursion}
use Rattle.cpl_fixed.specs.Amounts.{IsAmount, at}
use Rattle.cpl_fixed.specs.Ranges.{AreRates, IsFromℤ}
use Rattle.cpl_fixed.specs.Shares.{part_of, share}
use Rattle.cpl_fixed.specs.declared.rates.Rates.{Rates}
use Rattle.cpl_xgrid.specs.Rows.{rows_of}
use Rattle.cpl_xgrid.specs.declared.parts.XRef.{XRef}
use Rattle.cpl_xgrid.specs.declared.parts.Surface.{Surface}
use Rattle.cpl_state.specs.States.{air_cells}
use Rattle.cpl_state.specs.Elements.{air_number, area_before, element_area, element_count, share_at}
use Rattle.cpl_state.specs.FastStep.{Before, absorbed, albedo, sun_on}
use Rattle.cpl_state.specs.FastLaws.{IsPlaced}
use Rattle.cpl_laws.proofs.Elements.{air_below}
use Rattle.cpl_laws.proofs.Flows.{strength_least}
use Rattle.cpl_fast.specs.declared.flows.Flow.{Flow}
use Rattle.cpl_fast.specs.declared.flows.Tables.{Tables}
use Rattle.cpl_fast.specs.Filled.{AreElementAreas}
use Rattle.cpl_fast.specs.Flows.{IsInCell, area_in, before_in, flow_at, link_at}
use Rattle.cpl_fast.specs.Places.{place_in}
use Rattle.cpl_fast.specs.Rooms.{HasTables, HaveSuns}
use Rattle.cpl_fast.specs.Stages.{IsLawful}
use Rattle.cpl_fast.specs.Sums.{AreClear}
use Rattle.cpl_fast.specs.Suns.{only_sun, sun_in}
use Rattle.cpl_fast.proofs.Found.{area_by, before_by}
use Rattle.cpl_fast.proofs.InRange.{air_in_range, some_parts}
use Rattle.cpl_fast.proofs.Nothing.{no_sun_in}

strength_most : (rates : Rates) → AreRates rates → (k : ℕ) → at rates.month k ≤ℤ pos 4_000
strength_most rates are k = elim (cases_lt k (length rates.month)) [
  | inl l ↦ (All-from_recursion (IsFromℤ 0 4_000) rates.month are.month k (pos 0) l).1
  | inr past ↦ let none = get_or_past rates.month k (pos 0) past in omega (arith, ints, none)
]

-- the sun and the areas of the cells of the air as they are lent, and the strength of the sun in the month as it is read
module _ (s : Before) (lawful : IsLawful s) (sun area : List ℤ) (sun_is : sun ≡ s.mid.whole.air_sun) (area_is : area ≡ s.grid.air.area) where
  abbrev strength : ℤ
  strength = to_z w64 (of_z w64 (at s.rates.month (s.month - 1)))

  strength_is : strength ≡ at s.rates.month (s.month - 1)
  strength_is =
      let least = strength_least s.rates lawful.can.rates (s.month - 1) in
      let most = strength_most s.rates lawful.can.rates (s.month - 1) in
      omega (arith, ints, least, most)

  pub strength_natural : pos 0 ≤ℤ strength
  strength_natural = let least = strength_least s.rates lawful.can.rates (s.month - 1) in let is = strength_is in omega (arith, ints, least, is)

  long : length sun ≡ air_cells s.grid
  long = ap length sun_is ∙ lawful.can.mid.whole.lengths.air_sun

  pub sun_natural : (n : ℕ) → n < length sun → pos 0 ≤ℤ at sun n
  sun_natural n l =
      let e = ap (λ (xs : List ℤ). at xs n) sun_is in
      let same = ap length sun_is in
      let least = (lawful.can.mid.whole.stored.air_sun n (pos 0) (omega (arith, l, same))).0 in
      omega (arith, ints, e, least)

  pub sun_in_range : (n : ℕ) → n < length sun → IsAmount (part_of (at sun n) strength (pos 1_000))
  unfolding sun_on
  sun_in_range n l =
      let same : part_of (at sun n) strength (pos 1_000) ≡ sun_on s n = (λ i. part_of (at (sun_is i) n) (strength_is i) (pos 1_000)) in
      let count = long in
      subst IsAmount (sym same) (lawful.keeps.sun n (omega (arith, l, count)))

  module _ (list : Surface) (tables : Tables) (has : HasTables s.grid list tables) (are : AreElementAreas s.grid s.mid.whole list tables.areas.items) where
    abbrev rows : ℕ
    rows = length (rows_of s.grid.xgrid list)

    abbrev ref : ℕ → XRef
    ref m = record { list = list; row = m }

    row_below : (m : ℕ) → m < length tables.links.items → m < rows
    row_below m l = let count = has.links.count in omega (arith, l, count)

    part_below : (k : ℕ) → k < tables.width → k < element_count s.grid list
    part_below k h = let w = has.width in omega (arith, h, w)

    pub some : 0 < tables.width
    some = subst (λ (w : ℕ). 0 < w) (sym has.width) (some_parts s.grid list)

    pub airs_seen : (m : ℕ) → m < length tables.links.items → (link_at tables.links.items m).air < length sun
    airs_seen m l =
        let h = row_below m l in
        let e = (has.links.each m h).air in
        let below = air_below s.grid lawful.numbers list m h in
        let count = long in
        omega (arith, e, below, count)

    -- what stands in the tables for an element
    module _ (m k : ℕ) (l : m < rows) (h : k < element_count s.grid list) where
      placed : IsPlaced s (ref m) k
      placed = lawful.keeps.placed (ref m) k (record { row = l; part = h })

      own_area : area_in tables m k ≡ element_area s.grid s.mid.whole (ref m) k
      own_area = area_by s list tables has.links are lawful.numbers lawful.can m l k h

      before_is : before_in tables m k ≡ area_before s.grid s.mid.whole (ref m) k
      before_is = before_by s list tables has.links are lawful.numbers lawful.can m l k h

      whole_is : at area (link_at tables.links.items m).air ≡ at s.grid.air.area (air_number s.grid (ref m))
      whole_is = λ i. at (area_is i) ((has.links.each m l).air i)

      in_cell : IsInCell (at area (link_at tables.links.items m).air) tables m k
      in_cell =
          let below = air_below s.grid lawful.numbers list m l in
          let side = air_in_range s lawful.numbers lawful.can.air lawful.mates lawful.can (air_number s.grid (ref m)) below in
          let a = own_area in
          let b = before_is in
          let w = whole_is in
          let p = placed in
          record {
            range = subst (IsFromℤ 1 1_099_511_627_776) (sym w) side.area;
            least = (let q = p.element.least in omega (arith, ints, a, q));
            before = (let q = p.before in omega (arith, ints, b, q));
            within = (let q = p.within in omega (arith, ints, a, b, q, w));
          }

      own_sun : sun_in s.rates list (part_of (at sun (link_at tables.links.items m).air) strength (pos 1_000)) (at area (link_at tables.links.items m).air) tables m k ≡ absorbed s (ref m) k
      unfolding sun_in absorbed share_at sun_on
      own_sun =
          let light : part_of (at sun (link_at tables.links.items m).air) strength (pos 1_000) ≡ part_of (at s.mid.whole.air_sun (air_number s.grid (ref m))) (at s.rates.month (s.month - 1)) (pos 1_000) =
          λ i. part_of (at (sun_is i) ((has.links.each m l).air i)) (strength_is i) (pos 1_000) in
          let a = own_area in
          let b = before_is in
          let w = whole_is in
          λ i. part_of (share (light i) (b i) (b i +ℤ a i) (w i)) (pos 1_000 -ℤ albedo s.rates list k) (pos 1_000)

    pub in_cells : (m k : ℕ) → m < length tables.links.items → k < tables.width → IsInCell (at area (link_at tables.links.items m).air) tables m k
    in_cells m k l h = in_cell m k (row_below m l) (part_below k h)

    -- flows of nothing but the sun
    module _ (flows : List Flow)
        (value : (m k : ℕ) → m < length tables.links.items → k < tables.width → flow_at flows (place_in (length tables.links.items) m k)
        ≡ only_sun (sun_in s.rates list (part_of (at sun (link_at tables.links.items m).air) strength (pos 1_000)) (at area (link_at tables.links.items m).air) tables m k)) where
      pub suns_are : HaveSuns s list flows
      suns_are = record {
        each = λ m k l h. (
            let count = has.links.count in
            let width = has.width in
            ap (λ (r : ℕ). (flow_at flows (place_in r m k)).sun) (sym count) ∙ ap (λ (flow : Flow). flow.sun) (value m k (omega (arith, l, count)) (omega (arith, h, width))) ∙ own_sun m k l h);
      }

      pub suns_clear : AreClear tables flows
      suns_clear m l k h empty = value m k l h ∙ ap only_sun (no_sun_in s.rates list _ _ tables m k empty)
