-- Nothing flows through elements and parts of the area 0.
use Rattle.std.proofs.Common.{◌≡◌, ◌∙◌, refl, sym, ap, ℕ, zero, suc, ◌<◌, arith, List, length}
use Rattle.std.specs.Prelude.{ℤ, pos, ◌+ℤ◌, ◌-ℤ◌, All}
use Rattle.std.proofs.lemmas.Int.{ints}
use Rattle.cpl_fixed.specs.Amounts.{at}
use Rattle.cpl_fixed.specs.Shares.{part_of, share}
use Rattle.cpl_flux.specs.Elements.{element}
use Rattle.cpl_flux.specs.Temperatures.{part_temperature, weather}
use Rattle.cpl_flux.proofs.Nothing.{no_element}
use Rattle.cpl_xgrid.specs.declared.parts.XRef.{XRef}
use Rattle.cpl_xgrid.specs.Rows.{rows_of}
use Rattle.cpl_xgrid.specs.declared.parts.Surface.{Surface}
use Rattle.cpl_xgrid.specs.declared.parts.Surface.TheVariants.{Ocean}
use Rattle.cpl_state.specs.States.{air_side, ocean_cells, part_count}
use Rattle.cpl_state.specs.Elements.{air_number, area_before, element_area, element_count, part_area, refs_of_surface_cell, share_at, surface_number}
use Rattle.cpl_state.specs.FastStep.{Before, absorbed, albedo, flux, rain, rain_on, sun_on, surface_part}
use Rattle.cpl_laws.proofs.Elements.{each_of_surface}
use Rattle.cpl_laws.proofs.Groups.{total_none}
use Rattle.cpl_fast.specs.declared.flows.Flow.{Flow}
use Rattle.cpl_fast.specs.declared.flows.Tables.{Tables}
use Rattle.cpl_fast.specs.Filled.{AreTables}
use Rattle.cpl_fast.specs.Flows.{flow_at, no_flow}
use Rattle.cpl_fast.specs.Places.{place_in}
use Rattle.cpl_fast.specs.Stages.{AreFlows, IsLawful, dry, flow_of}
use Rattle.cpl_fast.specs.Sums.{AreClear, none}
use Rattle.cpl_fast.specs.Surfaces.{ocean_sums}
use Rattle.cpl_fast.proofs.Nothing.{no_part}
use Rattle.cpl_fast.proofs.Parts.{share_none}
use Rattle.cpl_fast.proofs.ToSurface.{sums_are}

-- no share of an amount
no_share : (s : Before) (amount : ℤ) (ref : XRef) (k : ℕ) → element_area s.grid s.mid.whole ref k ≡ pos 0 → share_at s.grid s.mid.whole amount ref k ≡ pos 0
unfolding share_at
no_share s amount ref k e =
    let from = area_before s.grid s.mid.whole ref k in
    let whole = at s.grid.air.area (air_number s.grid ref) in
    (λ i. share amount from (from +ℤ e i) whole) ∙ share_none amount from whole

pub no_rain_on : (s : Before) (ref : XRef) (k : ℕ) → element_area s.grid s.mid.whole ref k ≡ pos 0 → rain_on s ref k ≡ pos 0
unfolding rain_on
no_rain_on s ref k e = no_share s (rain s (air_number s.grid ref)) ref k e

pub no_flow_of : (s : Before) (wet : XRef → ℕ → ℤ) (ref : XRef) (k : ℕ) → element_area s.grid s.mid.whole ref k ≡ pos 0 → wet ref k ≡ pos 0 → flow_of s wet ref k ≡ no_flow
unfolding flux absorbed
no_flow_of s wet ref k e is_dry =
    let air = air_side s.grid s.mid.whole (air_number s.grid ref) in
    let part = surface_part s.grid s.mid ref.list (surface_number s.grid ref) k in
    let passed = ap (element s.rates air part) e ∙ no_element s.rates air (weather s.rates air) part (part_temperature s.rates part) in
    let kept = pos 1_000 -ℤ albedo s.rates ref.list k in
    let sun = ap (λ (x : ℤ). part_of x kept (pos 1_000)) (no_share s (sun_on s (air_number s.grid ref)) ref k e) ∙ no_part kept in
    λ i. record { heat = (passed i).heat; water = (passed i).water; sun = sun i; rain = is_dry i }

-- the area of a part of the ocean's mosaic
part_area_is : (s : Before) (n k : ℕ) → (surface_part s.grid s.mid Ocean n k).area ≡ part_area s.grid s.mid.whole Ocean n k
part_area_is s n zero = refl
part_area_is s n (suc k) = refl

module _ (s : Before) (lawful : IsLawful s) (flows : List Flow) (are : AreFlows s (rain_on s) Ocean flows) (n k : ℕ) (below : n < ocean_cells s.grid) (part : k < part_count s.grid) where
  -- the elements of a part of the area 0 have none
  no_flows : part_area s.grid s.mid.whole Ocean n k ≡ pos 0 → All (λ (ref : XRef). flow_of s (rain_on s) ref k ≡ no_flow) (refs_of_surface_cell s.grid Ocean n)
  no_flows e =
      each_of_surface s.grid lawful.numbers (λ (ref : XRef). flow_of s (rain_on s) ref k ≡ no_flow) Ocean n below (λ m l same. (
      let ref : XRef = record { list = Ocean; row = m } in
      let placed = lawful.keeps.placed ref k (record { row = l; part = part }) in
      let own = part_area_is s (surface_number s.grid ref) k ∙ ap (λ (c : ℕ). part_area s.grid s.mid.whole Ocean c k) same ∙ e in
      let least = placed.element.least in
      let most = placed.element.in_part in
      let area : element_area s.grid s.mid.whole ref k ≡ pos 0 = omega (arith, ints, own, least, most) in
      no_flow_of s (rain_on s) ref k area (no_rain_on s ref k area)))

  pub no_sums : part_area s.grid s.mid.whole Ocean n k ≡ pos 0 → ocean_sums s.grid.xgrid flows n k ≡ none
  unfolding ocean_sums
  no_sums e =
      let each = no_flows e in
      let refs = refs_of_surface_cell s.grid Ocean n in
      let nothing = λ (number : Flow → ℤ). total_none (λ (ref : XRef). number (flow_of s (rain_on s) ref k)) refs in
      let heat = nothing (λ (flow : Flow). flow.heat) (λ j d l. ap (λ (flow : Flow). flow.heat) (each j d l)) in
      let water = nothing (λ (flow : Flow). flow.water) (λ j d l. ap (λ (flow : Flow). flow.water) (each j d l)) in
      let sun = nothing (λ (flow : Flow). flow.sun) (λ j d l. ap (λ (flow : Flow). flow.sun) (each j d l)) in
      let rain = nothing (λ (flow : Flow). flow.rain) (λ j d l. ap (λ (flow : Flow). flow.rain) (each j d l)) in
      sums_are s lawful.numbers Ocean flows are n k below part ∙ (λ i. record { heat = heat i; water = water i; sun = sun i; rain = rain i })

-- in the tables of a list nothing flows through the elements of the area 0, where no rain falls on them
pub are_clear : (s : Before) (list : Surface) (wet : XRef → ℕ → ℤ) → ((ref : XRef) (k : ℕ) → element_area s.grid s.mid.whole ref k ≡ pos 0 → wet ref k ≡ pos 0)
    → (tables : Tables) → AreTables s list tables → (flows : List Flow) → AreFlows s wet list flows → AreClear tables flows
are_clear s list wet is_dry tables are flows have m below k part empty =
    let width = are.width in
    let h : k < element_count s.grid list = omega (arith, part, width) in
    let count = are.links.count in
    let l : m < length (rows_of s.grid.xgrid list) = omega (arith, below, count) in
    let area = sym (are.areas.each m k l h) ∙ ap (λ (rows : ℕ). at tables.areas.items (place_in rows m k)) (sym count) ∙ empty in
    ap (λ (r : ℕ). flow_at flows (place_in r m k)) count ∙ have.each m k l h
    ∙ no_flow_of s wet (record { list = list; row = m }) k area (is_dry (record { list = list; row = m }) k area)

pub dry_clear : (s : Before) (list : Surface) (tables : Tables) → AreTables s list tables → (flows : List Flow) → AreFlows s dry list flows → AreClear tables flows
dry_clear s list = are_clear s list dry (λ ref k e. refl)
