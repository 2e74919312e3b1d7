use Rattle.std.proofs.Common.{◌≡◌, ◌∙◌, sym, ap, subst, ℕ, ◌+◌, ◌*◌, ◌^◌, ◌<◌, ◌≤◌, arith, to_z, of_z, w64, length, List, get_or, inl, inr}
use Rattle.std.specs.Int.{w128}
use Rattle.std.specs.List.{range_with_len}
use Rattle.std.specs.Prelude.{ℤ, pos, ◌+ℤ◌}
use Rattle.std.proofs.lemmas.Bool.{cases_eq}
use Rattle.std.proofs.lemmas.Int.{ints}
use Rattle.cpl_fixed.specs.Amounts.{IsAmount, at}
use Rattle.cpl_fixed.specs.Ranges.{IsFromℤ}
use Rattle.cpl_fixed.specs.Shares.{share}
use Rattle.cpl_diffusion.proofs.Sums.{sum_to}
use Rattle.cpl_laws.proofs.Groups.{total_none}
use Rattle.cpl_laws.proofs.Sums.{total_range}
use Rattle.cpl_fast.specs.declared.flows.Flow.{Flow}
use Rattle.cpl_fast.specs.declared.flows.Link.{Link}
use Rattle.cpl_fast.specs.declared.flows.Sky.{Sky}
use Rattle.cpl_fast.specs.declared.flows.Tables.{Tables}
use Rattle.cpl_fast.specs.Flows.{IsInCell, area_in, before_in, flow_at, link_at, no_flow, sky_at}
use Rattle.cpl_fast.specs.Places.{place_in}
use Rattle.cpl_fast.specs.Rain.{rain_in, rain_on_row, rained_on, with_share}
use Rattle.cpl_fast.specs.Sums.{IsSmall}
use Rattle.cpl_fast.proofs.Parts.{amount_passed, no_share}
use Rattle.cpl_fast.proofs.Placed.{items_more_by}
use Rattle.cpl_fast.proofs.Small.{plus_small, sum_to_more, wider}
use Rattle.cpl_fast.proofs.rain.list_rain.Goals as goal
use Rattle.cpl_fast.proofs.rain.list_rain.Goals.{then-rain-air-ne0, else-rain-air-ne0}

-- an area that was read and passed
area_passed : (area : ℤ) → IsFromℤ 1 1_099_511_627_776 area → to_z w64 (of_z w64 area) ≡ area
area_passed area h = let a = h.0 in let b = h.1 in omega (arith, ints)

-- the area of the cell that a link leads to
area_read : (skies : List Sky) (link other : Link) → link ≡ other → IsFromℤ 1 1_099_511_627_776 (sky_at skies other.air).air.area → to_z w64 (of_z w64 (sky_at skies link.air).air.area) ≡ (sky_at skies other.air).air.area
area_read skies link other e range = (λ i. to_z w64 (of_z w64 (sky_at skies (e i).air).air.area)) ∙ area_passed (sky_at skies other.air).air.area range

-- its rain
rain_read : (rain : List ℤ) (link other : Link) → link ≡ other → IsAmount (at rain other.air) → to_z w64 (of_z w64 (at rain link.air)) ≡ at rain other.air
rain_read rain link other e range = (λ i. to_z w64 (of_z w64 (at rain (e i).air))) ∙ amount_passed (at rain other.air) range

-- the flows before it rains are as they were
same_before : (rain area : ℤ) (tables : Tables) (flows other : List Flow) (row k : ℕ) → flow_at flows (place_in (length tables.links.items) row k) ≡ flow_at other (place_in (length tables.links.items) row k) → rained_on rain area tables flows row k ≡ rained_on rain area tables other row k
unfolding rained_on
same_before rain area tables flows other row k e = λ i. with_share (e i) rain (before_in tables row k) (area_in tables row k) area

-- an element on which no rain falls
no_rain_in : (rain area : ℤ) (tables : Tables) (row k : ℕ) → rain ≡ pos 0 → rain_in rain area tables row k ≡ pos 0
no_rain_in rain area tables row k e =
    let from = before_in tables row k in
    let to = from +ℤ area_in tables row k in
    (λ i. share (e i) from to area) ∙ no_share from to area

-- a row of them
no_rain_on_row : (rain area : ℤ) (tables : Tables) (row : ℕ) → rain ≡ pos 0 → rain_on_row rain area tables row ≡ pos 0
no_rain_on_row rain area tables row e = total_none (rain_in rain area tables row) (range_with_len 0 tables.width) (λ j d l. no_rain_in rain area tables row (get_or (range_with_len 0 tables.width) j d) e)

-- a dry flow stays
stays_dry : (rain area : ℤ) (tables : Tables) (flows : List Flow) (row k : ℕ) → rain ≡ pos 0 → (flow_at flows (place_in (length tables.links.items) row k)).rain ≡ pos 0
    → flow_at flows (place_in (length tables.links.items) row k) ≡ rained_on rain area tables flows row k
unfolding rained_on
stays_dry rain area tables flows row k e is_dry =
    let flow = flow_at flows (place_in (length tables.links.items) row k) in
    let same : flow.rain ≡ rain_in rain area tables row k = is_dry ∙ sym (no_rain_in rain area tables row k e) in
    λ i. record flow { rain = same i }

-- the rain on a row more, in 128 bits
row_added : (n : ℕ) (sum more : ℤ) → IsSmall n sum → n ≤ 2 ^ 30 → IsSmall 6 more → to_z w128 (of_z w128 (sum +ℤ to_z w128 (of_z w128 more))) ≡ sum +ℤ more
row_added n sum more small few h = let p = small.0 in let q = small.1 in let a = h.0 in let b = h.1 in omega (arith, ints)

-- and no rain more
plus_none : (sum x : ℤ) → x ≡ pos 0 → sum ≡ sum +ℤ x
plus_none sum x e = omega (arith, ints)

pub row_rain-sum-requires-clause-can : goal.row_rain-sum-requires-clause-can
row_rain-sum-requires-clause-can c k l =
    let tables = c.args.tables.now in
    let row = c.loop-row.row in
    let can = c.requires.can row k (omega arith) l in
    subst (λ (a : ℤ). IsInCell a tables row k) (sym (area_read c.args.skies.now c.link-air.result (link_at tables.links.items row) c.link-air.ensures can.range)) can

pub loop-row-preserved : goal.loop-row-preserved
loop-row-preserved c =
    let tables = c.args.tables.now in
    let width = tables.width in
    let rows = length tables.links.items in
    let row = c.loop-row.row in
    let inv = c.loop-row.invariant in
    let link = link_at tables.links.items row in
    let f : ℕ → ℕ → Flow = λ r k. rained_on (at c.args.rain.now (link_at tables.links.items r).air) (sky_at c.args.skies.now (link_at tables.links.items r).air).air.area tables c.args.flows.now r k in
    let g : ℕ → ℤ = λ r. rain_on_row (at c.args.rain.now (link_at tables.links.items r).air) (sky_at c.args.skies.now (link_at tables.links.items r).air).air.area tables r in
    let can = c.requires.can row 0 (omega arith) c.requires.some in
    let area = area_read c.args.skies.now c.link-air.result link c.link-air.ensures can.range in
    let wet = rain_read c.args.rain.now c.link-air.result link c.link-air.ensures (c.requires.rains link.air (c.requires.airs row (omega arith))) in
    let one_more = sum_to_more g row in
    let added = λ (x : ℤ) (small : IsSmall 6 x). row_added (6 * row) _ x inv.small (omega arith) small in
    let more : (x : ℤ) → x ≡ rain_on_row _ _ tables row → x ≡ g row = λ x e. e ∙ (λ i. rain_on_row (wet i) (area i) tables row) in
    let Flows = λ (flows : List Flow). (r k : ℕ) → r < row + 1 → k < width → flow_at flows (place_in rows r k) ≡ f r k in
    let Behind = λ (flows : List Flow). (r k : ℕ) → row + 1 ≤ r → r < rows → flow_at flows (place_in rows r k) ≡ flow_at c.args.flows.now (place_in rows r k) in
    elim c.if-rain-air-ne0.branch [
      | then-rain-air-ne0 w ↦ record {
        flows = subst Flows (sym w.flows-is) (items_more_by (λ r k x. x ≡ f r k) c.loop-row.flows w.row_rain-sum.new.flows rows width row no_flow (omega arith) inv.flows
            (λ k l. w.row_rain-sum.ensures.row k l ∙ (λ i. rained_on (wet i) (area i) tables c.loop-row.flows row k) ∙ same_before (at c.args.rain.now link.air) (sky_at c.args.skies.now link.air).air.area tables c.loop-row.flows c.args.flows.now row k (inv.behind row k (omega arith) (omega arith)))
            w.row_rain-sum.ensures.others);
        behind = subst Behind (sym w.flows-is) (λ r k h l. w.row_rain-sum.ensures.others r k l (omega arith) ∙ inv.behind r k (omega arith) l);
        sum = w.sum-is ∙ added w.row_rain-sum.result w.row_rain-sum.ensures.small ∙ (λ i. inv.sum i +ℤ more w.row_rain-sum.result w.row_rain-sum.ensures.rain i) ∙ sym one_more;
        small = subst (IsSmall (6 * (row + 1))) (sym (w.sum-is ∙ added w.row_rain-sum.result w.row_rain-sum.ensures.small)) (wider (6 * row + 6) (6 * (row + 1)) _ (omega arith) (plus_small (6 * row) 6 _ w.row_rain-sum.result inv.small w.row_rain-sum.ensures.small));
      }
      | else-rain-air-ne0 w ↦
          let none : at c.args.rain.now link.air ≡ pos 0 = sym wet ∙ ap (to_z w64) w.if-rain-air-ne0.false in
          record {
            flows = subst Flows (sym w.flows-is) (λ r k h l. elim (cases_eq r row) [
              | inl e ↦ subst (λ (n : ℕ). flow_at c.loop-row.flows (place_in rows n k) ≡ f n k) (sym e)
                  (inv.behind row k (omega arith) (omega arith) ∙ stays_dry (at c.args.rain.now link.air) (sky_at c.args.skies.now link.air).air.area tables c.args.flows.now row k none (c.requires.dry row k (omega arith) l))
              | inr ne ↦ inv.flows r k (omega (arith, ne)) l
            ]);
            behind = subst Behind (sym w.flows-is) (λ r k h l. inv.behind r k (omega arith) l);
            sum = w.sum-is ∙ inv.sum ∙ plus_none _ (g row) (no_rain_on_row (at c.args.rain.now link.air) (sky_at c.args.skies.now link.air).air.area tables row none) ∙ sym one_more;
            small = subst (IsSmall (6 * (row + 1))) (sym w.sum-is) (wider (6 * row) (6 * (row + 1)) _ (omega arith) inv.small);
          }
    ]

pub returns-clause-rain : goal.returns-clause-rain
returns-clause-rain c =
    let tables = c.args.tables.now in
    let rows = length tables.links.items in
    let g : ℕ → ℤ = λ r. rain_on_row (at c.args.rain.now (link_at tables.links.items r).air) (sky_at c.args.skies.now (link_at tables.links.items r).air).air.area tables r in
    let n : c.loop-row.row ≡ rows = omega arith in
    c.loop-row.invariant.sum ∙ ap (sum_to g) n ∙ sym (total_range g rows)
