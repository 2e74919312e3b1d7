use Rattle.std.proofs.Common.{◌≡◌, ◌≢◌, ◌∙◌, sym, ap, subst, ℕ, ◌+◌, ◌*◌, ◌^◌, ◌<◌, List, length, arith}
use Rattle.std.specs.Prelude.{ℤ}
use Rattle.cpl_diffusion.proofs.Sums.{sum_to, sum_to-same}
use Rattle.cpl_laws.proofs.Sums.{cells_same, total_range}
use Rattle.cpl_fast.specs.declared.flows.Flow.{Flow}
use Rattle.cpl_fast.specs.declared.flows.Link.{Link}
use Rattle.cpl_fast.specs.Flows.{CanFlow, flow_again, flow_at, flow_in, no_flow, sky_at, sky_of}
use Rattle.cpl_fast.specs.Places.{place_in}
use Rattle.cpl_fast.specs.Rain.{in_list}
use Rattle.cpl_fast.specs.Sums.{in_row}
use Rattle.cpl_fast.proofs.Nothing.{none_again}
use Rattle.cpl_fast.proofs.Placed.{items_more_by}
use Rattle.cpl_fast.proofs.Small.{smaller, totals_more, totals_same}
use Rattle.cpl_fast.proofs.flows.list_flows.Goals as goal

-- the sums of rows whose flows stay
rows_stay : (flows other : List Flow) (rows width row : ℕ) → row < rows → ((r k : ℕ) → r < rows → r ≢ row → flow_at flows (place_in rows r k) ≡ flow_at other (place_in rows r k)) → (number : Flow → ℤ)
    → sum_to (λ r. in_row other rows width r number) row ≡ sum_to (λ r. in_row flows rows width r number) row
rows_stay flows other rows width row within same number =
    sum_to-same (λ r. in_row other rows width r number) (λ r. in_row flows rows width r number) row
    (λ r l. cells_same (λ k. number (flow_at other (place_in rows r k))) (λ k. number (flow_at flows (place_in rows r k))) width (λ k m. sym (ap number (same r k (omega arith) (omega arith)))))

pub row_flows-requires-clause-can : goal.row_flows-requires-clause-can
row_flows-requires-clause-can c k l =
    subst (λ (link : Link). CanFlow (sky_at c.args.skies.now link.air) c.args.tables.now c.args.parts.now c.loop-row.row k) (sym c.link.ensures) (c.requires.can c.loop-row.row k (omega arith) l)

pub row_flows-requires-clause-clear : goal.row_flows-requires-clause-clear
row_flows-requires-clause-clear c k l empty =
    let tables = c.args.tables.now in
    let row = c.loop-row.row in
    c.loop-row.invariant.behind row k (omega arith) (omega arith) ∙ c.requires.clear row (omega arith) k l empty

pub row_sums-requires-clause-clear : goal.row_sums-requires-clause-clear
row_sums-requires-clause-clear c k l empty =
    let tables = c.args.tables.now in
    let row = c.loop-row.row in
    let clear = c.loop-row.invariant.behind row k (omega arith) (omega arith) ∙ c.requires.clear row (omega arith) k l empty in
    c.row_flows.ensures.row k l ∙ none_again _ _ tables c.args.parts.now c.loop-row.flows row k empty clear

pub join-requires-clause-small : goal.join-requires-clause-small
join-requires-clause-small c = smaller (6 * c.loop-row.row) (2 ^ 30) c.loop-row.sums (omega arith) c.loop-row.invariant.small

pub join-requires-clause-other : goal.join-requires-clause-other
join-requires-clause-other c = smaller c.args.tables.now.width (2 ^ 30) c.row_sums.result (omega arith) c.row_sums.ensures.small

pub loop-row-preserved : goal.loop-row-preserved
loop-row-preserved c =
    let tables = c.args.tables.now in
    let skies = c.args.skies.now in
    let row = c.loop-row.row in
    let rows = length tables.links.items in
    let width = tables.width in
    let inv = c.loop-row.invariant in
    let next = c.row_flows.new.flows in
    let f : ℕ → ℕ → Flow = λ r k. flow_again c.args.rates.now (sky_of skies tables r) tables c.args.parts.now c.args.flows.now r k in
    let g : (Flow → ℤ) → ℕ → ℤ = λ number r. in_row next rows width r number in
    let so_far = totals_same c.loop-row.sums (λ number. sum_to (λ r. in_row c.loop-row.flows rows width r number) row) (λ number. sum_to (g number) row)
    (rows_stay next c.loop-row.flows rows width row (omega arith) c.row_flows.ensures.others) inv.sums in
    record {
      done = items_more_by (λ r k x. x ≡ f r k) c.loop-row.flows next rows width row no_flow (omega arith) inv.done
          (λ k l. c.row_flows.ensures.row k l ∙ (λ i. flow_in c.args.rates.now (sky_at skies (c.link.ensures i).air) tables c.args.parts.now row k (inv.behind row k (omega arith) (omega arith) i).sun))
          c.row_flows.ensures.others;
      behind = λ r k h l. c.row_flows.ensures.others r k l (omega arith) ∙ inv.behind r k (omega arith) l;
      sums = totals_more c.loop-row.sums c.row_sums.result c.join.new.self g (λ number. g number row) row c.join.ensures.value so_far c.row_sums.ensures.value (λ number i. g number row);
      small = smaller (6 * row + width) (6 * (row + 1)) c.join.new.self (omega arith) (c.join.ensures.small (6 * row) width inv.small c.row_sums.ensures.small);
    }

pub returns-clause-sums : goal.returns-clause-sums
returns-clause-sums c =
    let width = c.args.tables.now.width in
    let rows = length c.args.tables.now.links.items in
    let g : (Flow → ℤ) → ℕ → ℤ = λ number r. in_row c.loop-row.flows rows width r number in
    let n : c.loop-row.row ≡ rows = omega arith in
    totals_same c.loop-row.sums (λ number. sum_to (g number) c.loop-row.row) (in_list c.loop-row.flows rows width)
    (λ number. ap (sum_to (g number)) n ∙ sym (total_range (g number) rows)) c.loop-row.invariant.sums

pub returns-clause-small : goal.returns-clause-small
returns-clause-small c = smaller (6 * c.loop-row.row) (6 * length c.args.tables.now.links.items) c.loop-row.sums (omega arith) c.loop-row.invariant.small
