use Rattle.std.proofs.Common.{◌≡◌, ◌∙◌, ap, ◌+◌, ◌*◌, ◌^◌, ℕ, arith, length}
use Rattle.std.specs.Prelude.{ℤ}
use Rattle.cpl_diffusion.proofs.Sums.{sum_to}
use Rattle.cpl_xgrid.specs.declared.parts.XRef.{XRef}
use Rattle.cpl_fast.specs.declared.flows.Flow.{Flow}
use Rattle.cpl_fast.specs.Sums.{in_list, in_rows, ref_at}
use Rattle.cpl_fast.proofs.Small.{smaller, totals_more, totals_same, total_refs}
use Rattle.cpl_fast.proofs.sums.air_sums.Goals as goal

pub join-requires-clause-small : goal.join-requires-clause-small
join-requires-clause-small c = smaller (6 * c.loop-xref.xref-index) (2 ^ 30) c.loop-xref.sums (omega arith) c.loop-xref.invariant.small

pub join-requires-clause-other : goal.join-requires-clause-other
join-requires-clause-other c = smaller 6 (2 ^ 30) c.list_sums.result (omega arith) c.list_sums.ensures.small

pub returns-clause-value : goal.returns-clause-value
returns-clause-value c =
    let refs = c.args.refs.now in
    let g : (Flow → ℤ) → XRef → ℤ = λ number ref. in_list c.args.flows.now ref.list ref.row number in
    let f : (Flow → ℤ) → ℕ → ℤ = λ number j. g number (ref_at refs j) in
    let n : c.loop-xref.xref-index ≡ length refs = omega arith in
    totals_same c.loop-xref.sums (λ number. sum_to (f number) c.loop-xref.xref-index) (in_rows c.args.flows.now refs)
    (λ number. ap (sum_to (f number)) n ∙ total_refs (g number) refs) c.loop-xref.invariant.sums

pub loop-xref-preserved : goal.loop-xref-preserved
loop-xref-preserved c =
    let refs = c.args.refs.now in
    let n = c.loop-xref.xref-index in
    let f : (Flow → ℤ) → ℕ → ℤ = λ number j. in_list c.args.flows.now (ref_at refs j).list (ref_at refs j).row number in
    record {
      sums = totals_more c.loop-xref.sums c.list_sums.result c.join.new.self f (λ number. f number n) n c.join.ensures.value c.loop-xref.invariant.sums c.list_sums.ensures.value (λ number i. f number n);
      small = smaller (6 * n + 6) (6 * (n + 1)) c.join.new.self (omega arith) (c.join.ensures.small (6 * n) 6 c.loop-xref.invariant.small c.list_sums.ensures.small);
    }
