use Rattle.std.proofs.Common.{◌≡◌, ◌∙◌, ap, ◌^◌, ℕ, arith, length}
use Rattle.std.specs.Prelude.{ℤ}
use Rattle.cpl_diffusion.proofs.Sums.{sum_to}
use Rattle.cpl_xgrid.specs.declared.parts.XRef.{XRef}
use Rattle.cpl_fast.specs.declared.flows.Flow.{Flow}
use Rattle.cpl_fast.specs.Flows.{flow_at}
use Rattle.cpl_fast.specs.Places.{place_in}
use Rattle.cpl_fast.specs.Sums.{in_part, ref_at}
use Rattle.cpl_fast.proofs.Small.{smaller, totals_same, total_refs}
use Rattle.cpl_fast.proofs.sums.part_sums.Goals as goal

pub join-requires-clause-small : goal.join-requires-clause-small
join-requires-clause-small c = smaller c.loop-xref.xref-index (2 ^ 30) c.loop-xref.sums (omega arith) c.loop-xref.invariant.small

pub join-requires-clause-other : goal.join-requires-clause-other
join-requires-clause-other c = smaller 1 (2 ^ 30) c.of.result (omega arith) c.of.ensures.small

pub returns-clause-value : goal.returns-clause-value
returns-clause-value c =
    let refs = c.args.refs.now in
    let g : (Flow → ℤ) → XRef → ℤ = λ number ref. number (flow_at c.args.flows.now (place_in c.args.rows ref.row c.args.k)) in
    let f : (Flow → ℤ) → ℕ → ℤ = λ number j. g number (ref_at refs j) in
    let n : c.loop-xref.xref-index ≡ length refs = omega arith in
    totals_same c.loop-xref.sums (λ number. sum_to (f number) c.loop-xref.xref-index) (in_part c.args.flows.now c.args.rows c.args.k refs)
    (λ number. ap (sum_to (f number)) n ∙ total_refs (g number) refs) c.loop-xref.invariant.sums
