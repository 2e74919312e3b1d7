use Rattle.cpl_diffusion.proofs.Sums.{sum_to}
use Rattle.cpl_fast.specs.Flows.{flow_at}
use Rattle.cpl_fast.specs.Places.{place_in}
use Rattle.cpl_fast.specs.Sums.{AreSmall, SumsAre, ref_at}
use Rattle.cpl_fast.proofs.sums.part_sums.Given as goal

abbrev pub invariant-loop-xref : goal.invariant-loop-xref
invariant-loop-xref l = record {
  sums : SumsAre l.sums (λ number. sum_to (λ j. number (flow_at l.flows (place_in l.rows (ref_at l.refs j).row l.k))) l.xref-index);
  small : AreSmall l.xref-index l.sums;
}
