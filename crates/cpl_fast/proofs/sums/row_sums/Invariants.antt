use Rattle.std.proofs.Common.{length}
use Rattle.cpl_diffusion.proofs.Sums.{sum_to}
use Rattle.cpl_fast.specs.Flows.{flow_at}
use Rattle.cpl_fast.specs.Places.{place_in}
use Rattle.cpl_fast.specs.Sums.{AreSmall, SumsAre}
use Rattle.cpl_fast.proofs.sums.row_sums.Given as goal

abbrev pub invariant-loop-k : goal.invariant-loop-k
invariant-loop-k l = record {
  sums : SumsAre l.sums (λ number. sum_to (λ j. number (flow_at l.flows (place_in (length l.tables.links.items) l.row j))) l.k);
  small : AreSmall l.k l.sums;
}
