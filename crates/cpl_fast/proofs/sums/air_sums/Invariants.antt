use Rattle.std.proofs.Common.{◌*◌}
use Rattle.cpl_diffusion.proofs.Sums.{sum_to}
use Rattle.cpl_fast.specs.Sums.{AreSmall, SumsAre, in_list, ref_at}
use Rattle.cpl_fast.proofs.sums.air_sums.Given as goal

abbrev pub invariant-loop-xref : goal.invariant-loop-xref
invariant-loop-xref l = record {
  sums : SumsAre l.sums (λ number. sum_to (λ j. in_list l.flows (ref_at l.refs j).list (ref_at l.refs j).row number) l.xref-index);
  small : AreSmall (6 * l.xref-index) l.sums;
}
