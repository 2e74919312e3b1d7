use Rattle.std.proofs.Common.{◌≡◌, ℕ, ◌<◌, ◌≤◌, ◌*◌, length}
use Rattle.cpl_diffusion.proofs.Sums.{sum_to}
use Rattle.cpl_fast.specs.Flows.{flow_again, flow_at, sky_of}
use Rattle.cpl_fast.specs.Places.{place_in}
use Rattle.cpl_fast.specs.Sums.{AreSmall, SumsAre, in_row}
use Rattle.cpl_fast.proofs.flows.list_flows.Given as goal

abbrev pub invariant-loop-row : goal.invariant-loop-row
invariant-loop-row l = record {
  done : (r k : ℕ) → r < l.row → k < l.tables.width → flow_at l.flows (place_in (length l.tables.links.items) r k) ≡ flow_again l.rates (sky_of l.skies l.tables r) l.tables l.parts l.initial.flows r k;
  behind : (r k : ℕ) → l.row ≤ r → r < length l.tables.links.items → flow_at l.flows (place_in (length l.tables.links.items) r k) ≡ flow_at l.initial.flows (place_in (length l.tables.links.items) r k);
  sums : SumsAre l.sums (λ number. sum_to (λ r. in_row l.flows (length l.tables.links.items) l.tables.width r number) l.row);
  small : AreSmall (6 * l.row) l.sums;
}
