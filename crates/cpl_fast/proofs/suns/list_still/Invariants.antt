use Rattle.std.proofs.Common.{◌≡◌, ℕ, ◌<◌, ◌≤◌, length}
use Rattle.cpl_fast.specs.Flows.{flow_at, no_flow}
use Rattle.cpl_fast.specs.Places.{place_in}
use Rattle.cpl_fast.proofs.suns.list_still.Given as goal

abbrev pub invariant-loop-row : goal.invariant-loop-row
invariant-loop-row l = record {
  done : (r k : ℕ) → r < l.row → k < l.tables.width → flow_at l.flows (place_in (length l.tables.links.items) r k) ≡ no_flow;
  behind : (r k : ℕ) → l.row ≤ r → r < length l.tables.links.items → flow_at l.flows (place_in (length l.tables.links.items) r k) ≡ flow_at l.initial.flows (place_in (length l.tables.links.items) r k);
}
