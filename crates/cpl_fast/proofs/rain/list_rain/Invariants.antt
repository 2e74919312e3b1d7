use Rattle.std.proofs.Common.{◌≡◌, ℕ, ◌<◌, ◌≤◌, ◌*◌, length}
use Rattle.cpl_fixed.specs.Amounts.{at}
use Rattle.cpl_diffusion.proofs.Sums.{sum_to}
use Rattle.cpl_fast.specs.Flows.{flow_at, link_at, sky_at}
use Rattle.cpl_fast.specs.Places.{place_in}
use Rattle.cpl_fast.specs.Rain.{rain_on_row, rained_on}
use Rattle.cpl_fast.specs.Sums.{IsSmall}
use Rattle.cpl_fast.proofs.rain.list_rain.Given as goal

abbrev pub invariant-loop-row : goal.invariant-loop-row
invariant-loop-row l = record {
  flows : (r k : ℕ) → r < l.row → k < l.tables.width → flow_at l.flows (place_in (length l.tables.links.items) r k) ≡ rained_on (at l.rain (link_at l.tables.links.items r).air) (sky_at l.skies (link_at l.tables.links.items r).air).air.area l.tables l.initial.flows r k;
  behind : (r k : ℕ) → l.row ≤ r → r < length l.tables.links.items → flow_at l.flows (place_in (length l.tables.links.items) r k) ≡ flow_at l.initial.flows (place_in (length l.tables.links.items) r k);
  sum : l.sum ≡ sum_to (λ r. rain_on_row (at l.rain (link_at l.tables.links.items r).air) (sky_at l.skies (link_at l.tables.links.items r).air).air.area l.tables r) l.row;
  small : IsSmall (6 * l.row) l.sum;
}
