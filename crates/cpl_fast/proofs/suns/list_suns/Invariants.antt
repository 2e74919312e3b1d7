use Rattle.std.proofs.Common.{◌≡◌, ℕ, ◌<◌, ◌≤◌, length}
use Rattle.std.specs.Prelude.{pos}
use Rattle.cpl_fixed.specs.Amounts.{at}
use Rattle.cpl_fixed.specs.Shares.{part_of}
use Rattle.cpl_fast.specs.Flows.{ArePortions, flow_at, link_at}
use Rattle.cpl_fast.specs.Places.{place_in}
use Rattle.cpl_fast.specs.Suns.{only_sun, sun_in}
use Rattle.cpl_fast.proofs.suns.list_suns.Given as goal

abbrev pub invariant-loop-row : goal.invariant-loop-row
invariant-loop-row l = record {
  portions : ArePortions l.portions;
  amount : l.last < length l.sun → l.portions.amount ≡ part_of (at l.sun l.last) l.strength (pos 1_000);
  whole : l.last < length l.sun → l.portions.whole ≡ at l.area l.last;
  done : (r k : ℕ) → r < l.row → k < l.tables.width → flow_at l.flows (place_in (length l.tables.links.items) r k) ≡ only_sun (sun_in l.rates l.list (part_of (at l.sun (link_at l.tables.links.items r).air) l.strength (pos 1_000)) (at l.area (link_at l.tables.links.items r).air) l.tables r k);
  behind : (r k : ℕ) → l.row ≤ r → r < length l.tables.links.items → flow_at l.flows (place_in (length l.tables.links.items) r k) ≡ flow_at l.initial.flows (place_in (length l.tables.links.items) r k);
}
