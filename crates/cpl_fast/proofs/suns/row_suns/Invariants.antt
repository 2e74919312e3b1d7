use Rattle.std.proofs.Common.{◌≡◌, length}
use Rattle.cpl_fast.specs.Flows.{ArePortions, before_in}
use Rattle.cpl_fast.specs.Suns.{only_sun, sun_in}
use Rattle.cpl_fast.proofs.Written.{IsWritten}
use Rattle.cpl_fast.proofs.suns.row_suns.Given as goal

abbrev pub invariant-loop-k : goal.invariant-loop-k
invariant-loop-k l = record {
  portions : ArePortions l.portions;
  amount : l.portions.amount ≡ l.initial.portions.amount;
  whole : l.portions.whole ≡ l.initial.portions.whole;
  from : l.portions.from ≡ before_in l.tables l.row l.k;
  flows : IsWritten l.initial.flows l.flows (length l.tables.links.items) l.row l.k (λ j. only_sun (sun_in l.rates l.list l.initial.portions.amount l.initial.portions.whole l.tables l.row j));
}
