use Rattle.std.proofs.Common.{◌≡◌, length}
use Rattle.cpl_diffusion.proofs.Sums.{sum_to}
use Rattle.cpl_fast.specs.Flows.{ArePortions, before_in}
use Rattle.cpl_fast.specs.Rain.{rain_in, rained_on}
use Rattle.cpl_fast.specs.Sums.{IsSmall}
use Rattle.cpl_fast.proofs.Written.{IsWritten}
use Rattle.cpl_fast.proofs.rain.row_rain.Given as goal

abbrev pub invariant-loop-k : goal.invariant-loop-k
invariant-loop-k l = record {
  portions : ArePortions l.portions;
  rain : l.portions.amount ≡ l.rain;
  whole : l.portions.whole ≡ l.area;
  from : l.portions.from ≡ before_in l.tables l.row l.k;
  sum : l.sum ≡ sum_to (rain_in l.rain l.area l.tables l.row) l.k;
  small : IsSmall l.k l.sum;
  flows : IsWritten l.initial.flows l.flows (length l.tables.links.items) l.row l.k (rained_on l.rain l.area l.tables l.initial.flows l.row);
}
