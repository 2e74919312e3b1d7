use Rattle.std.proofs.Common.{◌≡◌, ◌*◌, ◌^◌, take}
use Rattle.std.specs.Prelude.{pos, neg_ℤ, ◌≤ℤ◌}
use Rattle.cpl_fixed.specs.Totals.{total_of}
use Rattle.cpl_restart.proofs.lawful.total.Given as goal

abbrev pub invariant-loop-number : goal.invariant-loop-number
invariant-loop-number l = record {
  is : l.sum ≡ total_of (take l.number-index l.numbers);
  least : neg_ℤ (pos (2 ^ 63 * l.number-index)) ≤ℤ l.sum;
  most : l.sum ≤ℤ pos (2 ^ 63 * l.number-index);
}
