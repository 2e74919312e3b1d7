use Rattle.std.proofs.Common.{◌≡◌, ℕ, ◌+◌, ◌<◌, ◌≤◌, length}
use Rattle.std.specs.Prelude.{pos}
use Rattle.cpl_fixed.specs.Amounts.{at}
use Rattle.cpl_slow.proofs.blocks.filled_up.Given as goal

abbrev pub invariant-loop-k : goal.invariant-loop-k
invariant-loop-k g l = record {
  count : length l.block ≡ g.row.N;
  done : (i : ℕ) → i < l.k → at l.block i ≡ at l.xs (l.start + i);
  left : (i : ℕ) → l.k ≤ i → at l.block i ≡ pos 0;
}
