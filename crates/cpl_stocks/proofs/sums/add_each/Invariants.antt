use Rattle.std.proofs.Common.{◌≡◌, ℕ, ◌≤◌, get_or, take, pos}
use Rattle.cpl_stocks.specs.Partials.{each_sum}
use Rattle.cpl_stocks.proofs.sums.add_each.Given as goal

abbrev pub invariant-loop-i : goal.invariant-loop-i
invariant-loop-i l = record {
  done : take l.i l.sums ≡ each_sum (take l.i l.initial.sums) (take l.i l.numbers);
  left : (k : ℕ) → l.i ≤ k → get_or l.sums k (pos 0) ≡ get_or l.initial.sums k (pos 0);
}
