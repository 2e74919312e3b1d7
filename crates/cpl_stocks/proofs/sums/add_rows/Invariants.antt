use Rattle.std.proofs.Common.{◌≡◌, ℕ, ◌≤◌, get_or, take, []}
use Rattle.cpl_stocks.specs.Partials.{row_sums}
use Rattle.cpl_stocks.proofs.sums.add_rows.Given as goal

abbrev pub invariant-loop-i : goal.invariant-loop-i
invariant-loop-i g l = record {
  done : take l.i l.sums ≡ row_sums (take l.i l.initial.sums) (take l.i l.rows);
  left : (k : ℕ) → l.i ≤ k → get_or l.sums k [] ≡ get_or l.initial.sums k [];
}
