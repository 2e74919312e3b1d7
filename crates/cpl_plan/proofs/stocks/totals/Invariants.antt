use Rattle.std.proofs.Common.{◌≡◌, ℕ, ◌<◌}
use Rattle.std.specs.Prelude.{pos}
use Rattle.cpl_fixed.specs.Totals.{total_of}
use Rattle.cpl_state.specs.States.{of_cell}
use Rattle.cpl_state.specs.FastStep.{for_each}
use Rattle.cpl_plan.specs.Sums.{HasRoom, sum_at}
use Rattle.cpl_plan.proofs.stocks.totals.Given as goal

-- the sums so far are those of the cells so far
abbrev pub invariant-loop-n : goal.invariant-loop-n
invariant-loop-n g l = record {
  same : (k : ℕ) → k < g.row.N → pos (sum_at l.sums k) ≡ total_of (for_each l.n (λ n. of_cell g.row.N n k l.amounts));
  room : HasRoom g.row.N l.n l.sums;
}
