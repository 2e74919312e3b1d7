use Rattle.std.proofs.Common.{◌≡◌, ℕ, ◌<◌, get_or, take, pos}
use Rattle.std.specs.Prelude.{ℤ, ◌≤ℤ◌}
use Rattle.cpl_state.specs.Diffusion.{total_of}
use Rattle.cpl_samples.proofs.amounts.are_amounts.Given as goal

abbrev pub invariant-loop-x : goal.invariant-loop-x
invariant-loop-x l = record {
  low : pos 0 ≤ℤ l.total;
  high : l.total ≤ℤ pos 4611686018427387903;
  total : l.total ≡ total_of (take l.x-index l.amounts);
  each : (k : ℕ) (d : ℤ) → k < l.x-index → pos 0 ≤ℤ get_or l.amounts k d;
}
