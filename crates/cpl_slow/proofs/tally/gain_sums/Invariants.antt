use Rattle.std.proofs.Common.{◌≡◌, ◌*◌, ◌^◌}
use Rattle.std.specs.Prelude.{pos, ◌≤ℤ◌}
use Rattle.cpl_fixed.specs.Totals.{total_of}
use Rattle.cpl_state.specs.FastStep.{for_each}
use Rattle.cpl_slow.specs.Land.{gain_at}
use Rattle.cpl_slow.proofs.tally.gain_sums.Given as goal

-- the sums so far, each of gains that are at most 2^62
abbrev pub invariant-loop-gain : goal.invariant-loop-gain
invariant-loop-gain l = record {
  heat : l.heat ≡ total_of (for_each l.gain-index (λ n. (gain_at l.gains n).heat));
  water : l.water ≡ total_of (for_each l.gain-index (λ n. (gain_at l.gains n).water));
  heat_least : pos 0 ≤ℤ l.heat;
  water_least : pos 0 ≤ℤ l.water;
  heat_most : l.heat ≤ℤ pos (2 ^ 62 * l.gain-index);
  water_most : l.water ≤ℤ pos (2 ^ 62 * l.gain-index);
}
