use Rattle.std.proofs.Common.{◌≡◌, ℕ, ◌<◌, ◌≤◌}
use Rattle.cpl_fixed.specs.Amounts.{at}
use Rattle.cpl_land.specs.Land.{dried, runoff}
use Rattle.cpl_slow.specs.Land.{cell_of_lists, gain_at}
use Rattle.cpl_slow.proofs.land.run_off.Given as goal

abbrev pub invariant-loop-n : goal.invariant-loop-n
invariant-loop-n l = record {
  heat : (k : ℕ) → k < l.n → at l.heat k ≡ (dried l.rates (cell_of_lists l.initial.heat l.initial.water l.area k)).heat;
  water : (k : ℕ) → k < l.n → at l.water k ≡ (dried l.rates (cell_of_lists l.initial.heat l.initial.water l.area k)).water;
  runoffs : (k : ℕ) → k < l.n → gain_at l.runoffs k ≡ runoff l.rates (cell_of_lists l.initial.heat l.initial.water l.area k);
  heat_left : (k : ℕ) → l.n ≤ k → at l.heat k ≡ at l.initial.heat k;
  water_left : (k : ℕ) → l.n ≤ k → at l.water k ≡ at l.initial.water k;
}
