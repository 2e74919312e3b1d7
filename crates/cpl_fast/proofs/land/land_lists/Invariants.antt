use Rattle.std.proofs.Common.{◌≡◌, ℕ, ◌<◌, ◌≤◌, ◌*◌, ◌^◌}
use Rattle.cpl_fixed.specs.Amounts.{at}
use Rattle.cpl_fast.specs.Surfaces.{land_at, taken_to}
use Rattle.cpl_fast.specs.Sums.{IsSmallTaken}
use Rattle.cpl_fast.proofs.land.land_lists.Given as goal

abbrev pub invariant-loop-n : goal.invariant-loop-n
invariant-loop-n l = record {
  heat : (k : ℕ) → k < l.n → at l.heat k ≡ (land_at l.xgrid l.flows (at l.initial.heat k) (at l.initial.water k) k).heat;
  water : (k : ℕ) → k < l.n → at l.water k ≡ (land_at l.xgrid l.flows (at l.initial.heat k) (at l.initial.water k) k).water;
  heat_ahead : (k : ℕ) → l.n ≤ k → at l.heat k ≡ at l.initial.heat k;
  water_ahead : (k : ℕ) → l.n ≤ k → at l.water k ≡ at l.initial.water k;
  taken : l.all ≡ taken_to l.n (λ k. (land_at l.xgrid l.flows (at l.initial.heat k) (at l.initial.water k) k).taken);
  small : IsSmallTaken (l.n * 2 ^ 44) l.all;
}
