use Rattle.std.proofs.Common.{◌≡◌, ℕ, ◌<◌, ◌*◌, ◌^◌, pos}
use Rattle.std.specs.Prelude.{◌≤ℤ◌}
use Rattle.cpl_fixed.specs.Amounts.{at}
use Rattle.cpl_diffusion.proofs.Sums.{sum_to}
use Rattle.cpl_fast.specs.Air.{rained_at}
use Rattle.cpl_fast.specs.Flows.{sky_at}
use Rattle.cpl_fast.proofs.air.air_lists.Given as goal

abbrev pub invariant-loop-n : goal.invariant-loop-n
invariant-loop-n l = record {
  heat : (k : ℕ) → k < l.n → at l.heat k ≡ (rained_at l.rates l.xgrid (sky_at l.skies k).air l.flows k).heat;
  vapour : (k : ℕ) → k < l.n → at l.vapour k ≡ (rained_at l.rates l.xgrid (sky_at l.skies k).air l.flows k).vapour;
  rain : (k : ℕ) → k < l.n → at l.rain k ≡ (rained_at l.rates l.xgrid (sky_at l.skies k).air l.flows k).rain;
  left : l.left ≡ sum_to (λ k. (rained_at l.rates l.xgrid (sky_at l.skies k).air l.flows k).space) l.n;
  least : pos 0 ≤ℤ l.left;
  most : l.left ≤ℤ pos (l.n * 2 ^ 63);
}
