use Rattle.std.proofs.Common.{◌≡◌, ℕ, ◌<◌, ◌≤◌, ◌+◌, ◌*◌, ◌^◌}
use Rattle.std.specs.Prelude.{◌+ℤ◌}
use Rattle.cpl_fixed.specs.Amounts.{at}
use Rattle.cpl_diffusion.proofs.Sums.{sum_to}
use Rattle.cpl_fast.specs.Surfaces.{category_gain, ocean_sums}
use Rattle.cpl_fast.specs.Sums.{IsSmall}
use Rattle.cpl_fast.proofs.ocean.category_lists.Given as goal

abbrev pub invariant-loop-k : goal.invariant-loop-k
invariant-loop-k l = record {
  last : l.end ≤ l.categories + 1;
  heat : (j : ℕ) → j < l.k → at l.heat (l.n * l.categories + j) ≡ at l.initial.heat (l.n * l.categories + j) +ℤ category_gain l.xgrid l.flows l.n j;
  before : (m : ℕ) → m < l.n * l.categories → at l.heat m ≡ at l.initial.heat m;
  ahead : (m : ℕ) → l.n * l.categories + l.k ≤ m → at l.heat m ≡ at l.initial.heat m;
  rain : l.ice.rain ≡ sum_to (λ j. (ocean_sums l.xgrid l.flows l.n (j + 1)).rain) l.k;
  taken : l.ice.heat ≡ sum_to (λ j. (ocean_sums l.xgrid l.flows l.n (j + 1)).heat) l.k;
  small_rain : IsSmall (l.k * 2 ^ 20) l.ice.rain;
  small_heat : IsSmall (l.k * 2 ^ 20) l.ice.heat;
}
