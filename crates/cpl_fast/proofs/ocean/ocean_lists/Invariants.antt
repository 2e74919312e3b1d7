use Rattle.std.proofs.Common.{◌≡◌, ℕ, ◌<◌, ◌≤◌, ◌+◌, ◌*◌, ◌^◌}
use Rattle.std.specs.Prelude.{◌+ℤ◌}
use Rattle.cpl_fixed.specs.Amounts.{at}
use Rattle.cpl_fast.specs.Surfaces.{category_gain, ocean_at, skin_at, taken_to}
use Rattle.cpl_fast.specs.Sums.{IsSmallTaken}
use Rattle.cpl_fast.proofs.ocean.ocean_lists.Given as goal

abbrev pub invariant-loop-n : goal.invariant-loop-n
invariant-loop-n l = record {
  ice_heat : (m k : ℕ) → m < l.n → k < l.parts.categories → at l.ice_heat (m * l.parts.categories + k) ≡ at l.initial.ice_heat (m * l.parts.categories + k) +ℤ category_gain l.xgrid l.flows m k;
  heat : (k : ℕ) → k < l.n → at l.heat k ≡ (skin_at l.xgrid l.flows l.parts.categories (at l.initial.heat k) (at l.initial.water k) k).heat;
  water : (k : ℕ) → k < l.n → at l.water k ≡ (skin_at l.xgrid l.flows l.parts.categories (at l.initial.heat k) (at l.initial.water k) k).water;
  ice_ahead : (m : ℕ) → l.n * l.parts.categories ≤ m → at l.ice_heat m ≡ at l.initial.ice_heat m;
  heat_ahead : (k : ℕ) → l.n ≤ k → at l.heat k ≡ at l.initial.heat k;
  water_ahead : (k : ℕ) → l.n ≤ k → at l.water k ≡ at l.initial.water k;
  taken : l.all ≡ taken_to l.n (λ k. ocean_at l.xgrid l.flows l.parts.categories k);
  small : IsSmallTaken (l.n * 2 ^ 45) l.all;
}
