-- Sums over gains, one gain after another.
use Rattle.std.proofs.Common.{◌≡◌, ◌∙◌, refl, sym, ap, subst, ℕ, suc, ◌+◌, ◌<◌, ◌≤◌, ◌^◌, arith, List, [], ◌∷◌, length}
use Rattle.std.specs.Prelude.{ℤ, ◌+ℤ◌}
use Rattle.std.proofs.lemmas.Int.{ints}
use Rattle.cpl_fixed.specs.Totals.{total_of}
use Rattle.cpl_fixed.specs.declared.gain.Gain.{Gain}
use Rattle.cpl_state.specs.FastStep.{for_each}
use Rattle.cpl_state.specs.SlowLaws.{IsGainAmount}
use Rattle.cpl_diffusion.proofs.Sums.{sum_to}
use Rattle.cpl_laws.proofs.Sums.{total_range, cells_same}
use Rattle.cpl_slow.specs.Land.{gain_at}
use Rattle.cpl_slow.specs.Sums.{AreGains, gain_sums}

-- the sum over cells, one more
pub cells_more : (f : ℕ → ℤ) (n : ℕ) → total_of (for_each (n + 1) f) ≡ total_of (for_each n f) +ℤ f n
cells_more f n =
    let e : n + 1 ≡ suc n = omega arith in
    total_range f (n + 1) ∙ ap (sum_to f) e ∙ (let own = total_range f n in let next : sum_to f (suc n) ≡ sum_to f n +ℤ f n = refl in omega (arith, ints, own, next))

-- the same gains have the same sums
pub sums_same : (f g : ℕ → Gain) (n : ℕ) → ((i : ℕ) → i < n → f i ≡ g i) → gain_sums n f ≡ gain_sums n g
sums_same f g n h =
    let heat = cells_same (λ i. (f i).heat) (λ i. (g i).heat) n (λ i l. ap (λ (x : Gain). x.heat) (h i l)) in
    let water = cells_same (λ i. (f i).water) (λ i. (g i).water) n (λ i l. ap (λ (x : Gain). x.water) (h i l)) in
    λ i. heat i ∷ water i ∷ []

-- gains of cells, and their sums
module _ (count : ℕ) (cells : ℕ → Gain) (gains : List Gain) (long : length gains ≡ count) (each : (n : ℕ) → n < count → gain_at gains n ≡ cells n) where
  pub gains_are : count ≤ 2 ^ 32 → ((n : ℕ) → n < count → IsGainAmount (cells n)) → AreGains gains
  gains_are few amounts = record {
    few = omega (arith, long, few);
    each = λ n l. (let within : n < count = omega (arith, long, l) in subst IsGainAmount (sym (each n within)) (amounts n within));
  }

  pub sums_are : gain_sums (length gains) (gain_at gains) ≡ gain_sums count cells
  sums_are = ap (λ (n : ℕ). gain_sums n (gain_at gains)) long ∙ sums_same (gain_at gains) cells count each
