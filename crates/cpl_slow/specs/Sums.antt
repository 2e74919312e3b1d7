-- Sums over gains.
use Rattle.std.specs.Prelude.{◌≡◌, ℕ, ◌<◌, ◌≤◌, ◌^◌, List, [], ◌∷◌, length, ℤ}
use Rattle.cpl_fixed.specs.Totals.{total_of}
use Rattle.cpl_fixed.specs.declared.gain.Gain.{Gain}
use Rattle.cpl_fixed.specs.declared.rates.Rates.{Rates}
use Rattle.cpl_xgrid.specs.declared.grid.Grid.{Grid}
use Rattle.cpl_state.specs.declared.whole.Whole.{Whole}
use Rattle.cpl_state.specs.States.{land_cells}
use Rattle.cpl_state.specs.FastStep.{for_each}
use Rattle.cpl_state.specs.Slow.{runoff_of}
use Rattle.cpl_state.specs.SlowLaws.{IsGainAmount}
use Rattle.cpl_slow.specs.Land.{gain_at}

-- the sums of the heat and of the water of so many gains
abbrev pub gain_sums : (count : ℕ) → (ℕ → Gain) → List ℤ
gain_sums count gains = total_of (for_each count (λ n. (gains n).heat)) ∷ total_of (for_each count (λ n. (gains n).water)) ∷ []

-- so few gains in range that their sums are far below 2^127
pub record AreGains (gains : List Gain) : Type 0 where
  pub few : length gains ≤ 2 ^ 32
  pub each : (n : ℕ) → n < length gains → IsGainAmount (gain_at gains n)

-- what ran off each cell of the land stands in a list
pub record HasRunOff (grid : Grid) (rates : Rates) (whole : Whole) (gains : List Gain) : Type 0 where
  pub count : length gains ≡ land_cells grid
  pub each : (n : ℕ) → n < land_cells grid → gain_at gains n ≡ runoff_of grid rates whole n
