-- Fast steps, one after another.
use Rattle.std.proofs.Common.{◌≡◌, ◌∙◌, ap, ℕ, suc, ◌+◌, arith}
use Rattle.cpl_namelist.specs.declared.names.Names.{Names}
use Rattle.cpl_xgrid.specs.declared.grid.Grid.{Grid}
use Rattle.cpl_state.specs.declared.whole.Mid.{Mid}
use Rattle.cpl_state.specs.FastStep.{fast_after, entered, left, gave, took}
use Rattle.cpl_state.specs.CouplingStep.{before, fast_by}
use Rattle.cpl_fast.specs.declared.fast.FastTally.{FastTally}
use Rattle.cpl_whole.specs.Tallies.{both, fast_sums, tally_of}

module _ (grid : Grid) (names : Names) (month : ℕ) (start : Mid) (n : ℕ) (now : Mid) (so_far : now ≡ fast_by n grid names month start) where
  next : suc n ≡ n + 1
  next = omega arith

  -- the state after one more
  pub step_more : (after : Mid) → after ≡ fast_after (before grid names month now) → after ≡ fast_by (n + 1) grid names month start
  step_more after e = e ∙ ap (λ (m : Mid). fast_after (before grid names month m)) so_far ∙ ap (λ (k : ℕ). fast_by k grid names month start) next

  -- what they moved together with one more
  pub sums_more : (sum one : FastTally) → sum ≡ fast_sums n grid names month start
      → one.entered ≡ entered (before grid names month now) → one.left ≡ left (before grid names month now) → one.gave ≡ gave (before grid names month now) → one.took ≡ took (before grid names month now)
      → both sum one ≡ fast_sums (n + 1) grid names month start
  sums_more sum one e enters leaves gives takes =
      (λ i. both (e i) (record { entered = enters i; left = leaves i; gave = gives i; took = takes i }))
      ∙ ap (λ (m : Mid). both (fast_sums n grid names month start) (tally_of (before grid names month m))) so_far
      ∙ ap (λ (k : ℕ). fast_sums k grid names month start) next
