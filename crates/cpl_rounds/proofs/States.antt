-- The states of a run, one after another, and lists that have a number for each cell.
use Rattle.std.proofs.Common.{◌≡◌, ◌∙◌, refl, ap, ℕ, suc, ◌+◌, ◌*◌, ◌/◌, ◌%◌, ◌<◌, arith}
use Rattle.std.specs.Prelude.{ℤ, pos}
use Rattle.std.proofs.lemmas.Nat.{div-mul-add, mod-mul-add, mul-add-lt}
use Rattle.std.proofs.lemmas.List.FromFn.{get_or-map-range_with_len}
use Rattle.cpl_fixed.specs.Amounts.{at}
use Rattle.cpl_xgrid.specs.declared.grid.Grid.{Grid}
use Rattle.cpl_state.specs.States.{ocean_cells, of_cell}
use Rattle.cpl_state.specs.FastStep.{for_each, fast_after}
use Rattle.cpl_state.specs.Slow.{for_each_place}
use Rattle.cpl_state.specs.CouplingStep.{after_fast, state_after, step_after, fast_by, month_of, taken}
use Rattle.cpl_state.specs.SurfaceLaws.{fast_before}
use Rattle.cpl_rounds.specs.Rounds.{PlanParts, state_at, mid_at, fast_step}

-- LISTS

-- the number of a cell, and of a place of a cell
pub read_cell : (f : ℕ → ℤ) (n i : ℕ) → i < n → at (for_each n f) i ≡ f i
read_cell f n i l = get_or-map-range_with_len f 0 n i i (pos 0) l (omega arith)

pub read_place : (grid : Grid) (width : ℕ) (f : ℕ → ℕ → ℤ) (n k : ℕ) → n < ocean_cells grid → k < width → of_cell width n k (for_each_place grid width f) ≡ f n k
read_place grid width f n k l h =
    let inside : n * width + k < width * ocean_cells grid = mul-add-lt n width k (ocean_cells grid) l h in
    read_cell (λ i. f (i / width) (i % width)) (width * ocean_cells grid) (n * width + k) inside
    ∙ (λ i. f (div-mul-add n width k h i) (mod-mul-add n width k h i))

-- STATES

pub state_next : (plan : PlanParts) (n : ℕ) → state_at plan (n + 1) ≡ step_after plan.grid plan.names (state_at plan n)
unfolding state_at
state_next plan n = let next : n + 1 ≡ suc n = omega arith in ap (λ (m : ℕ). state_after m plan.grid plan.names plan.start) next

pub mid_first : (plan : PlanParts) (n : ℕ) → mid_at plan n 0 ≡ taken plan.grid (state_at plan n)
unfolding mid_at
mid_first plan n = refl

pub mid_next : (plan : PlanParts) (n i : ℕ) → mid_at plan n (i + 1) ≡ fast_after (fast_step plan n i)
unfolding mid_at
mid_next plan n i =
    let next : i + 1 ≡ suc i = omega arith in
    ap (λ (m : ℕ). fast_by m plan.grid plan.names (month_of plan.names (state_at plan n)) (taken plan.grid (state_at plan n))) next

pub step_is : (plan : PlanParts) (n i : ℕ) → fast_step plan n i ≡ fast_before plan.grid plan.names (state_at plan n) i
unfolding mid_at
step_is plan n i = refl

pub mid_last : (plan : PlanParts) (n : ℕ) → mid_at plan n plan.names.fast ≡ after_fast plan.grid plan.names (state_at plan n)
unfolding mid_at after_fast
mid_last plan n = refl
