-- The numbers of a cell, filled up with zeros.
use Rattle.std.proofs.Common.{◌≡◌, ◌∙◌, refl, sym, ap, Bool, cond, ltb, ℕ, ◌*◌, ◌<◌, ◌≤◌, arith, inl, inr, List}
use Rattle.std.specs.Prelude.{ℤ, pos}
use Rattle.std.proofs.lemmas.Bool.{cases_lt, lt-ltb, le-ltb}
use Rattle.std.proofs.lemmas.List.{get_or_past}
use Rattle.std.proofs.lemmas.List.FromFn.{get_or-map-range_with_len, length-map-range_with_len}
use Rattle.cpl_fixed.specs.Amounts.{at}
use Rattle.cpl_state.specs.States.{HasNone, filled_up, of_cell}
use Rattle.cpl_slow.specs.Blocks.{IsPut}

filled_at : (most width n : ℕ) (xs : List ℤ) (k : ℕ) → k < most → at (filled_up most width n xs) k ≡ cond (ltb k width) (of_cell width n k xs) (pos 0)
filled_at most width n xs k l = get_or-map-range_with_len (λ k. cond (ltb k width) (of_cell width n k xs) (pos 0)) 0 most k k (pos 0) l (omega arith)

pub filled_inside : (most width n : ℕ) (xs : List ℤ) (k : ℕ) → width ≤ most → k < width → at (filled_up most width n xs) k ≡ of_cell width n k xs
filled_inside most width n xs k few l = filled_at most width n xs k (omega arith) ∙ ap (λ (b : Bool). cond b (of_cell width n k xs) (pos 0)) (lt-ltb k width l)

pub filled_behind : (most width n : ℕ) (xs : List ℤ) (k : ℕ) → width ≤ k → at (filled_up most width n xs) k ≡ pos 0
filled_behind most width n xs k l = elim (cases_lt k most) [
  | inl lt ↦ filled_at most width n xs k lt ∙ ap (λ (b : Bool). cond b (of_cell width n k xs) (pos 0)) (le-ltb k width l)
  | inr ge ↦ get_or_past (filled_up most width n xs) k (pos 0) (let e = length-map-range_with_len (λ k. cond (ltb k width) (of_cell width n k xs) (pos 0)) 0 most in omega (arith, e))
]

-- where a cell has none, there are zeros
pub filled_none : (most width n : ℕ) (xs : List ℤ) → width ≤ most → HasNone width n xs → (k : ℕ) → at (filled_up most width n xs) k ≡ pos 0
filled_none most width n xs few none k = elim (cases_lt k width) [
  | inl lt ↦ filled_inside most width n xs k few lt ∙ none k lt
  | inr ge ↦ filled_behind most width n xs k ge
]

-- a list has the block of its own cell
pub put_same : (most width n : ℕ) (xs : List ℤ) → width ≤ most → IsPut (n * width) width (filled_up most width n xs) xs xs
put_same most width n xs few = record {
  count = refl;
  before = λ i h. refl;
  inside = λ k h. sym (filled_inside most width n xs k few h);
  behind = λ i h. refl;
}
