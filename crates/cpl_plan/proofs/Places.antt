-- Sums at the places of cells.
use Rattle.std.proofs.Common.{◌≡◌, ◌≢◌, ◌∙◌, sym, ℕ, ◌+◌, ◌<◌, ◌≤◌, ◌^◌, arith, List, length, below_more, to_z}
use Rattle.std.specs.Prelude.{ℤ, pos, ◌+ℤ◌, ◌≤ℤ◌, ◌<ℤ◌, slice_set}
use Rattle.std.specs.List.{range_with_len}
use Rattle.std.specs.Int.{w128}
use Rattle.std.proofs.lemmas.Int.{ints}
use Rattle.std.proofs.lemmas.List.{get_or-set_same, get_or-set_other, length-set}
use Rattle.cpl_fixed.specs.Totals.{total_of}
use Rattle.cpl_state.specs.FastStep.{for_each}
use Rattle.cpl_state.specs.States.{of_cell}
use Rattle.cpl_laws.proofs.Sums.{total_add}
use Rattle.cpl_plan.specs.Sums.{AreTotals, IsSmall, sum_at}

-- ONE CELL

-- the numbers of cell n are added at the places below k
pub record AreAddedTo (width n k : ℕ) (amounts : List ℤ) (old new : List ℕ) : Type 0 where
  pub count : length new ≡ width
  pub done : (i : ℕ) → i < k → pos (sum_at new i) ≡ pos (sum_at old i) +ℤ of_cell width n i amounts
  pub left : (i : ℕ) → k ≤ i → sum_at new i ≡ sum_at old i

pub added_more : (width n k : ℕ) (amounts : List ℤ) (old new : List ℕ) (v : ℕ) → k < width → AreAddedTo width n k amounts old new → pos v ≡ pos (sum_at new k) +ℤ of_cell width n k amounts
    → AreAddedTo width n (k + 1) amounts old (slice_set new k v)
added_more width n k amounts old new v within added e = record {
  count = length-set new k v ∙ added.count;
  done = below_more (λ i. pos (sum_at (slice_set new k v) i) ≡ pos (sum_at old i) +ℤ of_cell width n i amounts) k
      (λ i h. let ne : i ≢ k = omega arith in let other = get_or-set_other new k i v 0 ne in (λ j. pos (other j)) ∙ added.done i h)
      (let here = get_or-set_same new k v 0 (omega (arith, within, added.count)) in (λ j. pos (here j)) ∙ e ∙ (λ j. pos (added.left k (omega arith) j) +ℤ of_cell width n k amounts));
  left = λ i h. let ne : i ≢ k = omega arith in get_or-set_other new k i v 0 ne ∙ added.left i (omega arith);
}

-- ALL CELLS

-- the sum over cells of the numbers at a place
abbrev at_cells : (width place cells : ℕ) → List ℤ → ℤ
at_cells width place cells xs = total_of (for_each cells (λ n. of_cell width n place xs))

-- sums of this machine are small
module _ {width : ℕ} (sums : List ℕ) (small : (k : ℕ) → k < width → sum_at sums k < 2 ^ 96) where
  pub small_at : (place : ℕ) → place < width → IsSmall (to_z w128 (sum_at sums place))
  small_at place within = let few = small place within in (omega (arith, ints, few), omega (arith, ints, few))

  pub small_both : (place other : ℕ) → place < width → other < width → (pos 0 ≤ℤ to_z w128 (sum_at sums place + sum_at sums other)) × (to_z w128 (sum_at sums place + sum_at sums other) <ℤ pos (2 ^ 97))
  small_both place other within inside =
      let few = small place within in
      let little = small other inside in
      (omega (arith, ints, few, little), omega (arith, ints, few, little))

-- those of a list that is another's are its sums
module _ (width cells count : ℕ) (xs ys : List ℤ) (sums : List ℕ) (totals : AreTotals width cells xs sums) (e : cells ≡ count) (f : xs ≡ ys) where
  sum_is : (place : ℕ) → place < width → pos (sum_at sums place) ≡ at_cells width place count ys
  sum_is place within = totals.each place within ∙ (λ i. at_cells width place (e i) (f i))

  pub summed_at : (place : ℕ) → place < width → to_z w128 (sum_at sums place) ≡ at_cells width place count ys
  summed_at place within =
      let few = totals.small place within in
      let own : to_z w128 (sum_at sums place) ≡ pos (sum_at sums place) = omega (arith, ints, few) in
      own ∙ sum_is place within

  -- at two places together
  pub summed_both : (place other : ℕ) → place < width → other < width → to_z w128 (sum_at sums place + sum_at sums other) ≡ total_of (for_each count (λ n. of_cell width n place ys +ℤ of_cell width n other ys))
  summed_both place other within inside =
      let few = totals.small place within in
      let little = totals.small other inside in
      let one = sum_is place within in
      let two = sum_is other inside in
      let both = total_add (λ n. of_cell width n place ys) (λ n. of_cell width n other ys) (range_with_len 0 count) in
      let own : to_z w128 (sum_at sums place + sum_at sums other) ≡ pos (sum_at sums place) +ℤ pos (sum_at sums other) = omega (arith, ints, few, little) in
      own ∙ (λ i. one i +ℤ two i) ∙ sym both
