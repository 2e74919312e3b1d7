-- What holds of the entries that are looked at, and of all that have no area, holds of all.
use Rattle.std.proofs.Common.{◌≡◌, ◌∙◌, sym, ap, subst, ℕ, ◌+◌, ◌-◌, ◌<◌, ◌≤◌, arith, List, length, map, inl, inr}
use Rattle.std.specs.Prelude.{ℤ, pos}
use Rattle.std.specs.List.{range_with_len}
use Rattle.std.proofs.lemmas.Bool.{cases_lt}
use Rattle.std.proofs.lemmas.Int.{ints}
use Rattle.cpl_fixed.specs.Amounts.{at}
use Rattle.cpl_fixed.specs.Totals.{total_of}
use Rattle.cpl_diffusion.proofs.Sums.{sum_to, sum_to-none, sum_to-split, total_range}
use Rattle.cpl_fast.specs.declared.flows.Tables.{Tables}
use Rattle.cpl_fast.specs.Flows.{AreUsed}
use Rattle.cpl_fast.specs.Places.{IsEnd, place_in, used_at}

pub entries_behind : (areas : List ℤ) (count width n end : ℕ) → IsEnd areas count width n end → (P : ℕ → Type 0) → ((k : ℕ) → k < end → P k)
    → ((k : ℕ) → end ≤ k → k < width → at areas (place_in count n k) ≡ pos 0 → P k) → (k : ℕ) → k < width → P k
entries_behind areas count width n end is P looked none k l = elim (cases_lt k end) [
  | inl below ↦ looked k below
  | inr behind ↦ none k behind l (is.rest k behind l)
]

-- how many elements of a row are looked at, as it was read
pub row_end : (tables : Tables) → AreUsed tables → (row : ℕ) → row < length tables.links.items → (end : ℕ) → end ≡ used_at tables.used.items row
    → IsEnd tables.areas.items (length tables.links.items) tables.width row end
row_end tables are row l end e = subst (IsEnd tables.areas.items (length tables.links.items) tables.width row) (sym e) (are.each row l)

-- a sum whose last terms are 0 is that of the terms before
pub sum_to_end : (f : ℕ → ℤ) (end width : ℕ) → end ≤ width → ((k : ℕ) → end ≤ k → k < width → f k ≡ pos 0) → sum_to f end ≡ sum_to f width
sum_to_end f end width most none =
    let rest : width ≡ end + (width - end) = omega arith in
    let split = ap (sum_to f) rest ∙ sum_to-split f end (width - end) in
    let nothing = sum_to-none (λ k. f (end + k)) (width - end) (λ k l. none (end + k) (omega arith) (omega (arith, l))) in
    omega (arith, ints, split, nothing)

-- a sum over the entries that are looked at is the total over all, where those of the area 0 add nothing
pub total_entries : (areas : List ℤ) (count width n end : ℕ) → IsEnd areas count width n end → (f : ℕ → ℤ) → ((k : ℕ) → k < width → at areas (place_in count n k) ≡ pos 0 → f k ≡ pos 0)
    → sum_to f end ≡ total_of (map f (range_with_len 0 width))
total_entries areas count width n end is f none =
    sum_to_end f end width is.most (λ k behind l. none k l (is.rest k behind l)) ∙ sym (total_range f width)
