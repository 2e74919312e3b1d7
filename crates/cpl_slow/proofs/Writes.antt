-- Lists that are written place by place, and block by block.
use Rattle.std.proofs.Common.{◌≡◌, ◌≢◌, ◌∙◌, refl, sym, ap, ℕ, ◌+◌, ◌*◌, ◌<◌, ◌≤◌, arith, inl, inr, below_more, Bool, cond, ltb, List, length, map, get_or, ◌-◌, w64, to_z, of_z}
use Rattle.std.specs.Prelude.{ℤ, pos, ◌≤ℤ◌, slice_set}
use Rattle.std.proofs.lemmas.Int.{ints}
use Rattle.cpl_fixed.specs.declared.limits.TheConstants.{MOST_TOTAL}
use Rattle.std.specs.List.{range_with_len}
use Rattle.std.proofs.lemmas.Bool.{cases_lt, lt-ltb, le-ltb}
use Rattle.std.proofs.lemmas.List.{get_or-set_same, get_or-set_other, length-set}
use Rattle.std.proofs.lemmas.List.FromFn.{fill_by_all}
use Rattle.cpl_fixed.specs.Amounts.{at}
use Rattle.cpl_state.specs.States.{of_cell, filled_up}
use Rattle.cpl_state.specs.FastStep.{for_each}
use Rattle.cpl_slow.specs.Blocks.{IsPut, IsPartWay}

-- once f n is written at n, all places up to n have it
pub written : {X : Type 0} (d : X) (f : ℕ → X) (xs : List X) (n : ℕ) (v : X) → n < length xs → ((k : ℕ) → k < n → get_or xs k d ≡ f k) → v ≡ f n → (k : ℕ) → k < n + 1 → get_or (slice_set xs n v) k d ≡ f k
written d f xs n v l done e =
    below_more (λ k. get_or (slice_set xs n v) k d ≡ f k) n
    (λ k h. let ne : k ≢ n = omega arith in get_or-set_other xs n k v d ne ∙ done k h)
    (get_or-set_same xs n v d l ∙ e)

-- and the places behind it are as before
pub untouched : {X : Type 0} (d : X) (f : ℕ → X) (xs : List X) (n : ℕ) (v : X) → ((k : ℕ) → n ≤ k → get_or xs k d ≡ f k) → (k : ℕ) → n + 1 ≤ k → get_or (slice_set xs n v) k d ≡ f k
untouched d f xs n v same k h = let ne : k ≢ n = omega arith in get_or-set_other xs n k v d ne ∙ same k (omega arith)

-- nothing is put yet
pub put_none : (start : ℕ) (block xs : List ℤ) → IsPut start 0 block xs xs
put_none start block xs = record { count = refl; before = λ i h. refl; inside = λ k h. absurd (omega arith); behind = λ i h. refl }

-- one number more
pub put_more : (start k : ℕ) (block old new : List ℤ) (v : ℤ) → start + k < length new → v ≡ at block k → IsPut start k block old new → IsPut start (k + 1) block old (slice_set new (start + k) v)
put_more start k block old new v within e put = record {
  count = length-set new (start + k) v ∙ put.count;
  before = λ i h. let ne : i ≢ start + k = omega arith in get_or-set_other new (start + k) i v (pos 0) ne ∙ put.before i h;
  inside = below_more (λ i. at (slice_set new (start + k) v) (start + i) ≡ at block i) k
      (λ i h. let ne : start + i ≢ start + k = omega arith in get_or-set_other new (start + k) (start + i) v (pos 0) ne ∙ put.inside i h)
      (get_or-set_same new (start + k) v (pos 0) within ∙ e);
  behind = λ i h. let ne : i ≢ start + k = omega arith in get_or-set_other new (start + k) i v (pos 0) ne ∙ put.behind i (omega arith);
}

-- a block that has the numbers of a cell, and zeros behind them
pub filled_is : (most width n : ℕ) (xs block : List ℤ) → length block ≡ most → ((k : ℕ) → k < width → at block k ≡ of_cell width n k xs) → ((k : ℕ) → width ≤ k → at block k ≡ pos 0) → block ≡ filled_up most width n xs
filled_is most width n xs block count inside behind =
    fill_by_all (λ k. cond (ltb k width) (of_cell width n k xs) (pos 0)) block most (pos 0) count
    (λ k h. elim (cases_lt k width) [
      | inl lt ↦ inside k lt ∙ sym (ap (λ (b : Bool). cond b (of_cell width n k xs) (pos 0)) (lt-ltb k width lt))
      | inr ge ↦ behind k ge ∙ sym (ap (λ (b : Bool). cond b (of_cell width n k xs) (pos 0)) (le-ltb k width ge))
    ])

-- once a cell's block is put, its places are done too
pub part_way_more : (start width : ℕ) (next : ℕ → ℤ) (block old now new : List ℤ) → IsPartWay start next old now → IsPut start width block now new → ((k : ℕ) → k < width → at block k ≡ next (start + k)) → IsPartWay (start + width) next old new
part_way_more start width next block old now new way put is = record {
  count = put.count ∙ way.count;
  done = λ i h. elim (cases_lt i start) [
    | inl lt ↦ put.before i lt ∙ way.done i lt
    | inr ge ↦
        let e : start + (i - start) ≡ i = omega arith in
        let l : i - start < width = omega arith in
        ap (at new) (sym e) ∙ put.inside (i - start) l ∙ is (i - start) l ∙ ap next e
  ];
  left = λ i h. put.behind i h ∙ way.left i (omega arith);
}

-- at first none is done, and at last all are
pub part_way_none : (upto : ℕ) (next : ℕ → ℤ) (xs : List ℤ) → upto ≡ 0 → IsPartWay upto next xs xs
part_way_none upto next xs e = record { count = refl; done = λ i h. absurd (omega arith); left = λ i h. refl }

pub part_way_all : (count : ℕ) (next : ℕ → ℤ) (old new : List ℤ) → length old ≡ count → IsPartWay count next old new → new ≡ for_each count next
part_way_all count next old new long way = fill_by_all next new count (pos 0) (way.count ∙ long) way.done

-- the numbers of a cell that comes after the done ones are those from before
pub block_left : (most width n upto : ℕ) (next : ℕ → ℤ) (old now : List ℤ) → upto ≤ n * width → IsPartWay upto next old now → filled_up most width n now ≡ filled_up most width n old
block_left most width n upto next old now h way =
    ap (λ (f : ℕ → ℤ). map f (range_with_len 0 most))
    (λ i k. cond (ltb k width) (way.left (n * width + k) (omega arith) i) (pos 0))

-- a number in range is the same as a machine word
pub word : (x : ℤ) → pos 0 ≤ℤ x → x ≤ℤ pos MOST_TOTAL → to_z w64 (of_z w64 x) ≡ x
word x least most = omega (arith, ints)
