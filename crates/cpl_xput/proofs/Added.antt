-- Values added up one after another.
use Rattle.std.proofs.Common.{◌≡◌, refl, sym, ◌∙◌, ap, Bool, true, false, cond, eqb, ℕ, zero, suc, ◌+◌, ◌<◌, ◌≤◌, arith, List, [], ◌∷◌, length, get_or, set, take, inl, inr}
use Rattle.std.specs.Prelude.{ℤ, pos, ◌+ℤ◌}
use Rattle.std.proofs.lemmas.Bool.{cases_eq, cond-true, cond-false, eq-eqb, ne_eqb}
use Rattle.std.proofs.lemmas.Int.{ints}
use Rattle.std.proofs.lemmas.List.{same_lists, length-set, get_or-set_same, get_or-set_other, get_or_default, take_all}
use Rattle.std.proofs.lemmas.List.FromFn.{length-map-range_with_len, get_or-map-range_with_len}
use Rattle.cpl_fixed.specs.Totals.{total_of}
use Rattle.cpl_xput.specs.Sums.{values_at, sums_of}

-- the total with the value of a place, if it is this one
added : (b : Bool) (x : ℤ) (xs : List ℤ) → total_of (cond b (x ∷ xs) xs) ≡ cond b x (pos 0) +ℤ total_of xs
added true x xs = refl
added false x xs = omega (arith, ints)

pub values_more : (at k : ℕ) (places : List ℕ) (values : List ℤ) → k < length places → k < length values
    → total_of (values_at at (take (k + 1) places) (take (k + 1) values)) ≡ total_of (values_at at (take k places) (take k values)) +ℤ cond (eqb (get_or places k 0) at) (get_or values k (pos 0)) (pos 0)
values_more at k [] values h g = absurd (omega arith)
values_more at k (place ∷ places) [] h g = absurd (omega arith)
values_more at zero (place ∷ places) (value ∷ values) h g = let first = added (eqb place at) value [] in omega (arith, ints, first)
values_more at (suc k) (place ∷ places) (value ∷ values) h g =
    let next : suc k + 1 ≡ suc (k + 1) = omega arith in
    let rest = values_more at k places values (omega arith) (omega arith) in
    let longer = added (eqb place at) value (values_at at (take (k + 1) places) (take (k + 1) values)) in
    let shorter = added (eqb place at) value (values_at at (take k places) (take k values)) in
    ap (λ (m : ℕ). total_of (values_at at (take m (place ∷ places)) (take m (value ∷ values)))) next
    ∙ omega (arith, ints, rest, longer, shorter)

-- the sums of the first k values stand at their places
pub record AreAdded (count k : ℕ) (places : List ℕ) (values sums : List ℤ) : Type 0 where
  pub size : length sums ≡ count
  pub each : (at : ℕ) → at < count → get_or sums at (pos 0) ≡ total_of (values_at at (take k places) (take k values))

pub added_more : (count k : ℕ) (places : List ℕ) (values sums : List ℤ) (x : ℤ) → AreAdded count k places values sums → k < length places → k < length values → get_or places k 0 < count
    → x ≡ get_or sums (get_or places k 0) (pos 0) +ℤ get_or values k (pos 0) → AreAdded count (k + 1) places values (set sums (get_or places k 0) x)
added_more count k places values sums x are h g low is =
    let place = get_or places k 0 in
    let size = are.size in
    record {
      size = length-set sums place x ∙ are.size;
      each = λ at within. elim (cases_eq place at) [
        | inl same ↦
            let more = values_more at k places values h g in
            let test : cond (eqb place at) (get_or values k (pos 0)) (pos 0) ≡ get_or values k (pos 0) = cond-true (eqb place at) (get_or values k (pos 0)) (pos 0) (eq-eqb place at same) in
            let now : get_or (set sums place x) at (pos 0) ≡ x = ap (λ (m : ℕ). get_or (set sums place x) m (pos 0)) (sym same) ∙ get_or-set_same sums place x (pos 0) (omega arith) in
            let was = are.each at within in
            let read = ap (λ (m : ℕ). get_or sums m (pos 0)) same in
            now ∙ is ∙ ap (λ (s : ℤ). s +ℤ get_or values k (pos 0)) (read ∙ was) ∙ ap (λ (v : ℤ). total_of (values_at at (take k places) (take k values)) +ℤ v) (sym test) ∙ sym more
        | inr other ↦
            let more = values_more at k places values h g in
            let test : cond (eqb place at) (get_or values k (pos 0)) (pos 0) ≡ pos 0 = cond-false (eqb place at) (get_or values k (pos 0)) (pos 0) (ne_eqb place at other) in
            let now = get_or-set_other sums place at x (pos 0) (λ e. other (sym e)) in
            let was = are.each at within in
            let plain : total_of (values_at at (take (k + 1) places) (take (k + 1) values)) ≡ total_of (values_at at (take k places) (take k values)) = omega (arith, ints, more, test) in
            now ∙ was ∙ sym plain
      ];
    }

-- all are added
pub added_all : (count k : ℕ) (places : List ℕ) (values sums : List ℤ) → AreAdded count k places values sums → length places ≤ k → length values ≤ k → sums ≡ sums_of count places values
added_all count k places values sums are h g =
    let has = λ (at : ℕ). total_of (values_at at places values) in
    let long = length-map-range_with_len has 0 count in
    let size = are.size in
    same_lists sums (sums_of count places values) (are.size ∙ sym long) (λ at d within.
    get_or_default sums at d (pos 0) within
    ∙ are.each at (omega arith)
    ∙ ap (λ (l : List ℕ). total_of (values_at at l (take k values))) (take_all k places h)
    ∙ ap (λ (l : List ℤ). total_of (values_at at places l)) (take_all k values g)
    ∙ sym (get_or-map-range_with_len has 0 count at at d (omega arith) (omega arith)))

-- the sum of the first k + 1 values of the k-th value's place
pub added_fits : (k : ℕ) (places : List ℕ) (values : List ℤ) → k < length places → k < length values
    → total_of (values_at (get_or places k 0) (take (k + 1) places) (take (k + 1) values)) ≡ total_of (values_at (get_or places k 0) (take k places) (take k values)) +ℤ get_or values k (pos 0)
added_fits k places values h g =
    values_more (get_or places k 0) k places values h g
    ∙ ap (λ (v : ℤ). total_of (values_at (get_or places k 0) (take k places) (take k values)) +ℤ v) (cond-true _ _ _ (eq-eqb (get_or places k 0) (get_or places k 0) refl))
