-- Areas that are written part by part: how many of an item's first entries are to be looked at.
use Rattle.std.proofs.Common.{◌≡◌, ◌≢◌, ◌∙◌, sym, ap, subst, ℕ, ◌+◌, ◌<◌, ◌≤◌, arith, List, length, replicate, inl, inr, get_or-set_same, get_or-set_other, slice_set}
use Rattle.std.specs.Prelude.{ℤ, pos}
use Rattle.std.proofs.lemmas.Bool.{cases_eq, cases_lt}
use Rattle.std.proofs.lemmas.List.{get_or-replicate, get_or_past, length-replicate}
use Rattle.cpl_fixed.specs.Amounts.{at}
use Rattle.cpl_fast.specs.Places.{AreEnds, IsEnd, place_in, used_at}
use Rattle.cpl_fast.proofs.Placed.{entry_set_by}

-- all entries are looked at
pub all_used : (areas : List ℤ) (count width n : ℕ) → IsEnd areas count width n width
all_used areas count width n = record { most = omega arith; rest = λ k behind within. absurd (omega (arith, behind, within)) }

-- an entry without an area is written behind those that are looked at
pub end_passed : (areas : List ℤ) (count n k end : ℕ) (area : ℤ) → n < count → place_in count n k < length areas → area ≡ pos 0 → IsEnd areas count k n end
    → IsEnd (slice_set areas (place_in count n k) area) count (k + 1) n end
end_passed areas count n k end area l within none is = record {
  most = (let most = is.most in omega (arith, most));
  rest = λ j behind below. entry_set_by (λ i x. end ≤ i → x ≡ pos 0) areas count n k (pos 0) area l within (λ i before after. is.rest i after before) (λ _. none) j below behind;
}

-- one item more has its entries, where those of other items stand
pub ends_more : (now next : List ℤ) (used : List ℕ) (count width n end : ℕ) → n < count → n < length used
    → ((m : ℕ) → m < n → IsEnd now count width m (used_at used m)) → IsEnd next count width n end
    → ((m k : ℕ) → m < count → m ≢ n → at next (place_in count m k) ≡ at now (place_in count m k))
    → (m : ℕ) → m < n + 1 → IsEnd next count width m (used_at (slice_set used n end) m)
ends_more now next used count width n end l within done here stay m below = elim (cases_eq m n) [
  | inl e ↦
      let own : used_at (slice_set used n end) m ≡ end = ap (used_at (slice_set used n end)) e ∙ get_or-set_same used n end 0 within in
      subst (IsEnd next count width m) (sym own) (subst (λ (i : ℕ). IsEnd next count width i end) (sym e) here)
  | inr ne ↦
      let before : m < n = omega (arith, ne) in
      let same : used_at (slice_set used n end) m ≡ used_at used m = get_or-set_other used n m end 0 ne in
      let is = done m before in
      subst (IsEnd next count width m) (sym same) (record {
        most = is.most;
        rest = λ k behind h. stay m k (omega (arith, before, l)) ne ∙ is.rest k behind h;
      })
]

-- what is looked at, by equal counts
pub ends_by : (areas : List ℤ) (used : List ℕ) (count items width own_width : ℕ) → count ≡ items → width ≡ own_width → AreEnds areas used count width → AreEnds areas used items own_width
ends_by areas used count items width own_width count_is width_is are =
    subst (λ (w : ℕ). AreEnds areas used items w) width_is (subst (λ (c : ℕ). AreEnds areas used c width) count_is are)

-- and in equal lists
pub ends_in : (areas own_areas : List ℤ) (used own_used : List ℕ) (items width : ℕ) → areas ≡ own_areas → used ≡ own_used → AreEnds own_areas own_used items width → AreEnds areas used items width
ends_in areas own_areas used own_used items width areas_are used_are are =
    subst (λ (u : List ℕ). AreEnds areas u items width) (sym used_are) (subst (λ (a : List ℤ). AreEnds a own_used items width) (sym areas_are) are)

-- no area yet
zero_at : (areas : List ℤ) (size n : ℕ) → areas ≡ replicate size (pos 0) → at areas n ≡ pos 0
zero_at areas size n made = elim (cases_lt n size) [
  | inl l ↦ ap (λ (xs : List ℤ). at xs n) made ∙ get_or-replicate size n (pos 0) (pos 0) l
  | inr past ↦ ap (λ (xs : List ℤ). at xs n) made ∙ get_or_past (replicate size (pos 0)) n (pos 0) (omega (arith, past, length-replicate size (pos 0)))
]

pub no_areas : (areas : List ℤ) (used : List ℕ) (size count width : ℕ) → areas ≡ replicate size (pos 0) → used ≡ replicate count 0 → AreEnds areas used count width
no_areas areas used size count width areas_are used_are = record {
  count = ap length used_are ∙ length-replicate count 0;
  each = λ n l. (
      let none : used_at used n ≡ 0 = ap (λ (xs : List ℕ). used_at xs n) used_are ∙ get_or-replicate count n 0 0 l in
      record { most = omega (arith, none); rest = λ k behind below. zero_at areas size (place_in count n k) areas_are });
}
