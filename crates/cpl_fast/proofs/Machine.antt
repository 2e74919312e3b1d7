-- Sums of the first numbers of lists, and of areas over exchange cells.
use Rattle.std.proofs.Common.{◌≡◌, ◌∙◌, sym, ap, subst, ℕ, zero, suc, ◌+◌, ◌*◌, ◌<◌, ◌≤◌, arith, inl, inr, List, length, map, take, get_or}
use Rattle.std.specs.Prelude.{ℤ, pos, ◌+ℤ◌, ◌≤ℤ◌, All}
use Rattle.std.proofs.lemmas.Bool.{cases_eq}
use Rattle.std.proofs.lemmas.List.{length-map, take-map, get_or-map}
use Rattle.cpl_fixed.specs.Amounts.{at}
use Rattle.cpl_xgrid.specs.declared.parts.XRef.{XRef}
use Rattle.cpl_fixed.specs.Totals.{total_of}
use Rattle.cpl_fixed.proofs.ShareLaws.{total_front, total_more}
use Rattle.std.proofs.lemmas.Int.{ints}
use Rattle.cpl_fast.specs.Places.{place_in}
use Rattle.cpl_fast.specs.Sums.{reaches}

-- the first numbers sum to no more than more of them
pub front_most : (xs : List ℤ) (a b : ℕ) → All (λ x. pos 0 ≤ℤ x) xs → a ≤ b → b ≤ length xs → total_of (take a xs) ≤ℤ total_of (take b xs)
front_most xs a zero all l h =
    let e : a ≡ 0 = omega arith in
    let same = ap (λ (n : ℕ). total_of (take n xs)) e in
    omega (arith, ints, same)
front_most xs a (suc b) all l h = elim (cases_eq a (suc b)) [
  | inl e ↦ let same = ap (λ (n : ℕ). total_of (take n xs)) e in omega (arith, ints, same)
  | inr ne ↦
      let before = front_most xs a b all (omega arith) (omega arith) in
      let own = all b (pos 0) (omega arith) in
      let e : b + 1 ≡ suc b = omega arith in
      let more = ap (λ (n : ℕ). total_of (take n xs)) (sym e) ∙ total_more xs b (omega arith) in
      omega (arith, ints, before, own, more)
]

-- the sum of the areas of a part over one exchange cell more, where the list has so many rows
pub record IsNextPart (refs : List XRef) (areas : List ℤ) (rows k n : ℕ) (own : ℤ) : Type 0 where
  pub more : total_of (map (λ (ref : XRef). at areas (place_in rows ref.row k)) (take (n + 1) refs)) ≡ total_of (map (λ (ref : XRef). at areas (place_in rows ref.row k)) (take n refs)) +ℤ own
  pub least : pos 0 ≤ℤ total_of (map (λ (ref : XRef). at areas (place_in rows ref.row k)) (take (n + 1) refs))
  pub most : total_of (map (λ (ref : XRef). at areas (place_in rows ref.row k)) (take (n + 1) refs)) ≤ℤ total_of (map (λ (ref : XRef). at areas (place_in rows ref.row k)) refs)

pub next_part : (refs : List XRef) (areas : List ℤ) (rows k n : ℕ) (d : XRef) → k * rows + rows ≤ length areas → All (reaches rows) refs → All (λ x. pos 0 ≤ℤ x) areas → n < length refs
    → IsNextPart refs areas rows k n (at areas (place_in rows (get_or refs n d).row k))
next_part refs areas rows k n d part reach least within =
    let area = λ (ref : XRef). at areas (place_in rows ref.row k) in
    let long = length-map refs area in
    let natural : All (λ x. pos 0 ≤ℤ x) (map area refs) = λ j e h. (
    let below : j < length refs = omega (arith, long) in
    let place = reach j d below in
    subst (λ (x : ℤ). pos 0 ≤ℤ x) (sym (get_or-map area refs j d e below)) (least (place_in rows (get_or refs j d).row k) (pos 0) (omega (arith, place)))) in
    let now = ap total_of (take-map area (n + 1) refs) in
    let was = ap total_of (take-map area n refs) in
    let front = total_front (map area refs) (n + 1) natural in
    let more = total_more (map area refs) n (omega (arith, long)) in
    let read = get_or-map area refs n d (pos 0) within in
    record {
      more = omega (arith, ints, now, was, more, read);
      least = omega (arith, ints, now, front.0);
      most = omega (arith, ints, now, front.1);
    }
