-- What contacts that keep the rules join.
use Rattle.std.proofs.Common.{◌≡◌, refl, sym, ◌∙◌, ap, subst, Bool, true, false, not, ◌&&◌, eqb, ℕ, ◌+◌, ◌-◌, ◌<◌, ◌≤◌, arith, List, [], ◌∷◌, ◌++◌, map, length, Option, Some, None, inl, inr}
use Rattle.std.specs.Prelude.{◌≢◌, All, Contains, if◌then◌else◌}
use Rattle.std.specs.List.{list_any, range_with_len}
use Rattle.std.proofs.lemmas.Bool.{and_parts, or_parts, eqb-true, leb-true, cond-true, cond-false, cases_Bool, both_ways, cond_both, and_cases, not-false}
use Rattle.std.proofs.lemmas.List.{append-nil, append_assoc}
use Rattle.std.proofs.lemmas.List.Concat.{flat_map-append}
use Rattle.std.proofs.lemmas.List.Elements.{Contains-append_cases, Contains-append_left, Contains-append_right}
use Rattle.std.proofs.lemmas.List.FromFn.{length-range_with_len, get_or-range_with_len}
use Rattle.cpl_mosaic.specs.declared.parts.Tile.{Tile}
use Rattle.cpl_mosaic.specs.declared.parts.Span.{Span}
use Rattle.cpl_mosaic.specs.declared.parts.Contact.{Contact}
use Rattle.cpl_mosaic.specs.declared.parts.MosaicError.{MosaicError}
use Rattle.cpl_mosaic.specs.declared.parts.MosaicError.TheVariants.{ContactRange, ContactTwice, SelfMeet}
use Rattle.cpl_mosaic.specs.Sides.{CellSide, is_same_side, IsEdgeSide}
use Rattle.cpl_mosaic.specs.Contacts.{IsTile, IsMosaic, span_length, span_is_inside, is_in_range, joined_pair, pairs_of, swapped, joins_of, all_joins, share_side, disagree, joins_twice, meets_itself, first_refused, or_else, as_fault}
use Rattle.cpl_mosaic.proofs.Elements.{none_passes, no_element, Contains-map, Contains-from_map}
use Rattle.cpl_mosaic.proofs.Edges.{own_side, same_side, are_same, span_sides}

-- what two joined sides are
pub record IsJoin (tiles : List Tile) (pair : CellSide × CellSide) : Type 0 where
  pub first : IsEdgeSide tiles pair.0
  pub second : IsEdgeSide tiles pair.1
  pub apart : pair.0 ≢ pair.1

swap_join : (tiles : List Tile) (pair : CellSide × CellSide) → IsJoin tiles pair → IsJoin tiles (swapped pair)
swap_join tiles pair is = record { first = is.second; second = is.first; apart = λ e. is.apart (sym e) }

-- the k-th of a range as long as another is in it, from its start as from its end
kth_inside : (flip : Bool) (k n : ℕ) (span : Span) → k < n → n ≡ span_length span → span.lo ≤ span.hi → (if flip then span.hi - k else span.lo + k) ≤ span.hi
kth_inside flip k n span below same order = cond_both flip (span.hi - k) (span.lo + k) (λ m. m ≤ span.hi) (λ e. omega arith) (λ e. omega arith)

-- a contact in range joins sides along edges
pub pair_sides : (tiles : List Tile) (contact : Contact) (k : ℕ) → All IsTile tiles → is_in_range tiles contact ≡ true → k < span_length contact.first → IsEdgeSide tiles (joined_pair tiles contact k).0 × IsEdgeSide tiles (joined_pair tiles contact k).1
pair_sides tiles contact k sizes range below =
    let parts = and_parts (span_is_inside tiles contact.first && span_is_inside tiles contact.second) (eqb (span_length contact.first) (span_length contact.second)) range in
    let inside = and_parts (span_is_inside tiles contact.first) (span_is_inside tiles contact.second) parts.0 in
    let same = eqb-true (span_length contact.first) (span_length contact.second) parts.1 in
    let first = leb-true contact.first.lo contact.first.hi (and_parts _ _ inside.0).0 in
    let second = leb-true contact.second.lo contact.second.hi (and_parts _ _ inside.1).0 in
    let upto : contact.first.lo + k ≤ contact.first.hi = omega arith in (
      span_sides tiles contact.first (contact.first.lo + k) sizes inside.0 upto,
      span_sides tiles contact.second _ sizes inside.1 (kth_inside contact.flip k (span_length contact.first) contact.second below same second),
    )

-- the numbers of a range
in_range_with_len : (n k : ℕ) → Contains (range_with_len 0 n) k → k < n
in_range_with_len n k is =
    let below : is.0 < n = let h = is.1 in omega (arith, length-range_with_len 0 n) in
    let at = get_or-range_with_len 0 n is.0 k below in
    let same = is.2 in
    omega arith

-- what one contact joins
pair_joins : (tiles : List Tile) (contact : Contact) → All IsTile tiles → is_in_range tiles contact ≡ true → meets_itself tiles contact ≡ false → (pair : CellSide × CellSide) → Contains (pairs_of tiles contact) pair → IsJoin tiles pair
pair_joins tiles contact sizes range apart pair is =
    let from = Contains-from_map (joined_pair tiles contact) (range_with_len 0 (span_length contact.first)) pair is in
    let sides = pair_sides tiles contact from.0 sizes range (in_range_with_len (span_length contact.first) from.0 from.1) in
    let differ = none_passes (λ (p : CellSide × CellSide). is_same_side p.0 p.1) (pairs_of tiles contact) pair apart is in
    record {
      first = rw (← from.2) sides.0;
      second = rw (← from.2) sides.1;
      apart = λ e. both_ways (is_same_side pair.0 pair.1) differ (subst (λ (b : CellSide). is_same_side pair.0 b ≡ true) e (own_side pair.0));
    }

contact_joins : (tiles : List Tile) (contact : Contact) → All IsTile tiles → is_in_range tiles contact ≡ true → meets_itself tiles contact ≡ false → (pair : CellSide × CellSide) → Contains (joins_of tiles contact) pair → IsJoin tiles pair
contact_joins tiles contact sizes range apart pair is = elim (Contains-append_cases (pairs_of tiles contact) (map swapped (pairs_of tiles contact)) pair is) [
  | inl one ↦ pair_joins tiles contact sizes range apart pair one
  | inr other ↦
      let from = Contains-from_map swapped (pairs_of tiles contact) pair other in
      rw (← from.2) (swap_join tiles from.0 (pair_joins tiles contact sizes range apart from.0 from.1))
]

-- what a contact joins is joined from both sides
swap_back : (tiles : List Tile) (contact : Contact) (pair : CellSide × CellSide) → Contains (joins_of tiles contact) pair → Contains (joins_of tiles contact) (swapped pair)
swap_back tiles contact pair is = elim (Contains-append_cases (pairs_of tiles contact) (map swapped (pairs_of tiles contact)) pair is) [
  | inl one ↦ Contains-append_right (pairs_of tiles contact) (map swapped (pairs_of tiles contact)) (swapped pair) (Contains-map swapped (pairs_of tiles contact) pair one)
  | inr other ↦
      let from = Contains-from_map swapped (pairs_of tiles contact) pair other in
      rw (← ap swapped from.2) (Contains-append_left (pairs_of tiles contact) (map swapped (pairs_of tiles contact)) from.0 from.1)
]

-- a list of contacts that a test passes: its first one, and the rest
first_passes : (refuses : List Contact → Contact → Bool) (earlier contacts : List Contact) (contact : Contact) → first_refused refuses earlier (contact ∷ contacts) ≡ None → (refuses earlier contact ≡ false) × (first_refused refuses (earlier ++ contact ∷ []) contacts ≡ None)
first_passes refuses earlier contacts contact e = elim (cases_Bool (refuses earlier contact)) [
  | inl refused ↦ absurd (let at = cond-true (refuses earlier contact) (Some (length earlier)) (first_refused refuses (earlier ++ contact ∷ []) contacts) refused in cc)
  | inr passed ↦ (passed, sym (cond-false (refuses earlier contact) (Some (length earlier)) (first_refused refuses (earlier ++ contact ∷ []) contacts) passed) ∙ e)
]

-- no side is joined to two
abbrev pub OneEach : List (CellSide × CellSide) → Type 0
OneEach joins = (p q : CellSide × CellSide) → Contains joins p → Contains joins q → p.0 ≡ q.0 → p.1 ≡ q.1

-- where pairs don't disagree, one side meets one side
meet_one : (p q : CellSide × CellSide) → disagree p q ≡ false → p.0 ≡ q.0 → p.1 ≡ q.1
meet_one p q agree e = elim (and_cases (is_same_side p.0 q.0) (not (is_same_side p.1 q.1)) agree) [
  | inl apart ↦ absurd (both_ways (is_same_side p.0 q.0) apart (are_same p.0 q.0 e))
  | inr same ↦ same_side p.1 q.1 (not-false (is_same_side p.1 q.1) same)
]

-- a contact that joins nothing twice shares no side with earlier ones, and its own pairs agree
shares_none : (tiles : List Tile) (earlier : List Contact) (contact : Contact) → joins_twice tiles earlier contact ≡ false → (p q : CellSide × CellSide) → Contains (joins_of tiles contact) p → Contains (all_joins tiles earlier) q → p.0 ≡ q.0 → ⊥
shares_none tiles earlier contact once p q is_p is_q e =
    let parts = or_parts (list_any (λ p. list_any (share_side p) (all_joins tiles earlier)) (joins_of tiles contact)) (list_any (λ p. list_any (disagree p) (joins_of tiles contact)) (joins_of tiles contact)) once in
    let none = none_passes (λ p. list_any (share_side p) (all_joins tiles earlier)) (joins_of tiles contact) p parts.0 is_p in
    both_ways (is_same_side p.0 q.0) (none_passes (share_side p) (all_joins tiles earlier) q none is_q) (are_same p.0 q.0 e)

own_agree : (tiles : List Tile) (earlier : List Contact) (contact : Contact) → joins_twice tiles earlier contact ≡ false → OneEach (joins_of tiles contact)
own_agree tiles earlier contact once p q is_p is_q e =
    let parts = or_parts (list_any (λ p. list_any (share_side p) (all_joins tiles earlier)) (joins_of tiles contact)) (list_any (λ p. list_any (disagree p) (joins_of tiles contact)) (joins_of tiles contact)) once in
    let none = none_passes (λ p. list_any (disagree p) (joins_of tiles contact)) (joins_of tiles contact) p parts.1 is_p in
    meet_one p q (none_passes (disagree p) (joins_of tiles contact) q none is_q) e

one_more : (tiles : List Tile) (earlier : List Contact) (contact : Contact) → joins_twice tiles earlier contact ≡ false → OneEach (all_joins tiles earlier) → OneEach (all_joins tiles earlier ++ joins_of tiles contact)
one_more tiles earlier contact once each p q is_p is_q e =
    elim (Contains-append_cases (all_joins tiles earlier) (joins_of tiles contact) p is_p) [
      | inl old_p ↦ elim (Contains-append_cases (all_joins tiles earlier) (joins_of tiles contact) q is_q) [
        | inl old_q ↦ each p q old_p old_q e
        | inr new_q ↦ absurd (shares_none tiles earlier contact once q p new_q old_p (sym e))
      ]
      | inr new_p ↦ elim (Contains-append_cases (all_joins tiles earlier) (joins_of tiles contact) q is_q) [
        | inl old_q ↦ absurd (shares_none tiles earlier contact once p q new_p old_q e)
        | inr new_q ↦ own_agree tiles earlier contact once p q new_p new_q e
      ]
    ]

-- the same for contacts one after another
all_one_each : (tiles : List Tile) (earlier contacts : List Contact) → first_refused (joins_twice tiles) earlier contacts ≡ None → OneEach (all_joins tiles earlier) → OneEach (all_joins tiles (earlier ++ contacts))
all_one_each tiles earlier [] e each = rw (append-nil earlier) each
all_one_each tiles earlier (contact ∷ contacts) e each =
    let parts = first_passes (joins_twice tiles) earlier contacts contact e in
    let step : all_joins tiles (earlier ++ contact ∷ []) ≡ all_joins tiles earlier ++ joins_of tiles contact =
    flat_map-append (joins_of tiles) earlier (contact ∷ []) ∙ ap (λ more. all_joins tiles earlier ++ more) (append-nil (joins_of tiles contact)) in
    let next : OneEach (all_joins tiles (earlier ++ contact ∷ [])) = rw step (one_more tiles earlier contact parts.0 each) in
    rw (append_assoc earlier (contact ∷ []) contacts) at (all_one_each tiles (earlier ++ contact ∷ []) contacts parts.1 next)

all_back : (tiles : List Tile) (contacts : List Contact) (pair : CellSide × CellSide) → Contains (all_joins tiles contacts) pair → Contains (all_joins tiles contacts) (swapped pair)
all_back tiles [] pair is = absurd (no_element pair is)
all_back tiles (contact ∷ contacts) pair is = elim (Contains-append_cases (joins_of tiles contact) (all_joins tiles contacts) pair is) [
  | inl here ↦ Contains-append_left (joins_of tiles contact) (all_joins tiles contacts) (swapped pair) (swap_back tiles contact pair here)
  | inr later ↦ Contains-append_right (joins_of tiles contact) (all_joins tiles contacts) (swapped pair) (all_back tiles contacts pair later)
]

all_each : (tiles : List Tile) (earlier contacts : List Contact) → All IsTile tiles → first_refused (λ earlier contact. not (is_in_range tiles contact)) earlier contacts ≡ None → first_refused (λ earlier contact. meets_itself tiles contact) earlier contacts ≡ None → (pair : CellSide × CellSide) → Contains (all_joins tiles contacts) pair → IsJoin tiles pair
all_each tiles earlier [] sizes ranges apart pair is = absurd (no_element pair is)
all_each tiles earlier (contact ∷ contacts) sizes ranges apart pair is =
    let range = first_passes (λ earlier contact. not (is_in_range tiles contact)) earlier contacts contact ranges in
    let differ = first_passes (λ earlier contact. meets_itself tiles contact) earlier contacts contact apart in
    elim (Contains-append_cases (joins_of tiles contact) (all_joins tiles contacts) pair is) [
      | inl here ↦ contact_joins tiles contact sizes (not-false (is_in_range tiles contact) range.0) differ.0 pair here
      | inr later ↦ all_each tiles (earlier ++ contact ∷ []) contacts sizes range.1 differ.1 pair later
    ]

-- no rule is broken where none of the three is
no_other : (first second : Option MosaicError) → or_else first second ≡ None → (first ≡ None) × (second ≡ None)
no_other None second e = (refl, e)
no_other (Some fault) second e = absurd (cc)

no_fault : (fault : ℕ → MosaicError) (refused : Option ℕ) → as_fault fault refused ≡ None → refused ≡ None
no_fault fault None e = refl
no_fault fault (Some n) e = absurd (cc)

-- what holds of all that contacts join
pub record JoinLaws (tiles : List Tile) (joins : List (CellSide × CellSide)) : Type 0 where
  pub each : (pair : CellSide × CellSide) → Contains joins pair → IsJoin tiles pair
  pub back : (pair : CellSide × CellSide) → Contains joins pair → Contains joins (swapped pair)
  pub one : OneEach joins

pub join_laws : (tiles : List Tile) (contacts : List Contact) → IsMosaic tiles contacts → JoinLaws tiles (all_joins tiles contacts)
join_laws tiles contacts is =
    let range = first_refused (λ earlier contact. not (is_in_range tiles contact)) [] contacts in
    let twice = first_refused (joins_twice tiles) [] contacts in
    let itself = first_refused (λ earlier contact. meets_itself tiles contact) [] contacts in
    let rules = no_other (as_fault ContactRange range) (or_else (as_fault ContactTwice twice) (as_fault SelfMeet itself)) is.rules in
    let others = no_other (as_fault ContactTwice twice) (as_fault SelfMeet itself) rules.1 in
    record {
      each = all_each tiles [] contacts is.sizes.each (no_fault ContactRange range rules.0) (no_fault SelfMeet itself others.1);
      back = all_back tiles contacts;
      one = all_one_each tiles [] contacts (no_fault ContactTwice twice others.0) (λ p q is_p is_q e. absurd (no_element p is_p));
    }
