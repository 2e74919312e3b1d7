-- Contacts of whole edges keep the rules, where each edge stands in one contact.
use Rattle.std.proofs.Common.{◌≡◌, refl, sym, ◌∙◌, ap, subst, Bool, true, false, cond, not, ◌&&◌, leb, ltb, ◌==◌, ℕ, ◌+◌, ◌-◌, ◌*◌, ◌<◌, ◌≤◌, arith, List, [], ◌∷◌, ◌++◌, length, get_or, Some, None, ◌⊎◌, inl, inr}
use Rattle.std.specs.Prelude.{Contains}
use Rattle.std.specs.List.{AllByRecursion, list_any}
use Rattle.std.proofs.lemmas.Bool.{both_ways, and_from, and_parts, or_from, false_from_ne_true, not-true, cond-false, eq-eqb, le-leb, lt-ltb, cases_lt}
use Rattle.std.proofs.lemmas.List.{get_or_default}
use Rattle.std.proofs.lemmas.List.Elements.{Contains-append_cases}
use Rattle.std.proofs.lemmas.List.Folds.{list_any_none}
use Rattle.cpl_mosaic.specs.declared.parts.Side.{Side}
use Rattle.cpl_mosaic.specs.declared.parts.Side.TheVariants.{W, E, S, N}
use Rattle.cpl_mosaic.specs.declared.parts.Tile.{Tile}
use Rattle.cpl_mosaic.specs.declared.parts.Span.{Span}
use Rattle.cpl_mosaic.specs.declared.parts.Contact.{Contact}
use Rattle.cpl_mosaic.specs.Sides.{CellSide, is_same_direction, is_same_side, tile_at, edge_length, edge_side}
use Rattle.cpl_mosaic.specs.Contacts.{span_length, is_in_range, joined_pair, pairs_of, swapped, joins_of, all_joins, disagree, share_side, joins_twice, meets_itself, first_refused, range_fault, twice_fault, self_meeting_fault, contact_fault, as_fault, or_else}
use Rattle.cpl_mosaic.specs.declared.parts.MosaicError.TheVariants.{ContactRange, ContactTwice, SelfMeet}
use Rattle.cpl_mosaic.proofs.Edges.{same_side, are_same}
use Rattle.cpl_mosaic.proofs.Elements.{no_element}
use Rattle.cpl_mosaic.proofs.Spans.{count_pairs, count_joins, pair_at, first_at, second_at}
use Rattle.cpl_made_grid.specs.Shapes.{whole_edge, edges_joined}

-- SIDES ALONG EDGES

own_direction : (a : Side) → is_same_direction a a ≡ true
own_direction W = refl
own_direction E = refl
own_direction S = refl
own_direction N = refl

edge_tile : (tiles : List Tile) (t : ℕ) (s : Side) (k : ℕ) → (edge_side tiles t s k).0.tile ≡ t
edge_tile tiles t W k = refl
edge_tile tiles t E k = refl
edge_tile tiles t S k = refl
edge_tile tiles t N k = refl

edge_direction : (tiles : List Tile) (t : ℕ) (s : Side) (k : ℕ) → (edge_side tiles t s k).1 ≡ s
edge_direction tiles t W k = refl
edge_direction tiles t E k = refl
edge_direction tiles t S k = refl
edge_direction tiles t N k = refl

-- the place of a side along its edge
abbrev place_along : Side → CellSide → ℕ
place_along W a = a.0.j
place_along E a = a.0.j
place_along S a = a.0.i
place_along N a = a.0.i

edge_place : (tiles : List Tile) (t : ℕ) (s : Side) (k : ℕ) → place_along s (edge_side tiles t s k) ≡ k
edge_place tiles t W k = refl
edge_place tiles t E k = refl
edge_place tiles t S k = refl
edge_place tiles t N k = refl

same_place : (tiles : List Tile) (t : ℕ) (s : Side) (k m : ℕ) → edge_side tiles t s k ≡ edge_side tiles t s m → k ≡ m
same_place tiles t s k m e = sym (edge_place tiles t s k) ∙ ap (place_along s) e ∙ edge_place tiles t s m

-- ranges on two different edges
abbrev pub on_other_edges : Span → Span → Bool
on_other_edges a b = not ((a.tile == b.tile) && is_same_direction a.side b.side)

other_edges : (tiles : List Tile) (a b : Span) (k m : ℕ) → on_other_edges a b ≡ true → edge_side tiles a.tile a.side k ≡ edge_side tiles b.tile b.side m → ⊥
other_edges tiles a b k m apart e =
    let tile : a.tile ≡ b.tile = sym (edge_tile tiles a.tile a.side k) ∙ ap (λ (x : CellSide). x.0.tile) e ∙ edge_tile tiles b.tile b.side m in
    let side : a.side ≡ b.side = sym (edge_direction tiles a.tile a.side k) ∙ ap (λ (x : CellSide). x.1) e ∙ edge_direction tiles b.tile b.side m in
    let direction : is_same_direction a.side b.side ≡ true = subst (λ (s : Side). is_same_direction a.side s ≡ true) side (own_direction a.side) in
    both_ways ((a.tile == b.tile) && is_same_direction a.side b.side) (not-true ((a.tile == b.tile) && is_same_direction a.side b.side) apart)
    (and_from (a.tile == b.tile) (is_same_direction a.side b.side) (eq-eqb a.tile b.tile tile) direction)

-- ELEMENTS

-- a test that no element passes
none_of : {X : Type 0} (p : X → Bool) (xs : List X) → ((x : X) → Contains xs x → p x ≡ true → ⊥) → list_any p xs ≡ false
none_of p xs none = list_any_none p xs (λ k d below. false_from_ne_true (p (get_or xs k d)) (none (get_or xs k d) (k, below, get_or_default xs k (get_or xs k d) d below)))

-- THE SIDES THAT A CONTACT JOINS

-- a pair of a contact, or one seen from its second side
abbrev JoinAt : List Tile → Contact → CellSide × CellSide → Type 0
JoinAt tiles c p = (k : ℕ) × (k < span_length c.first) × ((p ≡ joined_pair tiles c k) ⊎ (p ≡ swapped (joined_pair tiles c k)))

join_at : (tiles : List Tile) (c : Contact) (p : CellSide × CellSide) → Contains (joins_of tiles c) p → JoinAt tiles c p
join_at tiles c p (k, below, is) =
    let n = count_joins tiles c in
    elim (cases_lt k (span_length c.first)) [
      | inl first ↦ (k, first, inl (sym is ∙ first_at tiles c k p first))
      | inr second ↦ (k - span_length c.first, omega arith, inr (sym is ∙ second_at tiles c k p second (omega arith)))
    ]

-- a side on the edge of a range
abbrev OnEdge : List Tile → Span → CellSide → Type 0
OnEdge tiles span a = (k : ℕ) × (a ≡ edge_side tiles span.tile span.side k)

join_on : (tiles : List Tile) (c : Contact) (p : CellSide × CellSide) → JoinAt tiles c p → OnEdge tiles c.first p.0 ⊎ OnEdge tiles c.second p.0
join_on tiles c p (k, below, inl e) = inl (c.first.lo + k, ap (λ (q : CellSide × CellSide). q.0) e)
join_on tiles c p (k, below, inr e) = inr (cond c.flip (c.second.hi - k) (c.second.lo + k), ap (λ (q : CellSide × CellSide). q.0) e)

-- CONTACTS OF DIFFERENT EDGES

abbrev pub apart_from : Span → Contact → Bool
apart_from span d = on_other_edges span d.first && on_other_edges span d.second

abbrev pub are_apart : Contact → Contact → Bool
are_apart c d = apart_from c.first d && apart_from c.second d

off_edges : (tiles : List Tile) (span : Span) (d : Contact) (a b : CellSide) → apart_from span d ≡ true → OnEdge tiles span a → OnEdge tiles d.first b ⊎ OnEdge tiles d.second b → a ≡ b → ⊥
off_edges tiles span d a b apart (k, on) (inl (m, is)) e = other_edges tiles span d.first k m (and_parts (on_other_edges span d.first) (on_other_edges span d.second) apart).0 (sym on ∙ e ∙ is)
off_edges tiles span d a b apart (k, on) (inr (m, is)) e = other_edges tiles span d.second k m (and_parts (on_other_edges span d.first) (on_other_edges span d.second) apart).1 (sym on ∙ e ∙ is)

no_common : (tiles : List Tile) (c d : Contact) (a b : CellSide) → are_apart c d ≡ true → OnEdge tiles c.first a ⊎ OnEdge tiles c.second a → OnEdge tiles d.first b ⊎ OnEdge tiles d.second b → a ≡ b → ⊥
no_common tiles c d a b apart (inl on) other e = off_edges tiles c.first d a b (and_parts (apart_from c.first d) (apart_from c.second d) apart).0 on other e
no_common tiles c d a b apart (inr on) other e = off_edges tiles c.second d a b (and_parts (apart_from c.first d) (apart_from c.second d) apart).1 on other e

abbrev pub apart_of_all : Contact → List Contact → Bool
apart_of_all c [] = true
apart_of_all c (d ∷ ds) = are_apart c d && apart_of_all c ds

abbrev pub each_apart : List Contact → List Contact → Bool
each_apart earlier [] = true
each_apart earlier (c ∷ cs) = apart_of_all c earlier && each_apart (earlier ++ c ∷ []) cs

no_earlier : (tiles : List Tile) (c : Contact) (ds : List Contact) (p q : CellSide × CellSide) → apart_of_all c ds ≡ true → JoinAt tiles c p → Contains (all_joins tiles ds) q → p.0 ≡ q.0 → ⊥
no_earlier tiles c [] p q apart at q_in e = no_element q q_in
no_earlier tiles c (d ∷ ds) p q apart at q_in e =
    let parts = and_parts (are_apart c d) (apart_of_all c ds) apart in
    elim (Contains-append_cases (joins_of tiles d) (all_joins tiles ds) q q_in) [
      | inl own ↦ no_common tiles c d p.0 q.0 parts.0 (join_on tiles c p at) (join_on tiles d q (join_at tiles d q own)) e
      | inr others ↦ no_earlier tiles c ds p q parts.1 at others e
    ]

-- GOOD CONTACTS

-- a contact in range joins each side to one other
pub record IsGood (tiles : List Tile) (c : Contact) : Type 0 where
  pub range : is_in_range tiles c ≡ true
  pub once : (p q : CellSide × CellSide) → JoinAt tiles c p → JoinAt tiles c q → p.0 ≡ q.0 → p.1 ≡ q.1
  pub other : (k : ℕ) → k < span_length c.first → (joined_pair tiles c k).0 ≡ (joined_pair tiles c k).1 → ⊥

good_once : (tiles : List Tile) (earlier : List Contact) (c : Contact) → IsGood tiles c → apart_of_all c earlier ≡ true → joins_twice tiles earlier c ≡ false
good_once tiles earlier c good apart =
    or_from _ _
    (none_of (λ p. list_any (share_side p) (all_joins tiles earlier)) (joins_of tiles c) (λ p p_in any.
    both_ways (list_any (share_side p) (all_joins tiles earlier))
    (none_of (share_side p) (all_joins tiles earlier) (λ q q_in same. no_earlier tiles c earlier p q apart (join_at tiles c p p_in) q_in (same_side p.0 q.0 same))) any))
    (none_of (λ p. list_any (disagree p) (joins_of tiles c)) (joins_of tiles c) (λ p p_in any.
    both_ways (list_any (disagree p) (joins_of tiles c))
    (none_of (disagree p) (joins_of tiles c) (λ q q_in wrong.
    let parts = and_parts (is_same_side p.0 q.0) (not (is_same_side p.1 q.1)) wrong in
    let to = good.once p q (join_at tiles c p p_in) (join_at tiles c q q_in) (same_side p.0 q.0 parts.0) in
    both_ways (is_same_side p.1 q.1) (not-true (is_same_side p.1 q.1) parts.1) (are_same p.1 q.1 to))) any))

good_apart : (tiles : List Tile) (c : Contact) → IsGood tiles c → meets_itself tiles c ≡ false
good_apart tiles c good = none_of (λ p. is_same_side p.0 p.1) (pairs_of tiles c) (λ p (k, below, is) same.
    let n = count_pairs tiles c in
    let within : k < span_length c.first = omega arith in
    let at : p ≡ joined_pair tiles c k = sym is ∙ pair_at tiles c k p within in
    good.other k within (sym (ap (λ (q : CellSide × CellSide). q.0) at) ∙ same_side p.0 p.1 same ∙ ap (λ (q : CellSide × CellSide). q.1) at))

-- what holds of each contact, with those before it
abbrev EachAfter : (List Contact → Contact → Type 0) → List Contact → List Contact → Type 0
EachAfter P earlier [] = Unit {0}
EachAfter P earlier (c ∷ cs) = P earlier c × EachAfter P (earlier ++ c ∷ []) cs

none_refused : (refuses : List Contact → Contact → Bool) (P : List Contact → Contact → Type 0) → ((earlier : List Contact) (c : Contact) → P earlier c → refuses earlier c ≡ false)
    → (earlier contacts : List Contact) → EachAfter P earlier contacts → first_refused refuses earlier contacts ≡ None
none_refused refuses P passes earlier [] each = refl
none_refused refuses P passes earlier (c ∷ cs) each =
    cond-false (refuses earlier c) (Some (length earlier)) (first_refused refuses (earlier ++ c ∷ []) cs) (passes earlier c each.0)
    ∙ none_refused refuses P passes (earlier ++ c ∷ []) cs each.1

abbrev IsGoodAfter : List Tile → List Contact → Contact → Type 0
IsGoodAfter tiles earlier c = IsGood tiles c × (apart_of_all c earlier ≡ true)

good_after : (tiles : List Tile) (earlier contacts : List Contact) → AllByRecursion (IsGood tiles) contacts → each_apart earlier contacts ≡ true → EachAfter (IsGoodAfter tiles) earlier contacts
good_after tiles earlier [] good apart = tt
good_after tiles earlier (c ∷ cs) good apart =
    let parts = and_parts (apart_of_all c earlier) (each_apart (earlier ++ c ∷ []) cs) apart in
    ((good.0, parts.0), good_after tiles (earlier ++ c ∷ []) cs good.1 parts.1)

-- good contacts of different edges keep the rules
pub good_contacts : (tiles : List Tile) (contacts : List Contact) → AllByRecursion (IsGood tiles) contacts → each_apart [] contacts ≡ true → contact_fault tiles contacts ≡ None
good_contacts tiles contacts good apart =
    let each = good_after tiles [] contacts good apart in
    let range : range_fault tiles contacts ≡ None = ap (as_fault ContactRange) (none_refused (λ earlier contact. not (is_in_range tiles contact)) (IsGoodAfter tiles) (λ earlier c h. ap not h.0.range) [] contacts each) in
    let twice : twice_fault tiles contacts ≡ None = ap (as_fault ContactTwice) (none_refused (joins_twice tiles) (IsGoodAfter tiles) (λ earlier c h. good_once tiles earlier c h.0 h.1) [] contacts each) in
    let self : self_meeting_fault tiles contacts ≡ None = ap (as_fault SelfMeet) (none_refused (λ earlier contact. meets_itself tiles contact) (IsGoodAfter tiles) (λ earlier c h. good_apart tiles c h.0) [] contacts each) in
    λ i. or_else (range i) (or_else (twice i) (self i))

-- WHOLE EDGES

-- an edge of this many sides
record IsEdge (tiles : List Tile) (t : ℕ) (s : Side) (n : ℕ) : Type 0 where
  some : 1 ≤ n
  sides : edge_length (tile_at tiles t) s ≡ n

inside : (tiles : List Tile) (t : ℕ) (s : Side) (n : ℕ) → IsEdge tiles t s n → (leb 0 (n - 1) && ltb (n - 1) (edge_length (tile_at tiles t) s)) ≡ true
inside tiles t s n is =
    let some = is.some in
    let sides = is.sides in
    and_from (leb 0 (n - 1)) (ltb (n - 1) (edge_length (tile_at tiles t) s)) (le-leb 0 (n - 1) (omega arith)) (lt-ltb (n - 1) (edge_length (tile_at tiles t) s) (omega arith))

whole_range : (tiles : List Tile) (n t : ℕ) (s : Side) (u : ℕ) (r : Side) (flip : Bool) → IsEdge tiles t s n → IsEdge tiles u r n → is_in_range tiles (edges_joined n t s u r flip) ≡ true
whole_range tiles n t s u r flip first second =
    and_from _ _ (and_from _ _ (inside tiles t s n first) (inside tiles u r n second)) (eq-eqb (n - 1 - 0 + 1) (n - 1 - 0 + 1) refl)

-- the place on the second edge
abbrev across : ℕ → Bool → ℕ → ℕ
across n flip k = cond flip (n - 1 - k) (0 + k)

across_once : (n : ℕ) (flip : Bool) (k m : ℕ) → k < n - 1 - 0 + 1 → m < n - 1 - 0 + 1 → across n flip k ≡ across n flip m → k ≡ m
across_once n true k m k_in m_in e = omega arith
across_once n false k m k_in m_in e = omega arith

module _ (tiles : List Tile) (n t : ℕ) (s : Side) (u : ℕ) (r : Side) (flip : Bool) where
  abbrev here : ℕ → CellSide
  here k = edge_side tiles t s (0 + k)

  abbrev there : ℕ → CellSide
  there k = edge_side tiles u r (across n flip k)

  abbrev c : Contact
  c = edges_joined n t s u r flip

  here_there : (k m : ℕ) → on_other_edges c.first c.second ≡ true → here k ≡ there m → ⊥
  here_there k m apart e = other_edges tiles c.first c.second (0 + k) (across n flip m) apart e

  abbrev firsts : CellSide × CellSide → CellSide
  firsts p = p.0

  abbrev seconds : CellSide × CellSide → CellSide
  seconds p = p.1

  whole_once : (p q : CellSide × CellSide) → on_other_edges c.first c.second ≡ true → JoinAt tiles c p → JoinAt tiles c q → p.0 ≡ q.0 → p.1 ≡ q.1
  whole_once p q apart (k, k_in, inl p_is) (m, m_in, inl q_is) e =
      let same : 0 + k ≡ 0 + m = same_place tiles t s (0 + k) (0 + m) (sym (ap firsts p_is) ∙ e ∙ ap firsts q_is) in
      let at : k ≡ m = omega arith in
      ap seconds p_is ∙ ap there at ∙ sym (ap seconds q_is)
  whole_once p q apart (k, k_in, inl p_is) (m, m_in, inr q_is) e = absurd (here_there k m apart (sym (ap firsts p_is) ∙ e ∙ ap firsts q_is))
  whole_once p q apart (k, k_in, inr p_is) (m, m_in, inl q_is) e = absurd (here_there m k apart (sym (ap firsts q_is) ∙ sym e ∙ ap firsts p_is))
  whole_once p q apart (k, k_in, inr p_is) (m, m_in, inr q_is) e =
      let same = same_place tiles u r (across n flip k) (across n flip m) (sym (ap firsts p_is) ∙ e ∙ ap firsts q_is) in
      let at : k ≡ m = across_once n flip k m k_in m_in same in
      ap seconds p_is ∙ ap here at ∙ sym (ap seconds q_is)

-- two different edges, joined whole
pub good_edges : (tiles : List Tile) (n t : ℕ) (s : Side) (u : ℕ) (r : Side) (flip : Bool) → 1 ≤ n → edge_length (tile_at tiles t) s ≡ n → edge_length (tile_at tiles u) r ≡ n → on_other_edges (whole_edge t s n) (whole_edge u r n) ≡ true
    → IsGood tiles (edges_joined n t s u r flip)
good_edges tiles n t s u r flip some first second apart = record {
  range = whole_range tiles n t s u r flip (record { some = some; sides = first }) (record { some = some; sides = second });
  once = λ p q p_at q_at e. whole_once tiles n t s u r flip p q apart p_at q_at e;
  other = λ k within e. here_there tiles n t s u r flip k k apart e;
}

-- an edge of an even number of sides, folded: its k-th side meets the k-th from its end
module _ (tiles : List Tile) (n t : ℕ) (s : Side) where
  abbrev side : ℕ → CellSide
  side k = edge_side tiles t s k

  abbrev fold : Contact
  fold = edges_joined n t s t s true

  abbrev first_of : CellSide × CellSide → CellSide
  first_of p = p.0

  abbrev second_of : CellSide × CellSide → CellSide
  second_of p = p.1

  -- both sides of a pair, by their places
  record IsPair (p : CellSide × CellSide) : Type 0 where
    from : ℕ
    to : ℕ
    first : p.0 ≡ side from
    second : p.1 ≡ side to
    sum : from + to + 1 ≡ n

  pair_is : (p : CellSide × CellSide) → 1 ≤ n → JoinAt tiles fold p → IsPair p
  pair_is p some (k, k_in, inl is) = record { from = 0 + k; to = n - 1 - k; first = ap first_of is; second = ap second_of is; sum = omega arith }
  pair_is p some (k, k_in, inr is) = record { from = n - 1 - k; to = 0 + k; first = ap first_of is; second = ap second_of is; sum = omega arith }

  fold_once : (p q : CellSide × CellSide) → IsPair p → IsPair q → p.0 ≡ q.0 → p.1 ≡ q.1
  fold_once p q a b e =
      let same : a.from ≡ b.from = same_place tiles t s a.from b.from (sym a.first ∙ e ∙ b.first) in
      let sums = a.sum in
      let others = b.sum in
      let to : a.to ≡ b.to = omega arith in
      a.second ∙ ap side to ∙ sym b.second

pub good_fold : (tiles : List Tile) (n half t : ℕ) (s : Side) → 1 ≤ n → n ≡ 2 * half → edge_length (tile_at tiles t) s ≡ n → IsGood tiles (edges_joined n t s t s true)
good_fold tiles n half t s some even sides = record {
  range = let is : IsEdge tiles t s n = record { some = some; sides = sides } in whole_range tiles n t s t s true is is;
  once = λ p q p_at q_at e. fold_once tiles n t s p q (pair_is tiles n t s p some p_at) (pair_is tiles n t s q some q_at) e;
  other = λ k within e. let same : 0 + k ≡ n - 1 - k = same_place tiles t s (0 + k) (n - 1 - k) e in absurd (omega arith);
}
