-- Whether a contact joins a side twice, read off the table of the contacts before it.
use Rattle.std.proofs.Common.{◌≡◌, refl, sym, ◌∙◌, ap, subst, Bool, true, false, not, ◌||◌, ℕ, ◌+◌, ◌<◌, ◌≤◌, List, [], ◌∷◌, ◌++◌, length, get_or, take, Option, Some, None, inl, inr}
use Rattle.std.specs.Prelude.{All, Contains, MatchOption}
use Rattle.std.specs.List.{list_any}
use Rattle.std.specs.Option.{is_some}
use Rattle.std.proofs.lemmas.Bool.{both_ways, and_from, or_left, or_right, or_from, not_from_false, false_from_ne_true, and_parts, not-true}
use Rattle.std.proofs.lemmas.List.{append-nil, take_more, take_all, get_or_default}
use Rattle.std.proofs.lemmas.List.Concat.{flat_map-append}
use Rattle.std.proofs.lemmas.List.Elements.{Contains-append_cases, Contains-append_right}
use Rattle.std.proofs.lemmas.List.Folds.{list_any_none, list_any-from_Any}
use Rattle.cpl_mosaic.specs.declared.parts.Tile.{Tile}
use Rattle.cpl_mosaic.specs.declared.parts.Contact.{Contact}
use Rattle.cpl_mosaic.specs.Sides.{CellSide, is_same_side}
use Rattle.cpl_mosaic.specs.Contacts.{IsTile, is_in_range, share_side, disagree, joins_of, all_joins, joins_twice, first_refused}
use Rattle.cpl_mosaic.specs.Table.{IsTable, is_taken, with_joins}
use Rattle.cpl_mosaic.proofs.Elements.{Contains-first, Contains-rest, none_passes}
use Rattle.cpl_mosaic.proofs.Edges.{same_side, are_same}
use Rattle.cpl_mosaic.proofs.Tables.{Pair, Entries, Agree, OnEdges, Clash, Clashes, AllFit, shared, all_joined, none_agree, not_same}
use Rattle.cpl_mosaic.proofs.Spans.{join_edges}
use Rattle.cpl_mosaic.proofs.Refusals.{PassedTo, passed_more, refused_at, passed_all}

-- tests that agree on each element
list_any_same : {X : Type 0} (p q : X → Bool) (xs : List X) → ((x : X) → Contains xs x → p x ≡ q x) → list_any p xs ≡ list_any q xs
list_any_same p q [] same = refl
list_any_same p q (x ∷ xs) same =
    let first = same x (Contains-first x xs) in
    let rest = list_any_same p q xs (λ y is. same y (Contains-rest x xs y is)) in
    ap (λ (b : Bool). b || list_any p xs) first ∙ ap (λ (b : Bool). q x || b) rest

-- a test that no element passes, and one that one does
none_of : {X : Type 0} (p : X → Bool) (xs : List X) → ((x : X) → Contains xs x → p x ≡ false) → list_any p xs ≡ false
none_of p xs none = list_any_none p xs (λ k d below. none (get_or xs k d) (k, below, get_or_default xs k (get_or xs k d) d below))

one_of : {X : Type 0} (p : X → Bool) (xs : List X) (x : X) → Contains xs x → p x ≡ true → list_any p xs ≡ true
one_of p xs x is passes = list_any-from_Any p xs (is.0, x, is.1, is.2, passes)

-- the table's test of a contact is the test against the contacts before it
taken_is : (tiles : List Tile) (joins more : List Pair) (table : Entries) → OnEdges tiles more → IsTable tiles joins table → list_any (is_taken tiles table) more ≡ list_any (λ p. list_any (share_side p) joins) more
taken_is tiles joins more table edges is = list_any_same (is_taken tiles table) (λ p. list_any (share_side p) joins) more (λ p p_in. ap is_some (is.each p.0 (edges p p_in)) ∙ sym (shared joins p))

-- pairs that clash disagree
clash_disagrees : (p q : Pair) → Clash p q → disagree p q ≡ true
clash_disagrees p q clash = and_from (is_same_side p.0 q.0) (not (is_same_side p.1 q.1)) (are_same p.0 q.0 clash.from) (not_from_false (is_same_side p.1 q.1) (not_same p.1 q.1 clash.to))

-- where all pairs agree with the table, none disagree
agree_once : (joins more : List Pair) → Agree (joins ++ more) → list_any (λ p. list_any (disagree p) more) more ≡ false
agree_once joins more agree = none_of (λ p. list_any (disagree p) more) more (λ p p_in. none_of (disagree p) more (λ q q_in. false_from_ne_true (disagree p q) (λ e.
    let parts = and_parts (is_same_side p.0 q.0) (not (is_same_side p.1 q.1)) e in
    let from = same_side p.0 q.0 parts.0 in
    let one = agree p (Contains-append_right joins more p p_in) in
    let other = agree q (Contains-append_right joins more q q_in) in
    let to : p.1 ≡ q.1 = cc in
    both_ways (is_same_side p.1 q.1) (not-true (is_same_side p.1 q.1) parts.1) (are_same p.1 q.1 to))))

-- where a clash is with an earlier contact, a side is shared
clash_shares : (joins more : List Pair) (p q : Pair) → list_any (λ r. list_any (share_side r) joins) more ≡ false → Contains joins p → Contains more q → Clash p q → ⊥
clash_shares joins more p q free p_in q_in clash =
    let none = none_passes (λ r. list_any (share_side r) joins) more q free q_in in
    both_ways (is_same_side q.0 p.0) (none_passes (share_side q) joins p none p_in) (are_same q.0 p.0 (sym clash.from))

clash_twice : (joins more : List Pair) → list_any (λ r. list_any (share_side r) joins) more ≡ false → Clashes (joins ++ more) more → list_any (λ p. list_any (disagree p) more) more ≡ true
clash_twice joins more free (p, q, p_in, q_in, clash) = elim (Contains-append_cases joins more p p_in) [
  | inl earlier ↦ absurd (clash_shares joins more p q free earlier q_in clash)
  | inr own ↦ one_of (λ r. list_any (disagree r) more) more p own (one_of (disagree p) more q q_in (clash_disagrees p q clash))
]

-- the contacts before the n-th stand in the table, and the rule passes them
pub record Joined (tiles : List Tile) (contacts : List Contact) (n : ℕ) (table : List (Option CellSide)) : Type 0 where
  pub holds : IsTable tiles (all_joins tiles (take n contacts)) table
  pub agree : Agree (all_joins tiles (take n contacts))
  pub passed : PassedTo (joins_twice tiles) contacts n

-- the n-th contact, with the sides that it joins along edges
pub record IsNext (tiles : List Tile) (contacts : List Contact) (n : ℕ) (contact : Contact) : Type 0 where
  pub below : n < length contacts
  pub is : contact ≡ get_or contacts n contact
  pub edges : OnEdges tiles (joins_of tiles contact)

pub next_at : (tiles : List Tile) (contacts : List Contact) (n : ℕ) (d : Contact) → All IsTile tiles → All (λ contact. is_in_range tiles contact ≡ true) contacts → n < length contacts → IsNext tiles contacts n (get_or contacts n d)
next_at tiles contacts n d sizes ranges below = record {
  below = below;
  is = get_or_default contacts n d (get_or contacts n d) below;
  edges = join_edges tiles (get_or contacts n d) sizes (ranges n d below);
}

pub joined_none : (tiles : List Tile) (contacts : List Contact) (table : List (Option CellSide)) → IsTable tiles [] table → Joined tiles contacts 0 table
joined_none tiles contacts table is = record { holds = is; agree = none_agree; passed = refl }

one_more : (tiles : List Tile) (contacts : List Contact) (n : ℕ) (contact : Contact) → IsNext tiles contacts n contact → all_joins tiles (take (n + 1) contacts) ≡ all_joins tiles (take n contacts) ++ joins_of tiles contact
one_more tiles contacts n contact next =
    ap (all_joins tiles) (take_more contacts n contact next.below ∙ ap (λ (x : Contact). take n contacts ++ x ∷ []) (sym next.is))
    ∙ flat_map-append (joins_of tiles) (take n contacts) (contact ∷ [])
    ∙ ap (λ (l : List Pair). all_joins tiles (take n contacts) ++ l) (append-nil (joins_of tiles contact))

pub joined_taken : (tiles : List Tile) (contacts : List Contact) (n : ℕ) (contact : Contact) (table : List (Option CellSide)) → IsNext tiles contacts n contact → Joined tiles contacts n table → list_any (is_taken tiles table) (joins_of tiles contact) ≡ true → Some n ≡ first_refused (joins_twice tiles) [] contacts
joined_taken tiles contacts n contact table next so_far taken =
    let shares = sym (taken_is tiles (all_joins tiles (take n contacts)) (joins_of tiles contact) table next.edges so_far.holds) ∙ taken in
    refused_at (joins_twice tiles) contacts n contact next.below next.is so_far.passed (or_left _ _ shares)

free : (tiles : List Tile) (contacts : List Contact) (n : ℕ) (contact : Contact) (table : List (Option CellSide)) → IsNext tiles contacts n contact → Joined tiles contacts n table → list_any (is_taken tiles table) (joins_of tiles contact) ≡ false → list_any (λ p. list_any (share_side p) (all_joins tiles (take n contacts))) (joins_of tiles contact) ≡ false
free tiles contacts n contact table next so_far untaken = sym (taken_is tiles (all_joins tiles (take n contacts)) (joins_of tiles contact) table next.edges so_far.holds) ∙ untaken

outcome : (tiles : List Tile) (contacts : List Contact) (n : ℕ) (contact : Contact) (table : List (Option CellSide)) → IsNext tiles contacts n contact → Joined tiles contacts n table → MatchOption (with_joins tiles (joins_of tiles contact) table) (Clashes (all_joins tiles (take n contacts) ++ joins_of tiles contact) (joins_of tiles contact)) (AllFit tiles (all_joins tiles (take n contacts)) (joins_of tiles contact))
outcome tiles contacts n contact table next so_far = all_joined tiles (all_joins tiles (take n contacts)) (joins_of tiles contact) table next.edges so_far.holds so_far.agree

pub joined_clash : (tiles : List Tile) (contacts : List Contact) (n : ℕ) (contact : Contact) (table : List (Option CellSide)) → IsNext tiles contacts n contact → Joined tiles contacts n table → list_any (is_taken tiles table) (joins_of tiles contact) ≡ false → with_joins tiles (joins_of tiles contact) table ≡ None → Some n ≡ first_refused (joins_twice tiles) [] contacts
joined_clash tiles contacts n contact table next so_far untaken none =
    let earlier = all_joins tiles (take n contacts) in
    let own = joins_of tiles contact in
    let clashes : Clashes (all_joins tiles (take n contacts) ++ joins_of tiles contact) (joins_of tiles contact) = subst (λ (o : Option Entries). MatchOption o (Clashes (all_joins tiles (take n contacts) ++ joins_of tiles contact) (joins_of tiles contact)) (AllFit tiles (all_joins tiles (take n contacts)) (joins_of tiles contact))) none (outcome tiles contacts n contact table next so_far) in
    refused_at (joins_twice tiles) contacts n contact next.below next.is so_far.passed (or_right _ _ (clash_twice (all_joins tiles (take n contacts)) (joins_of tiles contact) (free tiles contacts n contact table next so_far untaken) clashes))

pub joined_more : (tiles : List Tile) (contacts : List Contact) (n : ℕ) (contact : Contact) (table after : List (Option CellSide)) → IsNext tiles contacts n contact → Joined tiles contacts n table → list_any (is_taken tiles table) (joins_of tiles contact) ≡ false → with_joins tiles (joins_of tiles contact) table ≡ Some after → Joined tiles contacts (n + 1) after
joined_more tiles contacts n contact table after next so_far untaken some =
    let fits : AllFit tiles (all_joins tiles (take n contacts)) (joins_of tiles contact) after = subst (λ (o : Option Entries). MatchOption o (Clashes (all_joins tiles (take n contacts) ++ joins_of tiles contact) (joins_of tiles contact)) (AllFit tiles (all_joins tiles (take n contacts)) (joins_of tiles contact))) some (outcome tiles contacts n contact table next so_far) in
    let same = sym (one_more tiles contacts n contact next) in
    let once = or_from _ _ (free tiles contacts n contact table next so_far untaken) (agree_once (all_joins tiles (take n contacts)) (joins_of tiles contact) fits.1) in
    record {
      holds = subst (λ (l : List Pair). IsTable tiles l after) same fits.0;
      agree = subst Agree same fits.1;
      passed = passed_more (joins_twice tiles) contacts n contact next.below next.is so_far.passed once;
    }

pub joined_all : (tiles : List Tile) (contacts : List Contact) (n : ℕ) (table : List (Option CellSide)) → length contacts ≤ n → Joined tiles contacts n table → (None ≡ first_refused (joins_twice tiles) [] contacts) × IsTable tiles (all_joins tiles contacts) table
joined_all tiles contacts n table past so_far = (
  passed_all (joins_twice tiles) contacts n past so_far.passed,
  subst (λ (l : List Contact). IsTable tiles (all_joins tiles l) table) (take_all n contacts past) so_far.holds,
)
