-- The table of joins: what stands in it after more of them.
use Rattle.std.proofs.Common.{◌≡◌, refl, sym, ◌∙◌, ap, subst, Bool, true, false, ◌||◌, cond, ℕ, ◌+◌, ◌<◌, arith, List, [], ◌∷◌, ◌++◌, length, get_or, set, drop, replicate, Option, Some, None, inl, inr, ◌⊎◌}
use Rattle.std.specs.Prelude.{◌≢◌, Contains, MatchOption, option_and_then}
use Rattle.std.specs.List.{list_any, find}
use Rattle.std.specs.Option.{option_map, option_or, is_some}
use Rattle.std.proofs.lemmas.Bool.{cases_Bool, both_ways, cond-true, cond-false, false_from_ne_true, cases_eq}
use Rattle.std.proofs.lemmas.List.{get_or-set_same, get_or-set_other, length-set, append-nil, append_assoc, drop_more, get_or-replicate, length-replicate}
use Rattle.std.proofs.lemmas.List.Elements.{Contains-append_cases, Contains-append_left}
use Rattle.cpl_mosaic.specs.declared.parts.Tile.{Tile}
use Rattle.cpl_mosaic.specs.Sides.{CellSide, is_same_side, IsEdgeSide}
use Rattle.cpl_mosaic.specs.Contacts.{share_side}
use Rattle.cpl_mosaic.specs.Table.{sides_of, place_of, joined_to, IsTable, put, with_join, with_joins}
use Rattle.cpl_mosaic.proofs.Elements.{Contains-cases, Contains-first, Contains-rest, no_element}
use Rattle.cpl_mosaic.proofs.Edges.{same_side, are_same}
use Rattle.cpl_mosaic.proofs.Places.{same_place, place_below}

abbrev pub Pair : Type 0
Pair = CellSide × CellSide

abbrev pub Entries : Type 0
Entries = List (Option CellSide)

-- a value of an option, or none
pub cases_option : {A : Type 0} (o : Option A) → (o ≡ None) ⊎ ((x : A) × (o ≡ Some x))
cases_option None = inl refl
cases_option (Some x) = inr (x, refl)

pub not_same : (a b : CellSide) → a ≢ b → is_same_side a b ≡ false
not_same a b apart = false_from_ne_true (is_same_side a b) (λ e. apart (same_side a b e))

-- what pairs join to a side, with one more pair
joined_push : (joins : List Pair) (pair : Pair) (a : CellSide) → joined_to (joins ++ pair ∷ []) a ≡ option_or (joined_to joins a) (joined_to (pair ∷ []) a)
joined_push [] pair a = refl
joined_push (first ∷ joins) pair a =
    let f : Pair → CellSide = λ p. p.1 in
    let test : Pair → Bool = λ p. is_same_side a p.0 in
    elim (is_same_side a first.0) as (λ b. option_map f (cond b (Some first) (find test (joins ++ pair ∷ []))) ≡ option_or (option_map f (cond b (Some first) (find test joins))) (joined_to (pair ∷ []) a)) [
      | true ↦ refl
      | false ↦ joined_push joins pair a
    ]

joined_own : (pair : Pair) (a : CellSide) → a ≡ pair.0 → joined_to (pair ∷ []) a ≡ Some pair.1
joined_own pair a e = ap (option_map (λ (p : Pair). p.1)) (cond-true (is_same_side a pair.0) (Some pair) None (are_same a pair.0 e))

joined_other : (pair : Pair) (a : CellSide) → a ≢ pair.0 → joined_to (pair ∷ []) a ≡ None
joined_other pair a apart = ap (option_map (λ (p : Pair). p.1)) (cond-false (is_same_side a pair.0) (Some pair) None (not_same a pair.0 apart))

-- a side that has a partner keeps it
joined_kept : (joins : List Pair) (pair : Pair) (a b : CellSide) → joined_to joins a ≡ Some b → joined_to (joins ++ pair ∷ []) a ≡ Some b
joined_kept joins pair a b e = joined_push joins pair a ∙ ap (λ (o : Option CellSide). option_or o (joined_to (pair ∷ []) a)) e

-- a side that has none gets the pair's
joined_new : (joins : List Pair) (pair : Pair) (a : CellSide) → joined_to joins a ≡ None → joined_to (joins ++ pair ∷ []) a ≡ joined_to (pair ∷ []) a
joined_new joins pair a e = joined_push joins pair a ∙ ap (λ (o : Option CellSide). option_or o (joined_to (pair ∷ []) a)) e

-- a partner stands in one of the pairs
joined_found : (joins : List Pair) (a b : CellSide) → joined_to joins a ≡ Some b → Contains joins (a, b)
joined_found [] a b e = absurd (cc)
joined_found (first ∷ joins) a b e = elim (cases_Bool (is_same_side a first.0)) [
  | inl same ↦
      let here : joined_to (first ∷ joins) a ≡ Some first.1 = ap (option_map (λ (p : Pair). p.1)) (cond-true (is_same_side a first.0) (Some first) (find (λ (p : Pair). is_same_side a p.0) joins) same) in
      let side : first.1 ≡ b = cc in
      let from : a ≡ first.0 = same_side a first.0 same in
      let is : first ≡ (a, b) = λ s. (sym from s, side s) in
      subst (λ (p : Pair). Contains (first ∷ joins) p) is (Contains-first first joins)
  | inr apart ↦
      let later : joined_to (first ∷ joins) a ≡ joined_to joins a = ap (option_map (λ (p : Pair). p.1)) (cond-false (is_same_side a first.0) (Some first) (find (λ (p : Pair). is_same_side a p.0) joins) apart) in
      Contains-rest first joins (a, b) (joined_found joins a b (sym later ∙ e))
]

-- a test of what a side shares is whether it has a partner
pub shared : (joins : List Pair) (pair : Pair) → list_any (share_side pair) joins ≡ is_some (joined_to joins pair.0)
shared [] pair = refl
shared (first ∷ joins) pair =
    let f : Pair → CellSide = λ p. p.1 in
    let test : Pair → Bool = λ p. is_same_side pair.0 p.0 in
    elim (is_same_side pair.0 first.0) as (λ b. (b || list_any (share_side pair) joins) ≡ is_some (option_map f (cond b (Some first) (find test joins)))) [
      | true ↦ refl
      | false ↦ shared joins pair
    ]

-- each pair says what its first side's partner is
abbrev pub Agree : List Pair → Type 0
Agree joins = (p : Pair) → Contains joins p → joined_to joins p.0 ≡ Some p.1

pub none_agree : Agree []
none_agree p is = absurd (no_element p is)

only : (pair p : Pair) → Contains (pair ∷ []) p → pair ≡ p
only pair p is = elim (Contains-cases pair [] p is) [ inl same ↦ same | inr rest ↦ absurd (no_element p rest) ]

agree_push : (joins : List Pair) (pair : Pair) → Agree joins → joined_to (joins ++ pair ∷ []) pair.0 ≡ Some pair.1 → Agree (joins ++ pair ∷ [])
agree_push joins pair agree own p is = elim (Contains-append_cases joins (pair ∷ []) p is) [
  | inl one ↦ joined_kept joins pair p.0 p.1 (agree p one)
  | inr last ↦ subst (λ (q : Pair). joined_to (joins ++ pair ∷ []) q.0 ≡ Some q.1) (only pair p last) own
]

-- a side beside the pair's keeps what it has
joined_beside : (joins : List Pair) (pair : Pair) (a : CellSide) → a ≢ pair.0 → joined_to (joins ++ pair ∷ []) a ≡ joined_to joins a
joined_beside joins pair a apart = elim (cases_option (joined_to joins a)) [
  | inl none ↦ joined_new joins pair a none ∙ joined_other pair a apart ∙ sym none
  | inr (b, some) ↦ joined_kept joins pair a b some ∙ sym some
]

-- the table after one more pair
abbrev Fits : List Tile → List Pair → Pair → Entries → Type 0
Fits tiles joins pair table = IsTable tiles (joins ++ pair ∷ []) table × Agree (joins ++ pair ∷ [])

-- a free place takes the pair
put_free : (tiles : List Tile) (joins : List Pair) (table : Entries) (pair : Pair) → IsEdgeSide tiles pair.0 → IsTable tiles joins table → Agree joins → joined_to joins pair.0 ≡ None → Fits tiles joins pair (set table (place_of tiles pair.0) (Some pair.1))
put_free tiles joins table pair edge is agree free =
    let at = place_of tiles pair.0 in
    let size : length table ≡ sides_of tiles = is.size in
    let below = place_below tiles pair.0 edge.cell in
    let within : place_of tiles pair.0 < length table = omega arith in (
      record {
        size = length-set table (place_of tiles pair.0) (Some pair.1) ∙ is.size;
        each = λ a a_edge. elim (cases_eq (place_of tiles a) (place_of tiles pair.0)) [
          | inl same ↦
              let one : a ≡ pair.0 = same_place tiles a pair.0 a_edge edge same in
              let there : get_or (set table (place_of tiles pair.0) (Some pair.1)) (place_of tiles a) None ≡ Some pair.1 =
              ap (λ (k : ℕ). get_or (set table (place_of tiles pair.0) (Some pair.1)) k None) same ∙ get_or-set_same table (place_of tiles pair.0) (Some pair.1) None within in
              let none : joined_to joins a ≡ None = ap (joined_to joins) one ∙ free in
              there ∙ sym (joined_new joins pair a none ∙ joined_own pair a one)
          | inr other ↦
              let apart : a ≢ pair.0 = λ e. other (ap (place_of tiles) e) in
              let kept = get_or-set_other table (place_of tiles pair.0) (place_of tiles a) (Some pair.1) None other in
              kept ∙ is.each a a_edge ∙ sym (joined_beside joins pair a apart)
        ];
      },
      agree_push joins pair agree (joined_new joins pair pair.0 free ∙ joined_own pair pair.0 refl),
    )

-- a place that has the pair's other side already stays
put_same : (tiles : List Tile) (joins : List Pair) (table : Entries) (pair : Pair) → IsTable tiles joins table → Agree joins → joined_to joins pair.0 ≡ Some pair.1 → Fits tiles joins pair table
put_same tiles joins table pair is agree own = (
  record {
    size = is.size;
    each = λ a a_edge. is.each a a_edge ∙ sym (elim (cases_option (joined_to joins a)) [
      | inl none ↦
          let apart : a ≢ pair.0 = λ e. let some = ap (joined_to joins) e in cc in
          joined_beside joins pair a apart
      | inr (b, some) ↦ joined_kept joins pair a b some ∙ sym some
    ]);
  },
  agree_push joins pair agree (joined_kept joins pair pair.0 pair.1 own),
)

-- two pairs that join one side to two
pub record Clash (p q : CellSide × CellSide) : Type 0 where
  pub from : p.0 ≡ q.0
  pub to : p.1 ≢ q.1

abbrev pub Clashes : List Pair → List Pair → Type 0
Clashes joins more = (p : Pair) × (q : Pair) × Contains joins p × Contains more q × Clash p q

taken_join : (tiles : List Tile) (joins : List Pair) (table : Entries) (pair : Pair) (b : CellSide) → IsTable tiles joins table → Agree joins → joined_to joins pair.0 ≡ Some b → MatchOption (cond (is_same_side b pair.1) (Some table) None) (Clashes joins (pair ∷ [])) (Fits tiles joins pair)
taken_join tiles joins table pair b is agree some = elim (cases_Bool (is_same_side b pair.1)) [
  | inl same ↦
      let e = cond-true (is_same_side b pair.1) (Some table) None same in
      let own : joined_to joins pair.0 ≡ Some pair.1 = some ∙ ap Some (same_side b pair.1 same) in
      subst (λ (o : Option Entries). MatchOption o (Clashes joins (pair ∷ [])) (Fits tiles joins pair)) (sym e) (put_same tiles joins table pair is agree own)
  | inr apart ↦
      let e = cond-false (is_same_side b pair.1) (Some table) None apart in
      let clash : Clash (pair.0, b) pair = record { from = refl; to = λ same. both_ways (is_same_side b pair.1) apart (are_same b pair.1 same) } in
      subst (λ (o : Option Entries). MatchOption o (Clashes joins (pair ∷ [])) (Fits tiles joins pair)) (sym e) ((pair.0, b), pair, joined_found joins pair.0 b some, Contains-first pair [], clash)
]

one_join : (tiles : List Tile) (joins : List Pair) (table : Entries) (pair : Pair) → IsEdgeSide tiles pair.0 → IsTable tiles joins table → Agree joins → MatchOption (with_join tiles table pair) (Clashes joins (pair ∷ [])) (Fits tiles joins pair)
one_join tiles joins table pair edge is agree =
    let entry = is.each pair.0 edge in
    elim (cases_option (joined_to joins pair.0)) [
      | inl free ↦
          let e : with_join tiles table pair ≡ Some (set table (place_of tiles pair.0) (Some pair.1)) = ap (put table (place_of tiles pair.0) pair.1) (entry ∙ free) in
          subst (λ (o : Option Entries). MatchOption o (Clashes joins (pair ∷ [])) (Fits tiles joins pair)) (sym e) (put_free tiles joins table pair edge is agree free)
      | inr (b, some) ↦
          let e : with_join tiles table pair ≡ cond (is_same_side b pair.1) (Some table) None = ap (put table (place_of tiles pair.0) pair.1) (entry ∙ some) in
          subst (λ (o : Option Entries). MatchOption o (Clashes joins (pair ∷ [])) (Fits tiles joins pair)) (sym e) (taken_join tiles joins table pair b is agree some)
    ]

-- the table after more pairs
abbrev pub AllFit : List Tile → List Pair → List Pair → Entries → Type 0
AllFit tiles joins more table = IsTable tiles (joins ++ more) table × Agree (joins ++ more)

abbrev pub OnEdges : List Tile → List (CellSide × CellSide) → Type 0
OnEdges tiles joins = (p : Pair) → Contains joins p → IsEdgeSide tiles p.0

wider : (tiles : List Tile) (front more joins : List Pair) (pair : Pair) (o : Option Entries) → front ++ more ≡ joins ++ (pair ∷ more) → MatchOption o (Clashes (front ++ more) more) (AllFit tiles front more) → MatchOption o (Clashes (joins ++ pair ∷ more) (pair ∷ more)) (AllFit tiles joins (pair ∷ more))
wider tiles front more joins pair None e clash = (clash.0, clash.1, subst (λ (l : List Pair). Contains l clash.0) e clash.2, Contains-rest pair more clash.1 clash.3, clash.4)
wider tiles front more joins pair (Some next) e fits = subst (λ (l : List Pair). IsTable tiles l next × Agree l) e fits

pub all_joined : (tiles : List Tile) (joins more : List Pair) (table : Entries) → OnEdges tiles more → IsTable tiles joins table → Agree joins → MatchOption (with_joins tiles more table) (Clashes (joins ++ more) more) (AllFit tiles joins more)
all_joined tiles joins [] table edges is agree = rw (append-nil joins) (is, agree)
all_joined tiles joins (pair ∷ more) table edges is agree =
    let one = one_join tiles joins table pair (edges pair (Contains-first pair more)) is agree in
    elim (cases_option (with_join tiles table pair)) [
      | inl none ↦
          let e : with_joins tiles (pair ∷ more) table ≡ None = ap (option_and_then (with_joins tiles more)) none in
          let clash : Clashes joins (pair ∷ []) = subst (λ (o : Option Entries). MatchOption o (Clashes joins (pair ∷ [])) (Fits tiles joins pair)) none one in
          let whole : Clashes (joins ++ pair ∷ more) (pair ∷ more) = (clash.0, clash.1, Contains-append_left joins (pair ∷ more) clash.0 clash.2, Contains-append_left (pair ∷ []) more clash.1 clash.3, clash.4) in
          subst (λ (o : Option Entries). MatchOption o (Clashes (joins ++ pair ∷ more) (pair ∷ more)) (AllFit tiles joins (pair ∷ more))) (sym e) whole
      | inr (next, some) ↦
          let e : with_joins tiles (pair ∷ more) table ≡ with_joins tiles more next = ap (option_and_then (with_joins tiles more)) some in
          let fits : Fits tiles joins pair next = subst (λ (o : Option Entries). MatchOption o (Clashes joins (pair ∷ [])) (Fits tiles joins pair)) some one in
          let rest = all_joined tiles (joins ++ pair ∷ []) more next (λ p p_in. edges p (Contains-rest pair more p p_in)) fits.0 fits.1 in
          let same : (joins ++ pair ∷ []) ++ more ≡ joins ++ (pair ∷ more) = append_assoc joins (pair ∷ []) more in
          subst (λ (o : Option Entries). MatchOption o (Clashes (joins ++ pair ∷ more) (pair ∷ more)) (AllFit tiles joins (pair ∷ more))) (sym e)
          (wider tiles (joins ++ pair ∷ []) more joins pair (with_joins tiles more next) same rest)
    ]

-- the table after the pairs from the m-th on, one pair further
joins_from : (tiles : List Tile) (joins : List Pair) (m : ℕ) (pair : Pair) (table : Entries) → m < length joins → get_or joins m pair ≡ pair → with_joins tiles (drop m joins) table ≡ option_and_then (with_joins tiles (drop (m + 1) joins)) (with_join tiles table pair)
joins_from tiles joins m pair table below is =
    ap (λ (l : List Pair). with_joins tiles l table) (drop_more joins m pair below ∙ ap (λ (p : Pair). p ∷ drop (m + 1) joins) is)

pub fit_more : (tiles : List Tile) (joins : List Pair) (m : ℕ) (pair : Pair) (table next : List (Option CellSide)) → m < length joins → get_or joins m pair ≡ pair → with_join tiles table pair ≡ Some next → with_joins tiles (drop m joins) table ≡ with_joins tiles (drop (m + 1) joins) next
fit_more tiles joins m pair table next below is some = joins_from tiles joins m pair table below is ∙ ap (option_and_then (with_joins tiles (drop (m + 1) joins))) some

pub fit_none : (tiles : List Tile) (joins : List Pair) (m : ℕ) (pair : Pair) (table : List (Option CellSide)) → m < length joins → get_or joins m pair ≡ pair → with_join tiles table pair ≡ None → with_joins tiles (drop m joins) table ≡ None
fit_none tiles joins m pair table below is none = joins_from tiles joins m pair table below is ∙ ap (option_and_then (with_joins tiles (drop (m + 1) joins))) none

-- a table of walls holds no join
pub walls : (tiles : List Tile) → IsTable tiles [] (replicate (sides_of tiles) None)
walls tiles = record {
  size = length-replicate (sides_of tiles) None;
  each = λ a edge. get_or-replicate (sides_of tiles) (place_of tiles a) None None (place_below tiles a edge.cell);
}
