-- What a piece takes: each exchange cell, outlet or cell that an edge between two pieces would carry stands in a list that it takes.
use Rattle.std.proofs.Common.{cond, ◌≡◌, ◌∙◌, refl, sym, ap, subst, ℕ, zero, suc, ◌+◌, ◌<◌, ◌≤◌, ◌&&◌, arith, Bool, true, false, List, [], ◌∷◌, length, get_or, map, eqb, inl, inr}
use Rattle.std.specs.Prelude.{All, Some, None, Option}
use Rattle.std.specs.List.{Contains, flat_map, range_with_len, filter}
use Rattle.std.proofs.lemmas.Bool.{cases_eq, eq-eqb, and_from}
use Rattle.std.proofs.lemmas.List.{get_or-map, length-map, get_or_default}
use Rattle.std.proofs.lemmas.List.Elements.{Contains-append_left, Contains-append_right}
use Rattle.cpl_xgrid.specs.Groups.{numbers_from}
use Rattle.cpl_wires.specs.declared.parts.Purpose.{Purpose}
use Rattle.cpl_wires.specs.declared.parts.Purpose.TheVariants.{AirHalo, LandToAir, IceToAir, AirToLand, AirToIce, LandToIce, IceToOcean, OceanToIce, OceanHalo, Sums}
use Rattle.cpl_wires.specs.declared.parts.Edge.{Edge}
use Rattle.cpl_fixed.specs.declared.words.Component.{Component}
use Rattle.cpl_wires.specs.Settings.{Setting, IsSetting, piece_count}
use Rattle.cpl_wires.specs.Purposes.{purposes, giver, receiver, is_same_purpose, purpose_place}
use Rattle.cpl_wires.specs.Pairs.{carried, has_edge}
use Rattle.cpl_wires.specs.Edges.{edges_of, edges_for, edges_from, edge_at, taken_by}
use Rattle.cpl_wires.specs.Laws.{IsOf}
use Rattle.cpl_wires.proofs.Members.{first_of_them, count_of_them, ranged}
use Rattle.cpl_wires.proofs.Numbers.{numbers_few, numbers_within}
use Rattle.cpl_wires.proofs.Few.{edges_few}
use Rattle.cpl_wires.proofs.Appended.{picked_is}
use Rattle.cpl_rows.specs.Rows.{items_on}
use Rattle.cpl_rows.specs.Found.{StandsIn}
use Rattle.cpl_rows.proofs.Listed.{Stands, stands_at}

-- LISTS

flat_at : {X Y : Type 0} (f : Y → List X) (ys : List Y) (k : ℕ) (y : Y) (x : X) → k < length ys → get_or ys k y ≡ y → Contains (f y) x → Contains (flat_map f ys) x
flat_at f [] k y x l is there = absurd (omega arith)
flat_at f (other ∷ ys) zero y x l is there = Contains-append_left (f other) (flat_map f ys) x (subst (λ z. Contains (f z) x) (sym is) there)
flat_at f (other ∷ ys) (suc k) y x l is there = Contains-append_right (f other) (flat_map f ys) x (flat_at f ys k y x (omega arith) is there)

flat_range : {X : Type 0} (f : ℕ → List X) (a n k : ℕ) (x : X) → a ≤ k → k < a + n → Contains (f k) x → Contains (flat_map f (range_with_len a n)) x
flat_range f a zero k x low high there = absurd (omega arith)
flat_range f a (suc n) k x low high there = elim (cases_eq k a) [
  | inl same ↦ Contains-append_left (f a) (flat_map f (range_with_len (a + 1) n)) x (subst (λ z. Contains (f z) x) same there)
  | inr other ↦ Contains-append_right (f a) (flat_map f (range_with_len (a + 1) n)) x (flat_range f (a + 1) n k x (omega arith) (omega arith) there)
]

one_of : {X : Type 0} (b : Bool) (x : X) → b ≡ true → Contains (cond b (x ∷ []) []) x
one_of true x passes = (0, omega arith, refl)
one_of false x passes = absurd (cc)

picked_range : {X : Type 0} (g : ℕ → X) (test : ℕ → Bool) (a n k : ℕ) → a ≤ k → k < a + n → test k ≡ true → Contains (map g (filter test (range_with_len a n))) (g k)
picked_range g test a n k low high passes =
    subst (λ xs. Contains xs (g k)) (sym (picked_is test g (range_with_len a n))) (flat_range (λ k. cond (test k) (g k ∷ []) []) a n k (g k) low high (one_of (test k) (g k) passes))

-- EDGES

-- what a piece takes are edges, no more than there are
pub taken_few : (setting : Setting) (piece : ℕ) (purpose : Purpose) → IsSetting setting → length (taken_by setting piece purpose) ≤ 37_120
unfolding taken_by
taken_few setting piece purpose is =
    let few = numbers_few (λ (edge : Edge). is_same_purpose edge.purpose purpose && eqb edge.to piece) 0 (edges_of setting) in
    let all = edges_few setting is in omega arith

pub taken_known : (setting : Setting) (piece : ℕ) (purpose : Purpose) → All (λ edge. edge < length (edges_of setting)) (taken_by setting piece purpose)
unfolding taken_by
taken_known setting piece purpose k d l =
    let below = numbers_within (λ (edge : Edge). is_same_purpose edge.purpose purpose && eqb edge.to piece) 0 (edges_of setting) k d l in omega arith

of_low : (setting : Setting) (others : ℕ) (option : Option Component) (piece : ℕ) → IsOf setting others option piece
    → (first_of_them setting option ≤ piece) × (piece < first_of_them setting option + count_of_them setting others option)
of_low setting others (Some component) piece is = is
of_low setting others None piece is = (omega arith, omega arith)

all_purposes : (purpose : Purpose) → (k : ℕ) × (k < length purposes) × (get_or purposes k purpose ≡ purpose)
all_purposes AirHalo = (0, omega arith, refl)
all_purposes LandToAir = (1, omega arith, refl)
all_purposes IceToAir = (2, omega arith, refl)
all_purposes AirToLand = (3, omega arith, refl)
all_purposes AirToIce = (4, omega arith, refl)
all_purposes LandToIce = (5, omega arith, refl)
all_purposes IceToOcean = (6, omega arith, refl)
all_purposes OceanToIce = (7, omega arith, refl)
all_purposes OceanHalo = (8, omega arith, refl)
all_purposes Sums = (9, omega arith, refl)

module _ (setting : Setting) (purpose : Purpose) (from to : ℕ) (first : IsOf setting (piece_count setting) (giver purpose) from) (second : IsOf setting 1 (receiver purpose) to) (shares : has_edge setting purpose from to ≡ true) where
  in_piece : Contains (edges_from setting purpose from) (record { purpose = purpose; from = from; to = to })
  in_piece =
      let is = of_low setting 1 (receiver purpose) to second in
      let g : ℕ → Edge = λ to. record { purpose = purpose; from = from; to = to } in
      subst (λ (ks : List ℕ). Contains (map g (filter (has_edge setting purpose from) ks)) (g to)) (sym (ranged setting 1 (receiver purpose)))
      (picked_range g (has_edge setting purpose from) (first_of_them setting (receiver purpose)) (count_of_them setting 1 (receiver purpose)) to is.0 is.1 shares)

  in_purpose : Contains (edges_for setting purpose) (record { purpose = purpose; from = from; to = to })
  in_purpose =
      let is = of_low setting (piece_count setting) (giver purpose) from first in
      let edge : Edge = record { purpose = purpose; from = from; to = to } in
      subst (λ (ks : List ℕ). Contains (flat_map (edges_from setting purpose) ks) edge) (sym (ranged setting (piece_count setting) (giver purpose)))
      (flat_range (edges_from setting purpose) (first_of_them setting (giver purpose)) (count_of_them setting (piece_count setting) (giver purpose)) from edge is.0 is.1 in_piece)

  in_all : Contains (edges_of setting) (record { purpose = purpose; from = from; to = to })
  unfolding edges_of
  in_all =
      let edge : Edge = record { purpose = purpose; from = from; to = to } in
      let at = all_purposes purpose in flat_at (edges_for setting) purposes at.0 purpose edge at.1 at.2 in_purpose

  -- the edge is among those that the piece takes
  pub taken_edge : (e : ℕ) × (edge_at setting e ≡ record { purpose = purpose; from = from; to = to }) × Stands (taken_by setting to purpose) e
  unfolding taken_by
  taken_edge =
      let edge : Edge = record { purpose = purpose; from = from; to = to } in
      let none : Edge = record { purpose = Sums; from = 0; to = 0 } in
      let e = in_all.0 in
      let is : edge_at setting e ≡ edge = get_or_default (edges_of setting) e none edge in_all.1 ∙ in_all.2 in
      let test = λ (edge : Edge). is_same_purpose edge.purpose purpose && eqb edge.to to in
      let passes : test (get_or (edges_of setting) e none) ≡ true = ap test is ∙ and_from (is_same_purpose purpose purpose) (eqb to to) (eq-eqb (purpose_place purpose) (purpose_place purpose) refl) (eq-eqb to to refl) in
      let zero_add : 0 + e ≡ e = omega arith in
      (e, is, subst (λ (n : ℕ). Stands (numbers_from test 0 (edges_of setting)) n) zero_add (stands_at test 0 e (edges_of setting) none in_all.1 passes))

  -- what the edge would carry stands in the lists that the piece takes
  pub stands_in : (item : ℕ) → Stands (carried setting purpose from to) item → StandsIn (map (items_on setting) (taken_by setting to purpose)) item
  stands_in item it =
      let found = taken_edge in
      let s = found.2.place in
      let taken = taken_by setting to purpose in
      let list : get_or (map (items_on setting) taken) s [] ≡ carried setting purpose from to =
      get_or-map (items_on setting) taken s 0 [] found.2.within ∙ ap (items_on setting) found.2.is ∙ ap (λ (edge : Edge). carried setting edge.purpose edge.from edge.to) found.1 in
      let long = length-map taken (items_on setting) in
      let within = found.2.within in record {
        edge = s;
        place = it.place;
        known = omega arith;
        within = subst (λ (xs : List ℕ). it.place < length xs) (sym list) it.within;
        is = ap (λ (xs : List ℕ). get_or xs it.place 0) list ∙ it.is;
      }
