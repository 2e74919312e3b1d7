-- Which edges there are: each leads between pieces that may post and take and share something.
use Rattle.std.proofs.Common.{cond, ◌≡◌, ◌∙◌, refl, sym, subst, ℕ, zero, suc, ◌+◌, ◌<◌, ◌≤◌, arith, Bool, true, false, List, [], ◌∷◌, length, ltb}
use Rattle.std.specs.Prelude.{All, Option, Some, None, map, filter}
use Rattle.std.specs.List.{flat_map, range_with_len}
use Rattle.std.specs.Option.{unwrap_or}
use Rattle.std.proofs.lemmas.Bool.{cond-true, cond-false, lt-ltb, le-ltb}
use Rattle.std.proofs.lemmas.List.Elements.{All-append}
use Rattle.cpl_fixed.specs.declared.words.Component.{Component}
use Rattle.cpl_fixed.specs.declared.words.Component.TheVariants.{Atmos, Land, Ice, Ocean}
use Rattle.cpl_wires.specs.declared.parts.Purpose.{Purpose}
use Rattle.cpl_wires.specs.declared.parts.Purpose.TheVariants.{Sums}
use Rattle.cpl_wires.specs.declared.parts.Edge.{Edge}
use Rattle.cpl_wires.specs.Settings.{Setting, base_of, pieces_in, piece_count, component_of}
use Rattle.cpl_wires.specs.Purposes.{purposes, giver, receiver, pieces_or}
use Rattle.cpl_wires.specs.Pairs.{has_edge}
use Rattle.cpl_wires.specs.Edges.{edges_of, edges_for, edges_from, edge_at}
use Rattle.cpl_wires.specs.Laws.{IsOf, IsEdge}

-- LISTS OVER RANGES

all_none : {X : Type 0} (P : X → Type 0) → All P []
all_none P k d h = absurd (omega arith)

pub all_flat : {X : Type 0} (P : X → Type 0) (f : ℕ → List X) (a n : ℕ) → ((k : ℕ) → a ≤ k → k < a + n → All P (f k)) → All P (flat_map f (range_with_len a n))
all_flat P f a zero each = all_none P
all_flat P f a (suc n) each =
    All-append P (f a) (flat_map f (range_with_len (a + 1) n)) (each a (omega arith) (omega arith))
    (all_flat P f (a + 1) n (λ k low high. each k (omega arith) (omega arith)))

all_cond : {X : Type 0} (P : X → Type 0) (g : ℕ → X) (b : Bool) (k : ℕ) (ks : List ℕ) → (b ≡ true → P (g k)) → All P (map g ks) → All P (map g (cond b (k ∷ ks) ks))
all_cond P g false k ks own rest m d h = rest m d h
all_cond P g true k ks own rest zero d h = own refl
all_cond P g true k ks own rest (suc m) d h = rest m d (omega arith)

all_picked : {X : Type 0} (P : X → Type 0) (g : ℕ → X) (test : ℕ → Bool) (a n : ℕ) → ((k : ℕ) → a ≤ k → k < a + n → test k ≡ true → P (g k))
    → All P (map g (filter test (range_with_len a n)))
all_picked P g test a zero each = all_none P
all_picked P g test a (suc n) each =
    all_cond P g (test a) a (filter test (range_with_len (a + 1) n)) (each a (omega arith) (omega arith))
    (all_picked P g test (a + 1) n (λ k low high. each k (omega arith) (omega arith)))

-- PIECES

-- the first of the pieces that may post, or take, and how many there are
abbrev pub first_of_them : Setting → Option Component → ℕ
first_of_them setting (Some component) = base_of setting component
first_of_them setting None = 0

abbrev pub count_of_them : Setting → ℕ → Option Component → ℕ
count_of_them setting others (Some component) = pieces_in setting component
count_of_them setting others None = others

pub ranged : (setting : Setting) (others : ℕ) (option : Option Component)
    → pieces_or setting (range_with_len 0 others) option ≡ range_with_len (first_of_them setting option) (count_of_them setting others option)
ranged setting others (Some component) = refl
ranged setting others None = refl

within : (setting : Setting) (others : ℕ) (option : Option Component) (piece : ℕ) → first_of_them setting option ≤ piece → piece < first_of_them setting option + count_of_them setting others option
    → IsOf setting others option piece
within setting others (Some component) piece low high = (low, high)
within setting others None piece low high = omega arith

from_piece : (setting : Setting) (purpose : Purpose) (from : ℕ) → IsOf setting (piece_count setting) (giver purpose) from → All (IsEdge setting) (edges_from setting purpose from)
from_piece setting purpose from is =
    let g : ℕ → Edge = λ to. record { purpose = purpose; from = from; to = to } in
    let first = first_of_them setting (receiver purpose) in
    let count = count_of_them setting 1 (receiver purpose) in
    subst (λ (ks : List ℕ). All (IsEdge setting) (map g (filter (has_edge setting purpose from) ks))) (sym (ranged setting 1 (receiver purpose)))
    (all_picked (IsEdge setting) g (has_edge setting purpose from) first count
    (λ to low high shares. record { from = is; to = within setting 1 (receiver purpose) to low high; shares = shares }))

for_purpose : (setting : Setting) (purpose : Purpose) → All (IsEdge setting) (edges_for setting purpose)
for_purpose setting purpose =
    let first = first_of_them setting (giver purpose) in
    let count = count_of_them setting (piece_count setting) (giver purpose) in
    subst (λ (ks : List ℕ). All (IsEdge setting) (flat_map (edges_from setting purpose) ks)) (sym (ranged setting (piece_count setting) (giver purpose)))
    (all_flat (IsEdge setting) (edges_from setting purpose) first count
    (λ from low high. from_piece setting purpose from (within setting (piece_count setting) (giver purpose) from low high)))

for_all : (setting : Setting) (some : List Purpose) → All (IsEdge setting) (flat_map (edges_for setting) some)
for_all setting [] = all_none (IsEdge setting)
for_all setting (purpose ∷ others) =
    All-append (IsEdge setting) (edges_for setting purpose) (flat_map (edges_for setting) others) (for_purpose setting purpose) (for_all setting others)

-- each edge is one
pub is_edge : (setting : Setting) (edge : ℕ) → edge < length (edges_of setting) → IsEdge setting (edge_at setting edge)
unfolding edges_of
is_edge setting edge l = for_all setting purposes edge (record { purpose = Sums; from = 0; to = 0 }) l

-- COMPONENTS

-- a piece of a component is of that component
pub component_is : (setting : Setting) (component : Component) (piece : ℕ) → base_of setting component ≤ piece → piece < base_of setting component + pieces_in setting component
    → component_of setting piece ≡ component
component_is setting Atmos piece low high =
    let is : piece < base_of setting Land = omega arith in cond-true (ltb piece (base_of setting Land)) Atmos _ (lt-ltb piece (base_of setting Land) is)
component_is setting Land piece low high =
    cond-false (ltb piece (base_of setting Land)) Atmos _ (le-ltb piece (base_of setting Land) (omega arith))
    ∙ cond-true (ltb piece (base_of setting Ice)) Land _ (lt-ltb piece (base_of setting Ice) (omega arith))
component_is setting Ice piece low high =
    cond-false (ltb piece (base_of setting Land)) Atmos _ (le-ltb piece (base_of setting Land) (omega arith))
    ∙ cond-false (ltb piece (base_of setting Ice)) Land _ (le-ltb piece (base_of setting Ice) (omega arith))
    ∙ cond-true (ltb piece (base_of setting Ocean)) Ice _ (lt-ltb piece (base_of setting Ocean) (omega arith))
component_is setting Ocean piece low high =
    cond-false (ltb piece (base_of setting Land)) Atmos _ (le-ltb piece (base_of setting Land) (omega arith))
    ∙ cond-false (ltb piece (base_of setting Ice)) Land _ (le-ltb piece (base_of setting Ice) (omega arith))
    ∙ cond-false (ltb piece (base_of setting Ocean)) Ice _ (le-ltb piece (base_of setting Ocean) (omega arith))

pub component_or : (setting : Setting) (others : ℕ) (option : Option Component) (piece : ℕ) → IsOf setting others option piece
    → unwrap_or option (component_of setting piece) ≡ component_of setting piece
component_or setting others (Some component) piece is = sym (component_is setting component piece is.0 is.1)
component_or setting others None piece is = refl

-- a piece of a component is one of all
pub piece_within : (setting : Setting) (component : Component) (piece : ℕ) → piece < base_of setting component + pieces_in setting component → piece < piece_count setting
piece_within setting Atmos piece l = omega arith
piece_within setting Land piece l = omega arith
piece_within setting Ice piece l = omega arith
piece_within setting Ocean piece l = omega arith
