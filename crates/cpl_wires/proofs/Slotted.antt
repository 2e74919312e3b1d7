-- Slots, and the edges of a piece and a purpose.
use Rattle.std.proofs.Common.{◌≡◌, ◌∙◌, sym, ap, ℕ, ◌+◌, ◌<◌, ◌&&◌, arith, inl, inr, List, [], length, get_or, set, take, eqb}
use Rattle.std.specs.Prelude.{map, count_by}
use Rattle.std.specs.List.{range_with_len}
use Rattle.std.proofs.lemmas.Bool.{cases_eq, eq-eqb, ne_eqb}
use Rattle.std.proofs.lemmas.List.{get_or-map, length-map, take-map, get_or-set_same, get_or-set_other, length-set}
use Rattle.std.proofs.lemmas.List.FromFn.{get_or-map-range_with_len}
use Rattle.std.proofs.lemmas.List.Sums.{count_by_more_yes, count_by_more_no}
use Rattle.std.proofs.lemmas.List.Elements.{All-map}
use Rattle.cpl_xgrid.specs.Groups.{AreKeys, by_key}
use Rattle.cpl_wires.specs.declared.parts.Purpose.{Purpose}
use Rattle.cpl_wires.specs.declared.parts.Purpose.TheVariants.{AirHalo, LandToAir, IceToAir, AirToLand, AirToIce, LandToIce, IceToOcean, OceanToIce, OceanHalo, Sums}
use Rattle.cpl_wires.specs.declared.parts.Edge.{Edge}
use Rattle.cpl_wires.specs.Settings.{Setting}
use Rattle.cpl_wires.specs.Purposes.{purpose_place}
use Rattle.cpl_wires.specs.Edges.{edges_of, edge_at, length_of, posted_by, taken_by, post_slot, take_slot}
use Rattle.cpl_wires.specs.Tables.{ends_most, HaveEnds, slot_in, poster, taker, poster_key, taker_key, end_number}
use Rattle.cpl_wires.proofs.Most.{ends_most_is}
use Rattle.cpl_wires.proofs.Counted.{count_map}
use Rattle.cpl_wires.proofs.Grouped.{group_of, end_eq}

-- COUNTS OF KEYS

-- how often each key is among the first n
pub record AreCounts (count : ℕ) (keys : List ℕ) (n : ℕ) (counts : List ℕ) : Type 0 where
  pub size : length counts ≡ count
  pub each : (p : ℕ) → p < count → get_or counts p 0 ≡ count_by (λ k. eqb k p) (take n keys)

pub counts_more : (count : ℕ) (keys : List ℕ) (n key : ℕ) (counts : List ℕ) → AreCounts count keys n counts → n < length keys → key ≡ get_or keys n 0 → key < count
    → AreCounts count keys (n + 1) (set counts key (get_or counts key 0 + 1))
counts_more count keys n key counts are l is below = record {
  size = let len = length-set counts key (get_or counts key 0 + 1) in let size = are.size in omega arith;
  each = λ p h. elim (cases_eq key p) [
    | inl same ↦
        let size = are.size in
        let within : key < length counts = omega arith in
        let here = get_or-set_same counts key (get_or counts key 0 + 1) 0 within in
        let more = count_by_more_yes (λ k. eqb k p) keys n 0 l (eq-eqb (get_or keys n 0) p (sym is ∙ same)) in
        let before = are.each p h in
        ap (λ (q : ℕ). get_or (set counts key (get_or counts key 0 + 1)) q 0) (sym same) ∙ here ∙ ap (λ (q : ℕ). get_or counts q 0 + 1) same ∙ ap (λ (m : ℕ). m + 1) before ∙ sym more
    | inr other ↦
        let more = count_by_more_no (λ k. eqb k p) keys n 0 l (ne_eqb (get_or keys n 0) p (λ e. other (is ∙ e))) in
        get_or-set_other counts key p (get_or counts key 0 + 1) 0 (λ e. other (sym e)) ∙ are.each p h ∙ sym more
  ];
}

-- PURPOSES

pub place_few : (purpose : Purpose) → purpose_place purpose < 16
place_few AirHalo = omega arith
place_few LandToAir = omega arith
place_few IceToAir = omega arith
place_few AirToLand = omega arith
place_few AirToIce = omega arith
place_few LandToIce = omega arith
place_few IceToOcean = omega arith
place_few OceanToIce = omega arith
place_few OceanHalo = omega arith
place_few Sums = omega arith

-- keys of edges
pub poster_keys_below : (list : List Edge) → HaveEnds list → AreKeys 4_096 (map poster_key list)
poster_keys_below list are = All-map (λ key. key < 4_096) poster_key list (λ k d h. let ends = are k d h in let few = place_few (get_or list k d).purpose in omega (arith, ends.0, few))

pub taker_keys_below : (list : List Edge) → HaveEnds list → AreKeys 4_096 (map taker_key list)
taker_keys_below list are = All-map (λ key. key < 4_096) taker_key list (λ k d h. let ends = are k d h in let few = place_few (get_or list k d).purpose in omega (arith, ends.1, few))

pub posters_below : (list : List Edge) → HaveEnds list → AreKeys 256 (map poster list)
posters_below list are = All-map (λ key. key < 256) poster list (λ k d h. (are k d h).0)

pub takers_below : (list : List Edge) → HaveEnds list → AreKeys 256 (map taker list)
takers_below list are = All-map (λ key. key < 256) taker list (λ k d h. (are k d h).1)

-- EDGES OF A PIECE

pub posted_is : (setting : Setting) (piece : ℕ) (purpose : Purpose) → piece < 256 → get_or (by_key ends_most (map poster_key (edges_of setting))) (end_number piece purpose) [] ≡ posted_by setting piece purpose
unfolding posted_by
posted_is setting piece purpose l =
    let few = place_few purpose in
    group_of ends_most poster_key (λ (edge : Edge). eqb (purpose_place edge.purpose) (purpose_place purpose) && eqb edge.from piece) (edges_of setting) (end_number piece purpose) (let most = ends_most_is in omega arith)
    (λ k d h. let edge = get_or (edges_of setting) k d in end_eq edge.from (purpose_place edge.purpose) piece (purpose_place purpose) (place_few edge.purpose) few)

pub taken_is : (setting : Setting) (piece : ℕ) (purpose : Purpose) → piece < 256 → get_or (by_key ends_most (map taker_key (edges_of setting))) (end_number piece purpose) [] ≡ taken_by setting piece purpose
unfolding taken_by
taken_is setting piece purpose l =
    let few = place_few purpose in
    group_of ends_most taker_key (λ (edge : Edge). eqb (purpose_place edge.purpose) (purpose_place purpose) && eqb edge.to piece) (edges_of setting) (end_number piece purpose) (let most = ends_most_is in omega arith)
    (λ k d h. let edge = get_or (edges_of setting) k d in end_eq edge.to (purpose_place edge.purpose) piece (purpose_place purpose) (place_few edge.purpose) few)

-- SLOTS

slot_is : (f : Edge → ℕ) (edges : List Edge) (edge : ℕ) (d : Edge) → edge < length edges
    → get_or (map (slot_in (map f edges)) (range_with_len 0 (length (map f edges)))) edge 0 ≡ count_by (λ other. eqb (f other) (f (get_or edges edge d))) (take edge edges)
slot_is f edges edge d l =
    let len = length-map edges f in
    get_or-map-range_with_len (slot_in (map f edges)) 0 (length (map f edges)) edge edge 0 (omega arith) (omega arith)
    ∙ ap (λ (xs : List ℕ). count_by (λ key. eqb key (get_or (map f edges) edge 0)) xs) (take-map f edge edges)
    ∙ count_map (λ key. eqb key (get_or (map f edges) edge 0)) f (take edge edges)
    ∙ ap (λ (q : ℕ). count_by (λ (other : Edge). eqb (f other) q) (take edge edges)) (get_or-map f edges edge d 0 l)

pub post_slot_is : (setting : Setting) (edge : ℕ) → edge < length (edges_of setting)
    → get_or (map (slot_in (map poster (edges_of setting))) (range_with_len 0 (length (map poster (edges_of setting))))) edge 0 ≡ post_slot setting edge
unfolding post_slot
post_slot_is setting edge l = slot_is poster (edges_of setting) edge (record { purpose = Sums; from = 0; to = 0 }) l

pub take_slot_is : (setting : Setting) (edge : ℕ) → edge < length (edges_of setting)
    → get_or (map (slot_in (map taker (edges_of setting))) (range_with_len 0 (length (map taker (edges_of setting))))) edge 0 ≡ take_slot setting edge
unfolding take_slot
take_slot_is setting edge l = slot_is taker (edges_of setting) edge (record { purpose = Sums; from = 0; to = 0 }) l

-- the length of an edge by its number
pub len_is : (setting : Setting) (edge : ℕ) → edge < length (edges_of setting) → get_or (map (length_of setting) (edges_of setting)) edge 0 ≡ length_of setting (edge_at setting edge)
len_is setting edge l = get_or-map (length_of setting) (edges_of setting) edge (record { purpose = Sums; from = 0; to = 0 }) 0 l
