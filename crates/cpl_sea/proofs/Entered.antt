-- Sides of cells that are given their faces, one face after another.
use Rattle.std.proofs.Common.{◌≡◌, ◌∙◌, refl, sym, ap, subst, ℕ, ◌+◌, ◌<◌, arith, inl, inr, ◌⊎◌, Bool, true, false, cond, Option, Some, None, List, [], ◌∷◌, ◌++◌, length, take, get_or}
use Rattle.std.specs.Prelude.{slice_set}
use Rattle.std.specs.List.{position, position_from}
use Rattle.std.proofs.lemmas.Bool.{both_ways, cases_Bool, cases_eq, cond-true, cond-false, eq-eqb, eqb-true, false_from_ne_true}
use Rattle.std.proofs.lemmas.Iterator.Adapters.{position_from-zero}
use Rattle.std.proofs.lemmas.List.{ext_get_or, get_or-set_same, get_or-set_other, length-set, length-take-le, take_more}
use Rattle.cpl_mosaic.specs.declared.parts.Side.{Side}
use Rattle.cpl_mosaic.specs.declared.parts.Side.TheVariants.{W, E, S, N}
use Rattle.cpl_mosaic.specs.Sides.{is_same_direction}
use Rattle.cpl_mosaic.specs.declared.mosaic.Mesh.{Mesh}
use Rattle.cpl_faces.specs.declared.face.Face.{Face}
use Rattle.cpl_faces.specs.Faces.{faces_of}
use Rattle.cpl_state.specs.Diffusion.{cell_count}
use Rattle.cpl_state.specs.Transport.{face_at, is_first, is_second, no_face}
use Rattle.cpl_sea.specs.declared.links.SideFace.{SideFace}
use Rattle.cpl_sea.specs.declared.links.SideFace.TheVariants.{First, Second}
use Rattle.cpl_sea.specs.declared.links.CellFaces.{CellFaces}
use Rattle.cpl_sea.specs.Links.{side_face_by}
use Rattle.cpl_sea.specs.Lists.{HasSides, at_side, by_both, by_firsts, or_else, with_side}
use Rattle.cpl_sea.specs.Passes.{cell_faces_at}
use Rattle.cpl_sea.specs.Seas.{IsOcean}
use Rattle.cpl_sea.specs.Links.{all_cell_faces}
use Rattle.cpl_sea.proofs.Looked.{cell_faces_is, face_below, length_cell_faces, no_cell_faces}
use Rattle.cpl_sea.proofs.Sides.{both, together, same_way, own_way}

-- SIDES

apart : (a b : Side) → is_same_direction a b ≡ false → a ≡ b → ⊥
apart a b other e =
    let there : is_same_direction a b ≡ true = subst (λ (s : Side). is_same_direction a s ≡ true) e (own_way a) in
    both_ways (is_same_direction a b) other there

one_or_other : (a b : Side) → (a ≡ b) ⊎ (a ≡ b → ⊥)
one_or_other a b = elim (cases_Bool (is_same_direction a b)) [
  | inl same ↦ inl (same_way a b same)
  | inr other ↦ inr (apart a b other)
]

at_same : (cell : CellFaces) (side : Side) (face : SideFace) → at_side (with_side cell side face) side ≡ or_else (at_side cell side) face
at_same cell W face = refl
at_same cell E face = refl
at_same cell S face = refl
at_same cell N face = refl

at_other : (cell : CellFaces) (side s : Side) (face : SideFace) → (s ≡ side → ⊥) → at_side (with_side cell side face) s ≡ at_side cell s
at_other cell W W face other = absurd (other refl)
at_other cell E E face other = absurd (other refl)
at_other cell S S face other = absurd (other refl)
at_other cell N N face other = absurd (other refl)
at_other cell W E face other = refl
at_other cell W S face other = refl
at_other cell W N face other = refl
at_other cell E W face other = refl
at_other cell E S face other = refl
at_other cell E N face other = refl
at_other cell S W face other = refl
at_other cell S E face other = refl
at_other cell S N face other = refl
at_other cell N W face other = refl
at_other cell N E face other = refl
at_other cell N S face other = refl

-- one side of one cell is given its face
entered : (cells : List CellFaces) (count : ℕ) (before after : ℕ → Side → SideFace) (n : ℕ) (side : Side) (face : SideFace) → HasSides cells count before → n < count
    → after n side ≡ or_else (before n side) face
    → ((m : ℕ) (s : Side) → (m ≡ n → s ≡ side → ⊥) → after m s ≡ before m s)
    → HasSides (slice_set cells n (with_side (cell_faces_at cells n) side face)) count after
entered cells count before after n side face has lt here others =
    let new = with_side (cell_faces_at cells n) side face in
    let inside : n < length cells = let e = has.size in omega arith in
    record {
      size = length-set cells n new ∙ has.size;
      each = λ m s within. elim (cases_eq m n) [
        | inl same ↦
            let at_n : cell_faces_at (slice_set cells n new) m ≡ new = ap (λ k. cell_faces_at (slice_set cells n new) k) same ∙ get_or-set_same cells n new no_cell_faces inside in
            elim (one_or_other s side) [
              | inl way ↦ ap (λ c. at_side c s) at_n ∙ ap (at_side new) way ∙ at_same (cell_faces_at cells n) side face ∙ ap (λ t. or_else t face) (has.each n side lt) ∙ sym here ∙ sym (λ i. after (same i) (way i))
              | inr way ↦ ap (λ c. at_side c s) at_n ∙ at_other (cell_faces_at cells n) side s face way ∙ ap (λ k. at_side (cell_faces_at cells k) s) (sym same) ∙ has.each m s within ∙ sym (others m s (λ e f. way f))
            ]
        | inr other ↦ ap (λ c. at_side c s) (get_or-set_other cells n m new no_cell_faces other) ∙ has.each m s within ∙ sym (others m s (λ e f. other e))
      ];
    }

-- PLACES

keep : Option ℕ → Option ℕ → Option ℕ
keep (Some f) other = Some f
keep None other = other

from_append : {X : Type 0} (p : X → Bool) (i : ℕ) (xs : List X) (y : X) → position_from p i (xs ++ y ∷ []) ≡ keep (position_from p i xs) (cond (p y) (Some (i + length xs)) None)
unfolding keep
from_append p i [] y = let e : i ≡ i + 0 = omega arith in ap (λ (k : ℕ). cond (p y) (Some k) None) e
from_append p i (x ∷ xs) y = elim (cases_Bool (p x)) [
  | inl passes ↦
      let left = cond-true (p x) (Some i) (position_from p (i + 1) (xs ++ y ∷ [])) passes in
      let right = cond-true (p x) (Some i) (position_from p (i + 1) xs) passes in
      left ∙ sym (ap (λ o. keep o (cond (p y) (Some (i + length (x ∷ xs))) None)) right)
  | inr fails ↦
      let left = cond-false (p x) (Some i) (position_from p (i + 1) (xs ++ y ∷ [])) fails in
      let right = cond-false (p x) (Some i) (position_from p (i + 1) xs) fails in
      let e : (i + 1) + length xs ≡ i + length (x ∷ xs) = omega arith in
      left ∙ from_append p (i + 1) xs y ∙ ap (λ (k : ℕ). keep (position_from p (i + 1) xs) (cond (p y) (Some k) None)) e
      ∙ sym (ap (λ o. keep o (cond (p y) (Some (i + length (x ∷ xs))) None)) right)
]

-- one face more
place_more : {X : Type 0} (p : X → Bool) (xs : List X) (k : ℕ) (d : X) → k < length xs → position p (take (k + 1) xs) ≡ keep (position p (take k xs)) (cond (p (get_or xs k d)) (Some k) None)
place_more p xs k d lt =
    let at : 0 + length (take k xs) ≡ k = omega (arith, length-take-le k xs (omega arith)) in
    position_from-zero p (take (k + 1) xs)
    ∙ ap (position_from p 0) (take_more xs k d lt)
    ∙ from_append p 0 (take k xs) (get_or xs k d)
    ∙ ap (λ (n : ℕ). keep (position_from p 0 (take k xs)) (cond (p (get_or xs k d)) (Some n) None)) at
    ∙ ap (λ o. keep o (cond (p (get_or xs k d)) (Some k) None)) (sym (position_from-zero p (take k xs)))

place_found : {X : Type 0} (p : X → Bool) (xs : List X) (k : ℕ) (d : X) → k < length xs → p (get_or xs k d) ≡ true → position p (take (k + 1) xs) ≡ keep (position p (take k xs)) (Some k)
place_found p xs k d lt passes = place_more p xs k d lt ∙ ap (keep (position p (take k xs))) (cond-true (p (get_or xs k d)) (Some k) None passes)

keep_none : (o : Option ℕ) → keep o None ≡ o
unfolding keep
keep_none None = refl
keep_none (Some f) = refl

place_same : {X : Type 0} (p : X → Bool) (xs : List X) (k : ℕ) (d : X) → k < length xs → p (get_or xs k d) ≡ false → position p (take (k + 1) xs) ≡ position p (take k xs)
place_same p xs k d lt fails = place_more p xs k d lt ∙ ap (keep (position p (take k xs))) (cond-false (p (get_or xs k d)) (Some k) None fails) ∙ keep_none (position p (take k xs))

-- FACES

first_more : (o : Option ℕ) (k : ℕ) → side_face_by (keep o (Some k)) None ≡ or_else (side_face_by o None) (First k)
unfolding keep
first_more None k = refl
first_more (Some f) k = refl

second_more : (a o : Option ℕ) (k : ℕ) → side_face_by a (keep o (Some k)) ≡ or_else (side_face_by a o) (Second k)
unfolding keep
second_more (Some f) o k = refl
second_more None None k = refl
second_more None (Some f) k = refl

is_own : (face : Face) → is_first face.first face.first_side face ≡ true
is_own face = together _ _ (eq-eqb face.first face.first refl) (own_way face.first_side)

is_own_second : (face : Face) → is_second face.second face.second_side face ≡ true
is_own_second face = together _ _ (eq-eqb face.second face.second refl) (own_way face.second_side)

not_own : (face : Face) (m : ℕ) (s : Side) → (m ≡ face.first → s ≡ face.first_side → ⊥) → is_first m s face ≡ false
not_own face m s other = false_from_ne_true (is_first m s face) (λ e. let t = both _ _ e in other (sym (eqb-true face.first m t.0)) (sym (same_way face.first_side s t.1)))

not_own_second : (face : Face) (m : ℕ) (s : Side) → (m ≡ face.second → s ≡ face.second_side → ⊥) → is_second m s face ≡ false
not_own_second face m s other = false_from_ne_true (is_second m s face) (λ e. let t = both _ _ e in other (sym (eqb-true face.second m t.0)) (sym (same_way face.second_side s t.1)))

pub first_entered : (cells : List CellFaces) (count : ℕ) (faces : List Face) (k : ℕ) (face : Face) → k < length faces → face ≡ get_or faces k no_face → face.first < count → HasSides cells count (by_firsts (take k faces))
    → HasSides (slice_set cells face.first (with_side (cell_faces_at cells face.first) face.first_side (First k))) count (by_firsts (take (k + 1) faces))
first_entered cells count faces k face lt is within has =
    entered cells count (by_firsts (take k faces)) (by_firsts (take (k + 1) faces)) face.first face.first_side (First k) has within
    (let own : is_first face.first face.first_side (get_or faces k no_face) ≡ true = ap (is_first face.first face.first_side) (sym is) ∙ is_own face in
    ap (λ o. side_face_by o None) (place_found (is_first face.first face.first_side) faces k no_face lt own) ∙ first_more (position (is_first face.first face.first_side) (take k faces)) k)
    (λ m s other.
    let fails : is_first m s (get_or faces k no_face) ≡ false = ap (is_first m s) (sym is) ∙ not_own face m s other in
    ap (λ o. side_face_by o None) (place_same (is_first m s) faces k no_face lt fails))

pub second_entered : (cells : List CellFaces) (count : ℕ) (faces : List Face) (k : ℕ) (face : Face) → k < length faces → face ≡ get_or faces k no_face → face.second < count → HasSides cells count (by_both faces (take k faces))
    → HasSides (slice_set cells face.second (with_side (cell_faces_at cells face.second) face.second_side (Second k))) count (by_both faces (take (k + 1) faces))
second_entered cells count faces k face lt is within has =
    entered cells count (by_both faces (take k faces)) (by_both faces (take (k + 1) faces)) face.second face.second_side (Second k) has within
    (let own : is_second face.second face.second_side (get_or faces k no_face) ≡ true = ap (is_second face.second face.second_side) (sym is) ∙ is_own_second face in
    let first = position (is_first face.second face.second_side) faces in
    ap (side_face_by first) (place_found (is_second face.second face.second_side) faces k no_face lt own) ∙ second_more first (position (is_second face.second face.second_side) (take k faces)) k)
    (λ m s other.
    let fails : is_second m s (get_or faces k no_face) ≡ false = ap (is_second m s) (sym is) ∙ not_own_second face m s other in
    ap (side_face_by (position (is_first m s) faces)) (place_same (is_second m s) faces k no_face lt fails))

-- cells whose sides have all faces
pub are_all : (mesh : Mesh) (cells : List CellFaces) (faces : List Face) → faces ≡ faces_of mesh.mosaic → HasSides cells (cell_count mesh) (by_both faces faces) → cells ≡ all_cell_faces mesh
are_all mesh cells faces is has =
    ext_get_or no_cell_faces cells (all_cell_faces mesh) (has.size ∙ sym (length_cell_faces mesh)) (λ n lt.
    let within : n < cell_count mesh = let e = has.size in omega arith in
    let w = has.each n W within in
    let e = has.each n E within in
    let s = has.each n S within in
    let no = has.each n N within in
    let here : cell_faces_at cells n ≡ record { west = by_both faces faces n W; east = by_both faces faces n E; south = by_both faces faces n S; north = by_both faces faces n N } = λ i. record { west = w i; east = e i; south = s i; north = no i } in
    here ∙ ap (λ (fs : List Face). record { west = by_both fs fs n W; east = by_both fs fs n E; south = by_both fs fs n S; north = by_both fs fs n N }) is ∙ sym (cell_faces_is mesh n within))

-- the cells of faces are among the cells
pub firsts_within : (mesh : Mesh) (faces : List Face) (size : ℕ) → IsOcean mesh → faces ≡ faces_of mesh.mosaic → size ≡ cell_count mesh → (f : ℕ) → f < length faces → (get_or faces f no_face).first < size
firsts_within mesh faces size ocean is count f lt =
    let within : f < length (faces_of mesh.mosaic) = subst (λ (fs : List Face). f < length fs) is lt in
    subst (λ (fs : List Face). (get_or fs f no_face).first < size) (sym is) (subst (λ (m : ℕ). (face_at mesh f).first < m) (sym count) (face_below mesh ocean f within).0)

pub seconds_within : (mesh : Mesh) (faces : List Face) (size : ℕ) → IsOcean mesh → faces ≡ faces_of mesh.mosaic → size ≡ cell_count mesh → (f : ℕ) → f < length faces → (get_or faces f no_face).second < size
seconds_within mesh faces size ocean is count f lt =
    let within : f < length (faces_of mesh.mosaic) = subst (λ (fs : List Face). f < length fs) is lt in
    subst (λ (fs : List Face). (get_or fs f no_face).second < size) (sym is) (subst (λ (m : ℕ). (face_at mesh f).second < m) (sym count) (face_below mesh ocean f within).1)
