-- The list of the faces has each face once, and nothing else.
use Rattle.std.proofs.Common.{◌≡◌, refl, sym, ◌∙◌, ap, subst, true, ℕ, zero, suc, ◌+◌, ◌*◌, ◌<◌, ◌≤◌, arith, List, [], ◌∷◌, ◌++◌, length, Option, Some, None, inl, inr, ◌⊎◌, append_assoc}
use Rattle.std.specs.Prelude.{AllPairs, Contains}
use Rattle.std.specs.List.{AllByRecursion, cons_option, flat_map, range_with_len}
use Rattle.std.proofs.lemmas.Bool.{cond-true, lt-ltb, ltb-true, cases_eq}
use Rattle.std.proofs.lemmas.Option.{cond_some}
use Rattle.std.proofs.lemmas.List.{append-nil, length-append}
use Rattle.std.proofs.lemmas.List.Elements.{All-from_recursion, Contains-append_left, Contains-append_right, Contains-append_cases}
use Rattle.std.proofs.lemmas.List.Kept.{AllPairs-cons}
use Rattle.cpl_mosaic.specs.declared.parts.Side.{Side}
use Rattle.cpl_mosaic.specs.declared.parts.Side.TheVariants.{W, E, S, N}
use Rattle.cpl_mosaic.specs.Lists.{MosaicLists}
use Rattle.cpl_mosaic.specs.Sides.{CellSide, IsCellOf}
use Rattle.cpl_mosaic.specs.Contacts.{cells_of}
use Rattle.cpl_mosaic.specs.Cells.{number_of, cell_of, NumbersAgree}
use Rattle.cpl_mosaic.specs.Mates.{MatesAgree, mate_of}
use Rattle.cpl_faces.specs.declared.face.Face.{Face}
use Rattle.cpl_faces.specs.Faces.{rank, Comes, IsFace, face_of, is_in_order, face_to, face_from, faces_from, faces_of, Precedes, AreFaces}
use Rattle.cpl_faces.proofs.Numbered.{less_from, from_less, by_number, from_number}

-- ---- lists with and without an item

pub cons_option-append : {X : Type 0} (o : Option X) (xs ys : List X) → cons_option o xs ++ ys ≡ cons_option o (xs ++ ys)
cons_option-append None xs ys = refl
cons_option-append (Some x) xs ys = refl

-- items that come one after the other
pub one_by_one : {X : Type 0} (xs : List X) (a b c d : Option X)
    → (((xs ++ cons_option a []) ++ cons_option b []) ++ cons_option c []) ++ cons_option d [] ≡ xs ++ cons_option a (cons_option b (cons_option c (cons_option d [])))
one_by_one xs a b c d =
    let d_in = cons_option-append c [] (cons_option d []) in
    let c_in = cons_option-append b [] (cons_option c (cons_option d [])) in
    let b_in = cons_option-append a [] (cons_option b (cons_option c (cons_option d []))) in
    append_assoc ((xs ++ cons_option a []) ++ cons_option b []) (cons_option c []) (cons_option d [])
    ∙ ap (λ t. ((xs ++ cons_option a []) ++ cons_option b []) ++ t) d_in
    ∙ append_assoc (xs ++ cons_option a []) (cons_option b []) (cons_option c (cons_option d []))
    ∙ ap (λ t. (xs ++ cons_option a []) ++ t) c_in
    ∙ append_assoc xs (cons_option a []) (cons_option b (cons_option c (cons_option d [])))
    ∙ ap (λ t. xs ++ t) b_in

length-cons_option : {X : Type 0} (o : Option X) (xs : List X) → length (cons_option o xs) ≤ length xs + 1
length-cons_option None xs = omega arith
length-cons_option (Some x) xs = omega arith

-- one block more
pub flat_map_next : {X : Type 0} (f : ℕ → List X) (a n j : ℕ) → a + n ≡ j → flat_map f (range_with_len a (suc n)) ≡ flat_map f (range_with_len a n) ++ f j
flat_map_next f a zero j e = let same : a ≡ j = omega arith in append-nil (f a) ∙ ap f same
flat_map_next f a (suc n) j e =
    ap (λ t. f a ++ t) (flat_map_next f (a + 1) n j (omega arith)) ∙ sym (append_assoc (f a) (flat_map f (range_with_len (a + 1) n)) (f j))

in_flat_map : {X : Type 0} (f : ℕ → List X) (a n k : ℕ) (x : X) → a ≤ k → k < a + n → Contains (f k) x → Contains (flat_map f (range_with_len a n)) x
in_flat_map f a zero k x le lt is = absurd (omega arith)
in_flat_map f a (suc n) k x le lt is = elim (cases_eq a k) [
  | inl same ↦ Contains-append_left (f a) (flat_map f (range_with_len (a + 1) n)) x (subst (λ (m : ℕ). Contains (f m) x) (sym same) is)
  | inr other ↦ Contains-append_right (f a) (flat_map f (range_with_len (a + 1) n)) x (in_flat_map f (a + 1) n k x (omega arith) (omega arith) is)
]

from_flat_map : {X : Type 0} (f : ℕ → List X) (a n : ℕ) (x : X) → Contains (flat_map f (range_with_len a n)) x → (k : ℕ) × (k < a + n) × Contains (f k) x
from_flat_map f a zero x is = let h = is.1 in absurd (omega arith)
from_flat_map f a (suc n) x is = elim (Contains-append_cases (f a) (flat_map f (range_with_len (a + 1) n)) x is) [
  | inl here ↦ (a, omega arith, here)
  | inr later ↦ let rest = from_flat_map f (a + 1) n x later in let lt = rest.1 in (rest.0, omega arith, rest.2)
]

in_option : {X : Type 0} (o : Option X) (xs : List X) (x : X) → o ≡ Some x → Contains (cons_option o xs) x
in_option None xs x e = absurd cc
in_option (Some y) xs x e = let same : y ≡ x = cc in (0, omega arith, same)

past_option : {X : Type 0} (o : Option X) (xs : List X) (x : X) → Contains xs x → Contains (cons_option o xs) x
past_option None xs x is = is
past_option (Some y) xs x is = Contains-append_right (y ∷ []) xs x is

from_option : {X : Type 0} (o : Option X) (xs : List X) (x : X) → Contains (cons_option o xs) x → (o ≡ Some x) ⊎ Contains xs x
from_option None xs x is = inr is
from_option (Some y) xs x (zero, within, same) = inl (ap (λ t. Some t) same)
from_option (Some y) xs x (suc k, within, same) = inr (k, omega arith, same)

-- ---- a face by its first side

-- what a side gives
pub record Gives (mosaic : MosaicLists) (first : CellSide) (face : Face) : Type 0 where
  pub second : CellSide
  pub mate : mate_of mosaic first ≡ Some second
  pub order : is_in_order (face_of mosaic first second) ≡ true
  pub is : face ≡ face_of mosaic first second

gives : (mosaic : MosaicLists) (first : CellSide) (mate : Option CellSide) (face : Face) → mate_of mosaic first ≡ mate → face_to mosaic first mate ≡ Some face → Gives mosaic first face
gives mosaic first None face same e = absurd cc
gives mosaic first (Some second) face same e =
    let h = cond_some (is_in_order (face_of mosaic first second)) (face_of mosaic first second) face e in
    record { second = second; mate = same; order = h.0; is = sym h.1 }

pub from_side : (mosaic : MosaicLists) (n : ℕ) (side : Side) (face : Face) → face_from mosaic n side ≡ Some face → Gives mosaic (cell_of mosaic.tiles n, side) face
from_side mosaic n side face e = gives mosaic (cell_of mosaic.tiles n, side) (mate_of mosaic (cell_of mosaic.tiles n, side)) face refl e

-- a face is what its first side gives
given_by : (mosaic : MosaicLists) (first second : CellSide) (mate : Option CellSide) → mate ≡ Some second → is_in_order (face_of mosaic first second) ≡ true
    → face_to mosaic first mate ≡ Some (face_of mosaic first second)
given_by mosaic first second mate e order =
    ap (face_to mosaic first) e ∙ cond-true (is_in_order (face_of mosaic first second)) (Some (face_of mosaic first second)) None order

-- ---- all faces

abbrev CellsAgree : MosaicLists → Type 0
CellsAgree mosaic = NumbersAgree mosaic.tiles

from_cell : (mosaic : MosaicLists) (n : ℕ) (side : Side) (face : Face) → face_from mosaic n side ≡ Some face → Contains (faces_from mosaic n) face
from_cell mosaic n W face e = in_option (face_from mosaic n W) _ face e
from_cell mosaic n E face e = past_option (face_from mosaic n W) _ face (in_option (face_from mosaic n E) _ face e)
from_cell mosaic n S face e = past_option (face_from mosaic n W) _ face (past_option (face_from mosaic n E) _ face (in_option (face_from mosaic n S) _ face e))
from_cell mosaic n N face e = past_option (face_from mosaic n W) _ face (past_option (face_from mosaic n E) _ face (past_option (face_from mosaic n S) _ face (in_option (face_from mosaic n N) _ face e)))

of_cell : (mosaic : MosaicLists) (n : ℕ) (face : Face) → Contains (faces_from mosaic n) face → (side : Side) × (face_from mosaic n side ≡ Some face)
of_cell mosaic n face is = elim (from_option (face_from mosaic n W) _ face is) [
  | inl e ↦ (W, e)
  | inr is ↦ elim (from_option (face_from mosaic n E) _ face is) [
    | inl e ↦ (E, e)
    | inr is ↦ elim (from_option (face_from mosaic n S) _ face is) [
      | inl e ↦ (S, e)
      | inr is ↦ elim (from_option (face_from mosaic n N) _ face is) [
        | inl e ↦ (N, e)
        | inr is ↦ absurd (let h = is.1 in omega arith)
      ]
    ]
  ]
]

each_face : (mosaic : MosaicLists) (first second : CellSide) → CellsAgree mosaic → MatesAgree mosaic → IsFace mosaic first second → Contains (faces_of mosaic) (face_of mosaic first second)
unfolding faces_of
each_face mosaic first second numbers mates is =
    let n = number_of mosaic.tiles first.0 in
    let below : n < cells_of mosaic.tiles = numbers.below first.0 is.cell in
    let cell : cell_of mosaic.tiles n ≡ first.0 = numbers.cell_number first.0 is.cell in
    let side : (cell_of mosaic.tiles n, first.1) ≡ first = ap (λ c. (c, first.1)) cell in
    let by = by_number mosaic.tiles first second is.cell is.order in
    let order : is_in_order (face_of mosaic first second) ≡ true = from_less _ _ _ _ (λ h. lt-ltb (rank first.1) (rank second.1) h) by in
    let here : face_to mosaic first (mate_of mosaic first) ≡ Some (face_of mosaic first second) = given_by mosaic first second (mate_of mosaic first) is.mate order in
    let there : face_from mosaic n first.1 ≡ Some (face_of mosaic first second) = ap (λ a. face_to mosaic a (mate_of mosaic a)) side ∙ here in
    in_flat_map (faces_from mosaic) 0 (cells_of mosaic.tiles) n (face_of mosaic first second) (omega arith) (omega arith) (from_cell mosaic n first.1 (face_of mosaic first second) there)

only_faces : (mosaic : MosaicLists) (face : Face) → CellsAgree mosaic → MatesAgree mosaic → Contains (faces_of mosaic) face
    → (first : CellSide) × (second : CellSide) × IsFace mosaic first second × (face ≡ face_of mosaic first second)
unfolding faces_of
only_faces mosaic face numbers mates is =
    let at = from_flat_map (faces_from mosaic) 0 (cells_of mosaic.tiles) face is in
    let n = at.0 in
    let below : n < cells_of mosaic.tiles = let h = at.1 in omega arith in
    let of = of_cell mosaic n face at.2 in
    let given = from_side mosaic n of.0 face of.1 in
    let first : CellSide = (cell_of mosaic.tiles n, of.0) in
    let cell : IsCellOf mosaic.tiles first.0 = numbers.is_cell n below in
    let by = less_from _ _ _ _ (λ h. ltb-true (rank first.1) (rank given.second.1) h) given.order in
    let order : Comes first given.second = from_number mosaic.tiles first given.second (mates.within first given.second cell given.mate) by in
    (first, given.second, record { cell = cell; mate = given.mate; order = order }, given.is)

-- ---- their order

Rising : List Face → Type 0
Rising [] = Unit {0}
Rising (face ∷ faces) = AllByRecursion (Precedes face) faces × Rising faces

-- faces of this cell whose sides come from this one on, and faces of the cells from this one on
abbrev FromSide : ℕ → ℕ → List Face → Type 0
FromSide n r faces = AllByRecursion (λ (face : Face). (face.first ≡ n) × (r ≤ rank face.first_side)) faces

abbrev FromCell : ℕ → List Face → Type 0
FromCell n faces = AllByRecursion (λ (face : Face). n ≤ face.first) faces

abbrev IsFirstSide : ℕ → ℕ → Option Face → Type 0
IsFirstSide n r o = (face : Face) → o ≡ Some face → (face.first ≡ n) × (rank face.first_side ≡ r)

on_from : (n r q : ℕ) (faces : List Face) → r ≤ q → FromSide n q faces → FromSide n r faces
on_from n r q [] le all = tt
on_from n r q (face ∷ faces) le all = ((all.0.0, let h = all.0.1 in omega arith), on_from n r q faces le all.1)

all_after : (n r : ℕ) (face : Face) (faces : List Face) → face.first ≡ n → rank face.first_side ≡ r → FromSide n (suc r) faces → AllByRecursion (Precedes face) faces
all_after n r face [] cell side all = tt
all_after n r face (next ∷ faces) cell side all = (inr (cell ∙ sym all.0.0, let h = all.0.1 in omega arith), all_after n r face faces cell side all.1)

side_more : (n r : ℕ) (o : Option Face) (faces : List Face) → IsFirstSide n r o → Rising faces × FromSide n (suc r) faces → Rising (cons_option o faces) × FromSide n r (cons_option o faces)
unfolding Rising
side_more n r None faces first rest = (rest.0, on_from n r (suc r) faces (omega arith) rest.1)
side_more n r (Some face) faces first rest =
    let is = first face refl in
    ((all_after n r face faces is.0 is.1 rest.1, rest.0), ((is.0, let h = is.1 in omega arith), on_from n r (suc r) faces (omega arith) rest.1))

first_side : (mosaic : MosaicLists) (n : ℕ) (side : Side) → CellsAgree mosaic → n < cells_of mosaic.tiles → IsFirstSide n (rank side) (face_from mosaic n side)
first_side mosaic n side numbers below face e =
    let given = from_side mosaic n side face e in
    (ap (λ (f : Face). f.first) given.is ∙ numbers.number_cell n below, ap (λ (f : Face). rank f.first_side) given.is)

cell_rises : (mosaic : MosaicLists) (n : ℕ) → CellsAgree mosaic → n < cells_of mosaic.tiles → Rising (faces_from mosaic n) × FromSide n 0 (faces_from mosaic n)
unfolding Rising
cell_rises mosaic n numbers below =
    side_more n 0 (face_from mosaic n W) _ (first_side mosaic n W numbers below)
    (side_more n 1 (face_from mosaic n E) _ (first_side mosaic n E numbers below)
    (side_more n 2 (face_from mosaic n S) _ (first_side mosaic n S numbers below)
    (side_more n 3 (face_from mosaic n N) [] (first_side mosaic n N numbers below) (tt, tt))))

before_cells : (n : ℕ) (face : Face) (later : List Face) → face.first ≡ n → FromCell (n + 1) later → AllByRecursion (Precedes face) later
before_cells n face [] is all = tt
before_cells n face (next ∷ later) is all = (inl (let h = all.0 in omega arith), before_cells n face later is all.1)

all_of_both : (P : Face → Type 0) (xs ys : List Face) → AllByRecursion P xs → AllByRecursion P ys → AllByRecursion P (xs ++ ys)
all_of_both P [] ys h k = k
all_of_both P (x ∷ xs) ys h k = (h.0, all_of_both P xs ys h.1 k)

rise_on : (n : ℕ) (faces later : List Face) → Rising faces → FromSide n 0 faces → Rising later → FromCell (n + 1) later → Rising (faces ++ later)
unfolding Rising
rise_on n [] later rising of rest past = rest
rise_on n (face ∷ faces) later rising of rest past =
    (all_of_both (Precedes face) faces later rising.0 (before_cells n face later of.0.0 past), rise_on n faces later rising.1 of.1 rest past)

from_cell_on : (n m : ℕ) (faces : List Face) → n ≤ m → FromCell m faces → FromCell n faces
from_cell_on n m [] le all = tt
from_cell_on n m (face ∷ faces) le all = (let h = all.0 in omega arith, from_cell_on n m faces le all.1)

of_this_cell : (n : ℕ) (faces : List Face) → FromSide n 0 faces → FromCell n faces
of_this_cell n [] all = tt
of_this_cell n (face ∷ faces) all = (let h = all.0.0 in omega arith, of_this_cell n faces all.1)

all_rise : (mosaic : MosaicLists) (a n : ℕ) → CellsAgree mosaic → a + n ≤ cells_of mosaic.tiles → Rising (flat_map (faces_from mosaic) (range_with_len a n)) × FromCell a (flat_map (faces_from mosaic) (range_with_len a n))
unfolding Rising
all_rise mosaic a zero numbers le = (tt, tt)
all_rise mosaic a (suc n) numbers le =
    let here = cell_rises mosaic a numbers (omega arith) in
    let later = all_rise mosaic (a + 1) n numbers (omega arith) in
    let past = flat_map (faces_from mosaic) (range_with_len (a + 1) n) in (
      rise_on a (faces_from mosaic a) past here.0 here.1 later.0 later.1,
      all_of_both (λ (face : Face). a ≤ face.first) (faces_from mosaic a) past (of_this_cell a (faces_from mosaic a) here.1) (from_cell_on a (a + 1) past (omega arith) later.1),
    )

pairs_rise : (faces : List Face) → Rising faces → AllPairs Precedes faces
unfolding Rising
pairs_rise [] rising = λ i j d lt within. absurd (omega arith)
pairs_rise (face ∷ faces) rising = AllPairs-cons Precedes face faces (All-from_recursion (Precedes face) faces rising.0) (pairs_rise faces rising.1)

-- ---- their count

few_of_cell : (mosaic : MosaicLists) (n : ℕ) → length (faces_from mosaic n) ≤ 4
few_of_cell mosaic n =
    let w = length-cons_option (face_from mosaic n W) (cons_option (face_from mosaic n E) (cons_option (face_from mosaic n S) (cons_option (face_from mosaic n N) []))) in
    let e = length-cons_option (face_from mosaic n E) (cons_option (face_from mosaic n S) (cons_option (face_from mosaic n N) [])) in
    let s = length-cons_option (face_from mosaic n S) (cons_option (face_from mosaic n N) []) in
    let n = length-cons_option (face_from mosaic n N) [] in
    omega arith

few_faces : (mosaic : MosaicLists) (a n : ℕ) → length (flat_map (faces_from mosaic) (range_with_len a n)) ≤ 4 * n
few_faces mosaic a zero = omega arith
few_faces mosaic a (suc n) =
    let rest = few_faces mosaic (a + 1) n in
    omega (arith, length-append (faces_from mosaic a) (flat_map (faces_from mosaic) (range_with_len (a + 1) n)), few_of_cell mosaic a)

pub are_faces : (mosaic : MosaicLists) → NumbersAgree mosaic.tiles → MatesAgree mosaic → AreFaces mosaic (faces_of mosaic)
unfolding faces_of
are_faces mosaic numbers mates = record {
  each = λ first second is. each_face mosaic first second numbers mates is;
  only = λ face is. only_faces mosaic face numbers mates is;
  sorted = pairs_rise (faces_of mosaic) (all_rise mosaic 0 (cells_of mosaic.tiles) numbers (omega arith)).0;
  few = few_faces mosaic 0 (cells_of mosaic.tiles);
}
