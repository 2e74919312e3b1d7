-- The sides of faces: where a side stands among them, and what the two sides of a face see.
use Rattle.std.proofs.Common.{◌≡◌, ◌∙◌, refl, sym, ap, subst, ℕ, ◌<◌, arith, inl, inr, cond, nat_lt, Bool, true, false, not, ◌&&◌, ◌==◌, Option, Some, None, List, length, get_or}
use Rattle.std.specs.Prelude.{ℤ, neg_ℤ}
use Rattle.std.specs.List.{position, position_or_len}
use Rattle.std.proofs.lemmas.Int.{ints}
use Rattle.std.proofs.lemmas.Bool.{eq-eqb, eqb-true}
use Rattle.std.proofs.lemmas.List.Elements.{Contains-get_or}
use Rattle.std.proofs.lemmas.List.Quantifiers.{position-Some}
use Rattle.std.proofs.lemmas.List.Sums.{position_or_len_is, fails_before_first, passes_at_first, prefix_len-le-length}
use Rattle.cpl_mosaic.specs.declared.parts.Side.{Side}
use Rattle.cpl_mosaic.specs.declared.parts.Side.TheVariants.{W, E, S, N}
use Rattle.cpl_mosaic.specs.Lists.{MosaicLists}
use Rattle.cpl_mosaic.specs.Contacts.{cells_of}
use Rattle.cpl_mosaic.specs.Sides.{CellSide, IsCellOf, is_same_direction}
use Rattle.cpl_mosaic.specs.Mates.{mate_of, MatesAgree}
use Rattle.cpl_mosaic.specs.Cells.{number_of, cell_of, NumbersAgree}
use Rattle.cpl_faces.specs.declared.face.Face.{Face}
use Rattle.cpl_faces.specs.Orders.{LessThen}
use Rattle.cpl_faces.specs.Faces.{AreFaces, Comes, IsFace, face_of, faces_of, rank}
use Rattle.cpl_state.specs.Transport.{is_first, is_second, no_face, outward, seen}

-- TESTS

pub both : (a b : Bool) → (a && b) ≡ true → (a ≡ true) × (b ≡ true)
both true true h = (refl, refl)
both true false h = absurd (cc h)
both false b h = absurd (cc h)

pub together : (a b : Bool) → a ≡ true → b ≡ true → (a && b) ≡ true
together a b e f = λ i. e i && f i

same_truth : (a b : Bool) → (a ≡ true → b ≡ true) → (b ≡ true → a ≡ true) → a ≡ b
same_truth true b there back = sym (there refl)
same_truth false true there back = back refl
same_truth false false there back = refl

pub same_way : (a b : Side) → is_same_direction a b ≡ true → a ≡ b
same_way W W h = refl
same_way E E h = refl
same_way S S h = refl
same_way N N h = refl
same_way W E h = absurd (cc h)
same_way W S h = absurd (cc h)
same_way W N h = absurd (cc h)
same_way E W h = absurd (cc h)
same_way E S h = absurd (cc h)
same_way E N h = absurd (cc h)
same_way S W h = absurd (cc h)
same_way S E h = absurd (cc h)
same_way S N h = absurd (cc h)
same_way N W h = absurd (cc h)
same_way N E h = absurd (cc h)
same_way N S h = absurd (cc h)

pub own_way : (a : Side) → is_same_direction a a ≡ true
own_way W = refl
own_way E = refl
own_way S = refl
own_way N = refl

-- two tests that agree on a list find the same place
pub position_same : {X : Type 0} (p q : X → Bool) (xs : List X) (d : X) → ((k : ℕ) → k < length xs → p (get_or xs k d) ≡ q (get_or xs k d)) → position p xs ≡ position q xs
position_same p q xs d same =
    let i = position_or_len q xs in
    let e : position_or_len p xs ≡ i =
    position_or_len_is p xs i d (prefix_len-le-length (λ x. not (q x)) xs)
    (λ k l. same k (omega (arith, prefix_len-le-length (λ x. not (q x)) xs)) ∙ fails_before_first q xs k d l)
    (λ l. same i l ∙ passes_at_first q xs d l) in
    ap (λ n. cond (nat_lt n (length xs)) (Some n) None) e

some_same : {X : Type 0} {a b : X} → Some a ≡ Some b → a ≡ b
some_same e = cc

-- ORDERS

less_asym : (x y : ℕ) (P Q : Type 0) → (P → Q → ⊥) → LessThen x y P → LessThen y x Q → ⊥
less_asym x y P Q apart (inl l) (inl m) = omega arith
less_asym x y P Q apart (inl l) (inr (e, q)) = omega arith
less_asym x y P Q apart (inr (e, p)) (inl m) = omega arith
less_asym x y P Q apart (inr (e, p)) (inr (f, q)) = apart p q

not_before : (a b : CellSide) → Comes a b → Comes b a → ⊥
not_before a b =
    less_asym a.0.tile b.0.tile (LessThen a.0.j b.0.j (LessThen a.0.i b.0.i (rank a.1 < rank b.1))) (LessThen b.0.j a.0.j (LessThen b.0.i a.0.i (rank b.1 < rank a.1)))
    (less_asym a.0.j b.0.j (LessThen a.0.i b.0.i (rank a.1 < rank b.1)) (LessThen b.0.i a.0.i (rank b.1 < rank a.1))
    (less_asym a.0.i b.0.i (rank a.1 < rank b.1) (rank b.1 < rank a.1) (λ l m. omega arith)))

-- what is seen where first and second change places
seen_swapped : (values : ℕ → ℤ) (o p : Option ℕ) → ((f g : ℕ) → o ≡ Some f → p ≡ Some g → ⊥) → seen values p o ≡ neg_ℤ (seen values o p)
seen_swapped values (Some f) (Some g) apart = absurd (apart f g refl refl)
seen_swapped values (Some f) None apart = refl
seen_swapped values None (Some g) apart = omega (arith, ints)
seen_swapped values None None apart = refl

-- FACES

module _ (mosaic : MosaicLists) (mates : MatesAgree mosaic) (numbers : NumbersAgree mosaic.tiles) (are : AreFaces mosaic (faces_of mosaic)) where
  -- the side of the cell of this number
  abbrev pub side : ℕ → Side → CellSide
  side n way = (cell_of mosaic.tiles n, way)

  abbrev pub face : ℕ → Face
  face f = get_or (faces_of mosaic) f no_face

  -- the face at a place
  pub face_is : (f : ℕ) → f < length (faces_of mosaic) → (first : CellSide) × (second : CellSide) × IsFace mosaic first second × (face f ≡ face_of mosaic first second)
  face_is f l = are.only (face f) (Contains-get_or (faces_of mosaic) f no_face l)

  -- a side by the number of its cell
  pub numbered : (a : CellSide) (n : ℕ) (way : Side) → IsCellOf mosaic.tiles a.0 → number_of mosaic.tiles a.0 ≡ n → a.1 ≡ way → a ≡ side n way
  numbered a n way is e f = λ i. ((sym (numbers.cell_number a.0 is) ∙ ap (cell_of mosaic.tiles) e) i, f i)

  -- what the face has whose first side this is: the side's mate as its second
  pub record IsFirstOf (n : ℕ) (way : Side) (f : ℕ) : Type 0 where
    pub mate : CellSide
    pub is : mate_of mosaic (side n way) ≡ Some mate
    pub here : (face f).first ≡ n
    pub here_side : (face f).first_side ≡ way
    pub second : (face f).second ≡ number_of mosaic.tiles mate.0
    pub second_side : (face f).second_side ≡ mate.1
    pub order : Comes (side n way) mate
    pub cell : IsCellOf mosaic.tiles (cell_of mosaic.tiles n)

  pub record IsSecondOf (n : ℕ) (way : Side) (f : ℕ) : Type 0 where
    pub mate : CellSide
    pub is : mate_of mosaic (side n way) ≡ Some mate
    pub here : (face f).second ≡ n
    pub here_side : (face f).second_side ≡ way
    pub first : (face f).first ≡ number_of mosaic.tiles mate.0
    pub first_side : (face f).first_side ≡ mate.1
    pub order : Comes mate (side n way)
    pub cell : IsCellOf mosaic.tiles (cell_of mosaic.tiles n)

  pub first_of : (n : ℕ) (way : Side) (f : ℕ) → f < length (faces_of mosaic) → is_first n way (face f) ≡ true → IsFirstOf n way f
  first_of n way f l h =
      let tests = both ((face f).first == n) (is_same_direction (face f).first_side way) h in
      let is = face_is f l in
      let first = is.0 in
      let second = is.1 in
      let same = numbered first n way is.2.cell
      (sym (ap (λ (t : Face). t.first) is.3) ∙ eqb-true (face f).first n tests.0)
      (sym (ap (λ (t : Face). t.first_side) is.3) ∙ same_way (face f).first_side way tests.1) in
      record {
        mate = second;
        is = subst (λ (a : CellSide). mate_of mosaic a ≡ Some second) same is.2.mate;
        here = eqb-true (face f).first n tests.0;
        here_side = same_way (face f).first_side way tests.1;
        second = ap (λ (t : Face). t.second) is.3;
        second_side = ap (λ (t : Face). t.second_side) is.3;
        order = subst (λ (a : CellSide). Comes a second) same is.2.order;
        cell = subst (λ (a : CellSide). IsCellOf mosaic.tiles a.0) same is.2.cell;
      }

  pub second_of : (n : ℕ) (way : Side) (f : ℕ) → f < length (faces_of mosaic) → is_second n way (face f) ≡ true → IsSecondOf n way f
  second_of n way f l h =
      let tests = both ((face f).second == n) (is_same_direction (face f).second_side way) h in
      let is = face_is f l in
      let first = is.0 in
      let second = is.1 in
      let cell = mates.within first second is.2.cell is.2.mate in
      let same = numbered second n way cell
      (sym (ap (λ (t : Face). t.second) is.3) ∙ eqb-true (face f).second n tests.0)
      (sym (ap (λ (t : Face). t.second_side) is.3) ∙ same_way (face f).second_side way tests.1) in
      record {
        mate = first;
        is = subst (λ (a : CellSide). mate_of mosaic a ≡ Some first) same (mates.back first second is.2.cell is.2.mate);
        here = eqb-true (face f).second n tests.0;
        here_side = same_way (face f).second_side way tests.1;
        first = ap (λ (t : Face). t.first) is.3;
        first_side = ap (λ (t : Face). t.first_side) is.3;
        order = subst (λ (a : CellSide). Comes first a) same is.2.order;
        cell = subst (λ (a : CellSide). IsCellOf mosaic.tiles a.0) same cell;
      }

  -- a face has a side as its first where it has the side's mate as its second
  module _ (n m : ℕ) (way other : Side) (l : n < cells_of mosaic.tiles) (k : m < cells_of mosaic.tiles) (e : mate_of mosaic (side n way) ≡ Some (side m other)) where
    there : (f : ℕ) → f < length (faces_of mosaic) → is_first n way (face f) ≡ true → is_second m other (face f) ≡ true
    there f within h =
        let is = first_of n way f within h in
        let same : is.mate ≡ side m other = some_same (sym is.is ∙ e) in
        together ((face f).second == m) (is_same_direction (face f).second_side other)
        (eq-eqb (face f).second m (is.second ∙ ap (λ (a : CellSide). number_of mosaic.tiles a.0) same ∙ numbers.number_cell m k))
        (ap (λ way. is_same_direction way other) (is.second_side ∙ ap (λ (a : CellSide). a.1) same) ∙ own_way other)

    back : (f : ℕ) → f < length (faces_of mosaic) → is_second m other (face f) ≡ true → is_first n way (face f) ≡ true
    back f within h =
        let is = second_of m other f within h in
        let e' = mates.back (side n way) (side m other) (numbers.is_cell n l) e in
        let same : is.mate ≡ side n way = some_same (sym is.is ∙ e') in
        together ((face f).first == n) (is_same_direction (face f).first_side way)
        (eq-eqb (face f).first n (is.first ∙ ap (λ (a : CellSide). number_of mosaic.tiles a.0) same ∙ numbers.number_cell n l))
        (ap (λ t. is_same_direction t way) (is.first_side ∙ ap (λ (a : CellSide). a.1) same) ∙ own_way way)

    pub agree : position (is_first n way) (faces_of mosaic) ≡ position (is_second m other) (faces_of mosaic)
    agree =
        position_same (is_first n way) (is_second m other) (faces_of mosaic) no_face
        (λ f within. same_truth (is_first n way (face f)) (is_second m other (face f)) (there f within) (back f within))

  -- no side is the first of one face and the second of another
  not_both : (n : ℕ) (way : Side) (f g : ℕ) → position (is_first n way) (faces_of mosaic) ≡ Some f → position (is_second n way) (faces_of mosaic) ≡ Some g → ⊥
  not_both n way f g e h =
      let a = position-Some (is_first n way) (faces_of mosaic) f no_face e in
      let b = position-Some (is_second n way) (faces_of mosaic) g no_face h in
      let first = first_of n way f a.0 a.1 in
      let second = second_of n way g b.0 b.1 in
      let same : first.mate ≡ second.mate = some_same (sym first.is ∙ second.is) in
      not_before (side n way) second.mate (subst (Comes (side n way)) same first.order) second.order

  -- the mate of a side sees the negative
  pub seen_turned : (values : ℕ → ℤ) (n m : ℕ) (way other : Side) → n < cells_of mosaic.tiles → m < cells_of mosaic.tiles → mate_of mosaic (side n way) ≡ Some (side m other)
      → outward mosaic values m other ≡ neg_ℤ (outward mosaic values n way)
  unfolding outward
  seen_turned values n m way other l k e =
      let e' = mates.back (side n way) (side m other) (numbers.is_cell n l) e in
      let first = agree n m way other l k e in
      let second = agree m n other way k l e' in
      (λ i. seen values (second i) (sym first i))
      ∙ seen_swapped values (position (is_first n way) (faces_of mosaic)) (position (is_second n way) (faces_of mosaic)) (λ f g a b. not_both n way f g a b)
