-- What a side sees of the next number of its face, in the whole ocean.
use Rattle.std.proofs.Common.{◌≡◌, ◌∙◌, refl, sym, ap, subst, ℕ, ◌+◌, ◌*◌, ◌<◌, ◌⊎◌, arith, inl, inr, Bool, true, false, not, ◌&&◌, ◌==◌, ◌^◌, Option, Some, None, List, length, get_or, cond, nat_lt}
use Rattle.std.specs.Prelude.{ℤ, pos, neg_ℤ, ◌+ℤ◌, ◌-ℤ◌, if◌then◌else◌, Contains}
use Rattle.std.specs.List.{position, position_or_len}
use Rattle.std.proofs.lemmas.Int.{ints}
use Rattle.std.proofs.lemmas.Bool.{cond-true, eq-eqb, lt-ltb, cases_lt, cases_order}
use Rattle.std.proofs.lemmas.List.Quantifiers.{position-Some}
use Rattle.std.proofs.lemmas.List.Elements.{at_from_Contains}
use Rattle.std.proofs.lemmas.List.Sums.{fails_before_first}
use Rattle.std.proofs.lemmas.Option.{none-some}
use Rattle.cpl_fixed.specs.Amounts.{at}
use Rattle.cpl_fixed.specs.Division.{trunc}
use Rattle.cpl_fixed.specs.declared.rates.Rates.{Rates}
use Rattle.cpl_mosaic.specs.declared.mosaic.Mesh.{Mesh}
use Rattle.cpl_mosaic.specs.declared.parts.Side.{Side}
use Rattle.cpl_mosaic.specs.declared.parts.Side.TheVariants.{W, E, S, N}
use Rattle.cpl_mosaic.specs.Sides.{CellSide, IsCellOf, is_same_direction}
use Rattle.cpl_mosaic.specs.Cells.{cell_of, number_of}
use Rattle.cpl_mosaic.specs.Mates.{mate_of}
use Rattle.cpl_faces.specs.declared.face.Face.{Face}
use Rattle.cpl_faces.specs.Faces.{Comes, IsFace, face_of, faces_of, rank}
use Rattle.cpl_transport.specs.Heights.{in_face, next_face}
use Rattle.cpl_transport.proofs.Odd.{trunc_neg, in_face_neg}
use Rattle.cpl_state.specs.Diffusion.{cell_count, cell_number}
use Rattle.cpl_state.specs.Transport.{Sea, face_at, face_count, height_at, is_first, is_open, is_second, is_wet, next_number, no_face, outward, seen}
use Rattle.cpl_rounds.specs.Rounds.{outward_in}
use Rattle.cpl_sea.specs.Seas.{IsOcean}
use Rattle.cpl_sea.proofs.Sides.{first_of, own_way, second_of, together}

-- A FACE FROM ITS OTHER SIDE

sum_neg : (u t d : ℤ) → neg_ℤ u -ℤ neg_ℤ t +ℤ neg_ℤ d ≡ neg_ℤ (u -ℤ t +ℤ d)
sum_neg u t d = omega (arith, ints)

difference_neg : (a b : ℤ) → b -ℤ a ≡ neg_ℤ (a -ℤ b)
difference_neg a b = omega (arith, ints)

next_neg : (slope : ℕ) (u height other : ℤ) → neg_ℤ (next_face slope u height other) ≡ next_face slope (neg_ℤ u) other height
next_neg slope u height other =
    let a = trunc_neg u 16 in
    let b = ap (λ (d : ℤ). trunc d (pos (2 ^ slope))) (difference_neg height other) ∙ trunc_neg (height -ℤ other) (2 ^ slope) in
    sym ((λ i. in_face (neg_ℤ u -ℤ a i +ℤ b i))
    ∙ ap in_face (sum_neg u (trunc u (pos 16)) (trunc (height -ℤ other) (pos (2 ^ slope))))
    ∙ in_face_neg (u -ℤ trunc u (pos 16) +ℤ trunc (height -ℤ other) (pos (2 ^ slope))))

neg_if : (b : Bool) (x : ℤ) → neg_ℤ (if b then x else pos 0) ≡ (if b then neg_ℤ x else pos 0)
neg_if true x = refl
neg_if false x = omega (arith, ints)

swap_both : (a b : Bool) → (a && b) ≡ (b && a)
swap_both true true = refl
swap_both true false = refl
swap_both false true = refl
swap_both false false = refl

-- ORDERS

ranked : (a b : Side) → rank a ≡ rank b → a ≡ b
ranked W W e = refl
ranked E E e = refl
ranked S S e = refl
ranked N N e = refl
ranked W E e = absurd (omega arith)
ranked W S e = absurd (omega arith)
ranked W N e = absurd (omega arith)
ranked E W e = absurd (omega arith)
ranked E S e = absurd (omega arith)
ranked E N e = absurd (omega arith)
ranked S W e = absurd (omega arith)
ranked S E e = absurd (omega arith)
ranked S N e = absurd (omega arith)
ranked N W e = absurd (omega arith)
ranked N E e = absurd (omega arith)
ranked N S e = absurd (omega arith)

-- of two sides one comes first
one_first : (a b : CellSide) → (a ≡ b → ⊥) → Comes a b ⊎ Comes b a
one_first a b other = elim (cases_order a.0.tile b.0.tile) [
  | inr (inl less) ↦ inl (inl less)
  | inr (inr more) ↦ inr (inl more)
  | inl tile ↦ elim (cases_order a.0.j b.0.j) [
    | inr (inl less) ↦ inl (inr (tile, inl less))
    | inr (inr more) ↦ inr (inr (sym tile, inl more))
    | inl row ↦ elim (cases_order a.0.i b.0.i) [
      | inr (inl less) ↦ inl (inr (tile, inr (row, inl less)))
      | inr (inr more) ↦ inr (inr (sym tile, inr (sym row, inl more)))
      | inl column ↦ elim (cases_order (rank a.1) (rank b.1)) [
        | inr (inl less) ↦ inl (inr (tile, inr (row, inr (column, less))))
        | inr (inr more) ↦ inr (inr (sym tile, inr (sym row, inr (sym column, more))))
        | inl way ↦ absurd (other (λ t. (record { tile = tile t; i = column t; j = row t }, ranked a.1 b.1 way t)))
      ]
    ]
  ]
]

-- WHAT IS FOUND

-- where an element passes, one is found
found : {X : Type 0} (test : X → Bool) (xs : List X) (x : X) → Contains xs x → test x ≡ true → position test xs ≡ None → ⊥
found test xs x there passes none =
    let w = at_from_Contains xs x there in
    let below = w.1 in
    elim (cases_lt (position_or_len test xs) (length xs)) [
      | inl l ↦
          let some : position test xs ≡ Some (position_or_len test xs) =
          cond-true (nat_lt (position_or_len test xs) (length xs)) (Some (position_or_len test xs)) None (lt-ltb (position_or_len test xs) (length xs) l) in
          none-some (position_or_len test xs) (sym none ∙ some)
      | inr past ↦
          let fails = fails_before_first test xs w.0 x (omega arith) in
          let is = sym fails ∙ ap test (w.2 x) ∙ passes in
          cc is
    ]

module _ (mesh : Mesh) (ocean : IsOcean mesh) where
  abbrev side_at : ℕ → Side → CellSide
  side_at n side = (cell_of mesh.mosaic.tiles n, side)

  -- a side that meets none sees no face
  alone_by : (values : ℕ → ℤ) (n : ℕ) (side : Side) (o p : Option ℕ) → mate_of mesh.mosaic (side_at n side) ≡ None
      → position (is_first n side) (faces_of mesh.mosaic) ≡ o → position (is_second n side) (faces_of mesh.mosaic) ≡ p → seen values o p ≡ pos 0
  alone_by values n side (Some f) p none e h =
      let at = position-Some (is_first n side) (faces_of mesh.mosaic) f no_face e in
      let is = first_of mesh.mosaic ocean.mates ocean.numbers ocean.faces n side f at.0 at.1 in
      let never : Some is.mate ≡ None = sym is.is ∙ none in absurd (cc never)
  alone_by values n side None (Some f) none e h =
      let at = position-Some (is_second n side) (faces_of mesh.mosaic) f no_face h in
      let is = second_of mesh.mosaic ocean.mates ocean.numbers ocean.faces n side f at.0 at.1 in
      let never : Some is.mate ≡ None = sym is.is ∙ none in absurd (cc never)
  alone_by values n side None None none e h = refl

  pub alone : (values : ℕ → ℤ) (n : ℕ) (side : Side) → mate_of mesh.mosaic (side_at n side) ≡ None → outward mesh.mosaic values n side ≡ pos 0
  unfolding outward
  alone values n side none =
      alone_by values n side (position (is_first n side) (faces_of mesh.mosaic)) (position (is_second n side) (faces_of mesh.mosaic)) none refl refl

  some_same : {X : Type 0} {a b : X} → Some a ≡ Some b → a ≡ b
  some_same e = cc

  module _ (layers : ℕ) (rates : Rates) (sea : Sea) (layer : ℕ) (n : ℕ) (side : Side) (b : CellSide) (below : n < cell_count mesh) (e : mate_of mesh.mosaic (side_at n side) ≡ Some b) where
    abbrev a : CellSide
    a = side_at n side

    abbrev m : ℕ
    m = cell_number mesh b

    is_cell : IsCellOf mesh.mosaic.tiles a.0
    is_cell = ocean.numbers.is_cell n below

    is_other : IsCellOf mesh.mosaic.tiles b.0
    is_other = ocean.mates.within a b is_cell e

    -- the face of the two sides is listed
    as_first : Comes a b → position (is_first n side) (faces_of mesh.mosaic) ≡ None → ⊥
    as_first order =
        let face = face_of mesh.mosaic a b in
        found (is_first n side) (faces_of mesh.mosaic) face (ocean.faces.each a b (record { cell = is_cell; mate = e; order = order }))
        (together (face.first == n) (is_same_direction side side) (eq-eqb face.first n (ocean.numbers.number_cell n below)) (own_way side))

    as_second : Comes b a → position (is_second n side) (faces_of mesh.mosaic) ≡ None → ⊥
    as_second order =
        let face = face_of mesh.mosaic b a in
        found (is_second n side) (faces_of mesh.mosaic) face (ocean.faces.each b a (record { cell = is_other; mate = ocean.mates.back a b is_cell e; order = order }))
        (together (face.second == n) (is_same_direction side side) (eq-eqb face.second n (ocean.numbers.number_cell n below)) (own_way side))

    is_listed : position (is_first n side) (faces_of mesh.mosaic) ≡ None → position (is_second n side) (faces_of mesh.mosaic) ≡ None → ⊥
    is_listed first second = elim (one_first a b (ocean.mates.apart a b is_cell e)) [
      | inl order ↦ as_first order first
      | inr order ↦ as_second order second
    ]

    -- the next number outward by what is seen before
    abbrev next_from : ℤ → ℤ
    next_from u = if is_open mesh n m then next_face rates.slope u (height_at mesh layers sea n) (height_at mesh layers sea m) else pos 0

    abbrev before : ℕ → ℤ
    before f = at sea.faces (layer * face_count mesh + f)

    next_by : (o p : Option ℕ) → position (is_first n side) (faces_of mesh.mosaic) ≡ o → position (is_second n side) (faces_of mesh.mosaic) ≡ p
        → seen (next_number mesh layers rates sea layer) o p ≡ next_from (seen before o p)
    unfolding next_number
    next_by (Some f) p first second =
        let at = position-Some (is_first n side) (faces_of mesh.mosaic) f no_face first in
        let is = first_of mesh.mosaic ocean.mates ocean.numbers ocean.faces n side f at.0 at.1 in
        let there : (face_at mesh f).second ≡ m = is.second ∙ ap (cell_number mesh) (some_same (sym is.is ∙ e)) in
        let here = is.here in
        λ t. if is_open mesh (here t) (there t) then next_face rates.slope (before f) (height_at mesh layers sea (here t)) (height_at mesh layers sea (there t)) else pos 0
    next_by None (Some f) first second =
        let at = position-Some (is_second n side) (faces_of mesh.mosaic) f no_face second in
        let is = second_of mesh.mosaic ocean.mates ocean.numbers ocean.faces n side f at.0 at.1 in
        let there : (face_at mesh f).first ≡ m = is.first ∙ ap (cell_number mesh) (some_same (sym is.is ∙ e)) in
        let here = is.here in
        let clear = swap_both (is_wet mesh m) (is_wet mesh n) in
        let other = next_neg rates.slope (before f) (height_at mesh layers sea m) (height_at mesh layers sea n) in
        (λ t. neg_ℤ (if is_open mesh (there t) (here t) then next_face rates.slope (before f) (height_at mesh layers sea (there t)) (height_at mesh layers sea (here t)) else pos 0))
        ∙ neg_if (is_open mesh m n) (next_face rates.slope (before f) (height_at mesh layers sea m) (height_at mesh layers sea n))
        ∙ (λ t. if clear t then other t else pos 0)
    next_by None None first second = absurd (is_listed first second)

    pub next_seen : outward mesh.mosaic (next_number mesh layers rates sea layer) n side ≡ next_from (outward_in mesh sea layer n side)
    unfolding outward
    next_seen = next_by (position (is_first n side) (faces_of mesh.mosaic)) (position (is_second n side) (faces_of mesh.mosaic)) refl refl
