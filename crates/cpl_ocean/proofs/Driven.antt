-- The numbers of faces, set one after the other.
use Rattle.std.proofs.Common.{◌≡◌, ◌∙◌, sym, ap, subst, ℕ, ◌+◌, ◌-◌, ◌*◌, ◌<◌, ◌≤◌, arith, inl, inr, Bool, true, false, List, get_or, slice_set, get_or-set_other, neg_ℤ}
use Rattle.std.specs.Prelude.{ℤ, pos, ◌-ℤ◌, ◌&&◌, ◌==◌, nat_lt, nat_le, if◌then◌else◌}
use Rattle.std.proofs.lemmas.Bool.{cases_eq}
use Rattle.std.proofs.lemmas.Bool.Decides.{nat_tests}
use Rattle.std.proofs.lemmas.Int.{ints}
use Rattle.std.proofs.lemmas.Nat.{mul-add-lt, same_from_place}
use Rattle.cpl_mosaic.specs.declared.parts.Side.{Side}
use Rattle.cpl_mosaic.specs.declared.parts.Side.TheVariants.{W, E, S, N}
use Rattle.cpl_fixed.specs.Amounts.{at}
use Rattle.cpl_field.specs.Crossings.{FaceNumbers, eastward_at, northward_at, outward}
use Rattle.cpl_field.specs.Spots.{FieldNumbers, Spot, CellAt, HoleAt, out_from}
use Rattle.cpl_transport.specs.Heights.{IsFaceNumber, next_face}
use Rattle.cpl_transport.proofs.Bounds.{read}
use Rattle.cpl_ocean.specs.Flows.{is_open, is_wet, next_number}
use Rattle.cpl_ocean.specs.Numbers.{Drives, DrivesEast, DrivesNorth, next_east, next_north}

-- the places before one have their numbers, and the others keep what they had. Rows of so many stand one after another
pub record Front (in_row rows : ℕ) (next : ℕ → ℕ → ℤ) (n : ℕ) (old new : List ℤ) : Type 0 where
  pub before : (i j : ℕ) → i < in_row → j < rows → j * in_row + i < n → at new (j * in_row + i) ≡ next i j
  pub after : (k : ℕ) → n ≤ k → at new k ≡ at old k

-- one place more
pub front_more : (in_row rows : ℕ) (next : ℕ → ℕ → ℤ) (old list new : List ℤ) (i j n : ℕ) → i < in_row → j < rows → n ≡ j * in_row + i → Front in_row rows next n old list → (v x : ℤ) → new ≡ slice_set list n v → at new n ≡ x → x ≡ next i j → Front in_row rows next (n + 1) old new
front_more in_row rows next old list new i j n column row place front v x sets there is = record {
  before = λ k l k_column l_row less. elim (cases_eq (l * in_row + k) n) [
    | inl e ↦
        let same = same_from_place l k j i in_row k_column column (e ∙ place) in
        ap (at new) e ∙ there ∙ is ∙ (λ t. next (sym same.1 t) (sym same.0 t))
    | inr ne ↦
        let other : l * in_row + k ≡ n → ⊥ = ne in
        ap (λ (xs : List ℤ). at xs (l * in_row + k)) sets ∙ get_or-set_other list n (l * in_row + k) v (pos 0) other ∙ front.before k l k_column l_row (omega arith)
  ];
  after = λ k l. ap (λ (xs : List ℤ). at xs k) sets ∙ get_or-set_other list n k v (pos 0) (λ e. absurd (omega arith)) ∙ front.after k (omega arith);
}

-- seen from the other side
abbrev pub Odd : Type 0
Odd = (slope : ℕ) (u height other : ℤ) → next_face slope (neg_ℤ u) other height ≡ neg_ℤ (next_face slope u height other)

turned : Odd → (slope : ℕ) (x y : Bool) (u height other : ℤ) → pos 0 -ℤ (if y && x then next_face slope (pos 0 -ℤ u) other height else pos 0) ≡ (if x && y then next_face slope u height other else pos 0)
turned odd slope true true u height other =
    let minus : pos 0 -ℤ u ≡ neg_ℤ u = omega (arith, ints) in
    let e : next_face slope (pos 0 -ℤ u) other height ≡ neg_ℤ (next_face slope u height other) = ap (λ (v : ℤ). next_face slope v other height) minus ∙ odd slope u height other in
    negated (next_face slope u height other) (next_face slope (pos 0 -ℤ u) other height) e
  where
    negated : (x y : ℤ) → y ≡ neg_ℤ x → pos 0 -ℤ y ≡ x
    negated x y e = omega (arith, ints, e)
turned odd slope true false u height other = omega (arith, ints)
turned odd slope false true u height other = omega (arith, ints)
turned odd slope false false u height other = omega (arith, ints)

module _ (odd : Odd) (area : FieldNumbers) (height : Spot → ℤ) (slope : ℕ) (faces : FaceNumbers) where
  -- by the two spots, and the number seen from the first
  abbrev by : (here there : Spot) → ℤ → ℤ
  by here there u = if is_wet area here && is_wet area there then next_face slope u (height here) (height there) else pos 0

  opposite_by : (here there : Spot) (u : ℤ) → pos 0 -ℤ by there here (pos 0 -ℤ u) ≡ by here there u
  opposite_by here there u = turned odd slope (is_wet area here) (is_wet area there) u (height here) (height there)

  pub east_cell : (i j : ℕ) → i + 1 < area.nx → out_from area i j E 1 ≡ CellAt (i + 1) j
  east_cell i j l = choose (nat_lt (i + 1) area.nx) (grind (arith, nat_tests))
    where
      choose : (b : Bool) → b ≡ true → (if b then CellAt (i + 1) j else HoleAt E j (i + 1 + 1 - area.nx)) ≡ CellAt (i + 1) j
      choose b e = ap (λ (a : Bool). if a then CellAt (i + 1) j else HoleAt E j (i + 1 + 1 - area.nx)) e

  pub west_cell : (i j : ℕ) → out_from area (i + 1) j W 1 ≡ CellAt i j
  west_cell i j = choose (nat_le 1 (i + 1)) (grind (arith, nat_tests)) ∙ ap (λ (k : ℕ). CellAt k j) (let e : i + 1 - 1 ≡ i = omega arith in e)
    where
      choose : (b : Bool) → b ≡ true → (if b then CellAt (i + 1 - 1) j else HoleAt W j (1 - (i + 1))) ≡ CellAt (i + 1 - 1) j
      choose b e = ap (λ (a : Bool). if a then CellAt (i + 1 - 1) j else HoleAt W j (1 - (i + 1))) e

  pub north_cell : (i j : ℕ) → j + 1 < area.ny → out_from area i j N 1 ≡ CellAt i (j + 1)
  north_cell i j l = choose (nat_lt (j + 1) area.ny) (grind (arith, nat_tests))
    where
      choose : (b : Bool) → b ≡ true → (if b then CellAt i (j + 1) else HoleAt N i (j + 1 + 1 - area.ny)) ≡ CellAt i (j + 1)
      choose b e = ap (λ (a : Bool). if a then CellAt i (j + 1) else HoleAt N i (j + 1 + 1 - area.ny)) e

  pub south_cell : (i j : ℕ) → out_from area i (j + 1) S 1 ≡ CellAt i j
  south_cell i j = choose (nat_le 1 (j + 1)) (grind (arith, nat_tests)) ∙ ap (λ (k : ℕ). CellAt i k) (let e : j + 1 - 1 ≡ j = omega arith in e)
    where
      choose : (b : Bool) → b ≡ true → (if b then CellAt i (j + 1 - 1) else HoleAt S i (1 - (j + 1))) ≡ CellAt i (j + 1 - 1)
      choose b e = ap (λ (a : Bool). if a then CellAt i (j + 1 - 1) else HoleAt S i (1 - (j + 1))) e

  -- a face between two cells of the piece
  pub east_meets : (i j : ℕ) → i + 1 < area.nx → pos 0 -ℤ next_number area height slope faces (i + 1) j W ≡ next_number area height slope faces i j E
  east_meets i j l =
      ap (λ (there : Spot). pos 0 -ℤ by (CellAt (i + 1) j) there (pos 0 -ℤ eastward_at faces (i + 1) j)) (west_cell i j)
      ∙ opposite_by (CellAt i j) (CellAt (i + 1) j) (eastward_at faces (i + 1) j)
      ∙ sym (ap (λ (there : Spot). by (CellAt i j) there (eastward_at faces (i + 1) j)) (east_cell i j l))

  pub north_meets : (i j : ℕ) → j + 1 < area.ny → pos 0 -ℤ next_number area height slope faces i (j + 1) S ≡ next_number area height slope faces i j N
  north_meets i j l =
      ap (λ (there : Spot). pos 0 -ℤ by (CellAt i (j + 1)) there (pos 0 -ℤ northward_at faces i (j + 1))) (south_cell i j)
      ∙ opposite_by (CellAt i j) (CellAt i (j + 1)) (northward_at faces i (j + 1))
      ∙ sym (ap (λ (there : Spot). by (CellAt i j) there (northward_at faces i (j + 1))) (north_cell i j l))

  pick : (b : Bool) (x y : ℤ) → b ≡ true → (if b then x else y) ≡ x
  pick b x y e = ap (λ (a : Bool). if a then x else y) e

  skip : (b : Bool) (x y : ℤ) → b ≡ false → (if b then x else y) ≡ y
  skip b x y e = ap (λ (a : Bool). if a then x else y) e

  minus_twice : (x : ℤ) → pos 0 -ℤ (pos 0 -ℤ x) ≡ x
  minus_twice x = omega (arith, ints)

  next_west_is : (i j : ℕ) → i < faces.nx → pos 0 -ℤ next_east area height slope faces i j ≡ next_number area height slope faces i j W
  next_west_is i j l = ap (λ (x : ℤ). pos 0 -ℤ x) (skip (i == faces.nx) _ _ (grind (arith, nat_tests))) ∙ minus_twice (next_number area height slope faces i j W)

  next_east_is : (i j : ℕ) → area.nx ≡ faces.nx → i < faces.nx → next_east area height slope faces (i + 1) j ≡ next_number area height slope faces i j E
  next_east_is i j same l = elim (cases_eq (i + 1) faces.nx) [
    | inl e ↦ pick (i + 1 == faces.nx) _ _ (grind (arith, nat_tests)) ∙ ap (λ (k : ℕ). next_number area height slope faces k j E) (let e : i + 1 - 1 ≡ i = omega arith in e)
    | inr ne ↦ let other : i + 1 ≡ faces.nx → ⊥ = ne in skip (i + 1 == faces.nx) _ _ (grind (arith, nat_tests)) ∙ east_meets i j (omega arith)
  ]

  next_south_is : (i j : ℕ) → j < faces.ny → pos 0 -ℤ next_north area height slope faces i j ≡ next_number area height slope faces i j S
  next_south_is i j l = ap (λ (x : ℤ). pos 0 -ℤ x) (skip (j == faces.ny) _ _ (grind (arith, nat_tests))) ∙ minus_twice (next_number area height slope faces i j S)

  next_north_is : (i j : ℕ) → area.ny ≡ faces.ny → j < faces.ny → next_north area height slope faces i (j + 1) ≡ next_number area height slope faces i j N
  next_north_is i j same l = elim (cases_eq (j + 1) faces.ny) [
    | inl e ↦ pick (j + 1 == faces.ny) _ _ (grind (arith, nat_tests)) ∙ ap (λ (k : ℕ). next_number area height slope faces i k N) (let e : j + 1 - 1 ≡ j = omega arith in e)
    | inr ne ↦ let other : j + 1 ≡ faces.ny → ⊥ = ne in skip (j + 1 == faces.ny) _ _ (grind (arith, nat_tests)) ∙ north_meets i j (omega arith)
  ]

-- a number after a step depends on the number before it alone
pub number_by : (area : FieldNumbers) (height : Spot → ℤ) (slope : ℕ) (faces other : FaceNumbers) (i j : ℕ) (side : Side) → outward faces i j side ≡ outward other i j side → next_number area height slope faces i j side ≡ next_number area height slope other i j side
number_by area height slope faces other i j side e =
    ap (λ (u : ℤ). if is_open area i j side then next_face slope u (height (CellAt i j)) (height (out_from area i j side 1)) else pos 0) e

-- the faces that are crossed eastward, so many of them
pub record EastTo (area : FieldNumbers) (height : Spot → ℤ) (slope : ℕ) (n : ℕ) (old new : FaceNumbers) : Type 0 where
  pub nx : new.nx ≡ old.nx
  pub ny : new.ny ≡ old.ny
  pub north : new.northward ≡ old.northward
  pub front : Front (old.nx + 1) old.ny (next_east area height slope old) n old.eastward new.eastward

pub record NorthTo (area : FieldNumbers) (height : Spot → ℤ) (slope : ℕ) (n : ℕ) (old new : FaceNumbers) : Type 0 where
  pub nx : new.nx ≡ old.nx
  pub ny : new.ny ≡ old.ny
  pub east : new.eastward ≡ old.eastward
  pub front : Front old.nx (old.ny + 1) (next_north area height slope old) n old.northward new.northward

pub minus_face : (u x : ℤ) → u ≡ x → IsFaceNumber u → read (pos 0 -ℤ read u) ≡ pos 0 -ℤ x
minus_face u x e range = omega (arith, ints, e, range.0, range.1)

pub own_face : (u x : ℤ) → u ≡ x → IsFaceNumber u → read u ≡ x
own_face u x e range = omega (arith, ints, e, range.0, range.1)

module _ (area : FieldNumbers) (height : Spot → ℤ) (slope : ℕ) (old faces : FaceNumbers) where
  pub east_by : (m n : ℕ) → m ≡ n → EastTo area height slope m old faces → EastTo area height slope n old faces
  east_by m n e to = subst (λ (k : ℕ). EastTo area height slope k old faces) e to

  -- a face that has not had its turn
  east_kept : (n i j : ℕ) → EastTo area height slope n old faces → n ≤ j * (old.nx + 1) + i → eastward_at faces i j ≡ eastward_at old i j
  east_kept n i j to le =
      (λ t. get_or faces.eastward (j * (to.nx t + 1) + i) (pos 0)) ∙ to.front.after (j * (old.nx + 1) + i) le

  pub east_more : (new : FaceNumbers) (n i j : ℕ) → EastTo area height slope n old faces → n ≡ j * (old.nx + 1) + i → i ≤ old.nx → j < old.ny → (v : ℤ) → eastward_at new i j ≡ v → new ≡ record faces { eastward = slice_set faces.eastward (j * (faces.nx + 1) + i) v } → v ≡ next_east area height slope old i j → EastTo area height slope (n + 1) old new
  east_more new n i j to place column row v there sets is =
      let nx : new.nx ≡ old.nx = ap (λ (f : FaceNumbers). f.nx) sets ∙ to.nx in
      let at_new : at new.eastward n ≡ v = (λ t. at new.eastward (place t)) ∙ (λ t. at new.eastward (j * (sym nx t + 1) + i)) ∙ there in
      let set : new.eastward ≡ slice_set faces.eastward n v = ap (λ (f : FaceNumbers). f.eastward) sets ∙ (λ t. slice_set faces.eastward (j * (to.nx t + 1) + i) v) ∙ (λ t. slice_set faces.eastward (sym place t) v) in
      record {
        nx = nx;
        ny = ap (λ (f : FaceNumbers). f.ny) sets ∙ to.ny;
        north = ap (λ (f : FaceNumbers). f.northward) sets ∙ to.north;
        front = front_more (old.nx + 1) old.ny (next_east area height slope old) old.eastward faces.eastward new.eastward i j n (omega arith) row place to.front v v set at_new is;
      }

  -- the number of a face as the cell east of it sees it, and the last one's as the cell west of it does
  pub west_value : (n i j : ℕ) → EastTo area height slope n old faces → n ≡ j * (old.nx + 1) + i → i < old.nx → pos 0 -ℤ next_number area height slope faces i j W ≡ next_east area height slope old i j
  west_value n i j to place l =
      ap (λ (x : ℤ). pos 0 -ℤ x) (number_by area height slope faces old i j W (ap (λ (x : ℤ). pos 0 -ℤ x) (east_kept n i j to (omega arith))))
      ∙ sym (other_case (i == old.nx) (next_number area height slope old (i - 1) j E) (pos 0 -ℤ next_number area height slope old i j W) (grind (arith, nat_tests)))
    where
      other_case : (b : Bool) (x y : ℤ) → b ≡ false → (if b then x else y) ≡ y
      other_case b x y e = ap (λ (a : Bool). if a then x else y) e

  pub east_value : (n i j : ℕ) → EastTo area height slope n old faces → n ≡ j * (old.nx + 1) + (i + 1) → i + 1 ≡ old.nx → next_number area height slope faces i j E ≡ next_east area height slope old (i + 1) j
  east_value n i j to place l =
      number_by area height slope faces old i j E (east_kept n (i + 1) j to (omega arith))
      ∙ ap (λ (k : ℕ). next_number area height slope old k j E) (let e : i ≡ i + 1 - 1 = omega arith in e)
      ∙ sym (one_case (i + 1 == old.nx) (next_number area height slope old (i + 1 - 1) j E) (pos 0 -ℤ next_number area height slope old (i + 1) j W) (grind (arith, nat_tests)))
    where
      one_case : (b : Bool) (x y : ℤ) → b ≡ true → (if b then x else y) ≡ x
      one_case b x y e = ap (λ (a : Bool). if a then x else y) e

  pub east_all : (n : ℕ) → old.ny * (old.nx + 1) ≤ n → EastTo area height slope n old faces → DrivesEast area height slope old faces
  east_all n all to = record {
    nx = to.nx;
    ny = to.ny;
    east = λ i j column row.
        let fits = mul-add-lt j (old.nx + 1) i old.ny row (omega arith) in
        (λ t. get_or faces.eastward (j * (to.nx t + 1) + i) (pos 0)) ∙ to.front.before i j (omega arith) row (omega arith);
    north = to.north;
  }

  pub north_by : (m n : ℕ) → m ≡ n → NorthTo area height slope m old faces → NorthTo area height slope n old faces
  north_by m n e to = subst (λ (k : ℕ). NorthTo area height slope k old faces) e to

  north_kept : (n i j : ℕ) → NorthTo area height slope n old faces → n ≤ j * old.nx + i → northward_at faces i j ≡ northward_at old i j
  north_kept n i j to le =
      (λ t. get_or faces.northward (j * to.nx t + i) (pos 0)) ∙ to.front.after (j * old.nx + i) le

  pub north_more : (new : FaceNumbers) (n i j : ℕ) → NorthTo area height slope n old faces → n ≡ j * old.nx + i → i < old.nx → j ≤ old.ny → (v : ℤ) → northward_at new i j ≡ v → new ≡ record faces { northward = slice_set faces.northward (j * faces.nx + i) v } → v ≡ next_north area height slope old i j → NorthTo area height slope (n + 1) old new
  north_more new n i j to place column row v there sets is =
      let nx : new.nx ≡ old.nx = ap (λ (f : FaceNumbers). f.nx) sets ∙ to.nx in
      let at_new : at new.northward n ≡ v = (λ t. at new.northward (place t)) ∙ (λ t. at new.northward (j * sym nx t + i)) ∙ there in
      let set : new.northward ≡ slice_set faces.northward n v = ap (λ (f : FaceNumbers). f.northward) sets ∙ (λ t. slice_set faces.northward (j * to.nx t + i) v) ∙ (λ t. slice_set faces.northward (sym place t) v) in
      record {
        nx = nx;
        ny = ap (λ (f : FaceNumbers). f.ny) sets ∙ to.ny;
        east = ap (λ (f : FaceNumbers). f.eastward) sets ∙ to.east;
        front = front_more old.nx (old.ny + 1) (next_north area height slope old) old.northward faces.northward new.northward i j n column (omega arith) place to.front v v set at_new is;
      }

  pub south_value : (n i j : ℕ) → NorthTo area height slope n old faces → n ≡ j * old.nx + i → j < old.ny → pos 0 -ℤ next_number area height slope faces i j S ≡ next_north area height slope old i j
  south_value n i j to place l =
      ap (λ (x : ℤ). pos 0 -ℤ x) (number_by area height slope faces old i j S (ap (λ (x : ℤ). pos 0 -ℤ x) (north_kept n i j to (omega arith))))
      ∙ sym (other_case (j == old.ny) (next_number area height slope old i (j - 1) N) (pos 0 -ℤ next_number area height slope old i j S) (grind (arith, nat_tests)))
    where
      other_case : (b : Bool) (x y : ℤ) → b ≡ false → (if b then x else y) ≡ y
      other_case b x y e = ap (λ (a : Bool). if a then x else y) e

  pub north_value : (n i j : ℕ) → NorthTo area height slope n old faces → n ≡ (j + 1) * old.nx + i → j + 1 ≡ old.ny → next_number area height slope faces i j N ≡ next_north area height slope old i (j + 1)
  north_value n i j to place l =
      number_by area height slope faces old i j N (north_kept n i (j + 1) to (omega arith))
      ∙ ap (λ (k : ℕ). next_number area height slope old i k N) (let e : j ≡ j + 1 - 1 = omega arith in e)
      ∙ sym (one_case (j + 1 == old.ny) (next_number area height slope old i (j + 1 - 1) N) (pos 0 -ℤ next_number area height slope old i (j + 1) S) (grind (arith, nat_tests)))
    where
      one_case : (b : Bool) (x y : ℤ) → b ≡ true → (if b then x else y) ≡ x
      one_case b x y e = ap (λ (a : Bool). if a then x else y) e

  pub north_all : (n : ℕ) → (old.ny + 1) * old.nx ≤ n → NorthTo area height slope n old faces → DrivesNorth area height slope old faces
  north_all n all to = record {
    nx = to.nx;
    ny = to.ny;
    east = to.east;
    north = λ i j column row.
        let fits = mul-add-lt j old.nx i (old.ny + 1) (omega arith) column in
        (λ t. get_or faces.northward (j * to.nx t + i) (pos 0)) ∙ to.front.before i j column (omega arith) (omega arith);
  }

-- first the one direction, then the other
pub drives_all : Odd → (area : FieldNumbers) (height : Spot → ℤ) (slope : ℕ) (old faces new : FaceNumbers) → area.nx ≡ old.nx → area.ny ≡ old.ny → DrivesEast area height slope old faces → DrivesNorth area height slope faces new → Drives area height slope old new
drives_all odd area height slope old faces new columns rows east north = record {
  nx = north.nx ∙ east.nx;
  ny = north.ny ∙ east.ny;
  each = side_of;
}
  where
    eastward_same : (i j : ℕ) → eastward_at new i j ≡ eastward_at faces i j
    eastward_same i j = λ t. get_or (north.east t) (j * (north.nx t + 1) + i) (pos 0)

    northward_same : (i j : ℕ) → northward_at faces i j ≡ northward_at old i j
    northward_same i j = λ t. get_or (east.north t) (j * east.nx t + i) (pos 0)

    side_of : (i j : ℕ) (side : Side) → i < old.nx → j < old.ny → outward new i j side ≡ next_number area height slope old i j side
    side_of i j W column row =
        ap (λ (x : ℤ). pos 0 -ℤ x) (eastward_same i j ∙ east.east i j (omega arith) row) ∙ next_west_is odd area height slope old i j column
    side_of i j E column row = eastward_same (i + 1) j ∙ east.east (i + 1) j (omega arith) row ∙ next_east_is odd area height slope old i j columns column
    side_of i j S column row =
        let nx = east.nx in
        let ny = east.ny in
        ap (λ (x : ℤ). pos 0 -ℤ x) (north.north i j (omega arith) (omega arith)) ∙ next_south_is odd area height slope faces i j (omega arith)
        ∙ number_by area height slope faces old i j S (ap (λ (x : ℤ). pos 0 -ℤ x) (northward_same i j))
    side_of i j N column row =
        let nx = east.nx in
        let ny = east.ny in
        north.north i (j + 1) (omega arith) (omega arith) ∙ next_north_is odd area height slope faces i j (rows ∙ sym ny) (omega arith)
        ∙ number_by area height slope faces old i j N (northward_same i (j + 1))
