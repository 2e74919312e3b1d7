-- What crosses the faces of a piece, from either side.
use Rattle.std.proofs.Common.{◌≡◌, ◌≢◌, ◌∙◌, refl, sym, ap, subst, ℕ, ◌+◌, ◌-◌, ◌*◌, ◌<◌, ◌≤◌, arith, Bool, true, false, eqb, List, length, slice_set, get_or, get_or-set_same, get_or-set_other, Some, None}
use Rattle.std.specs.Prelude.{ℤ, pos, ◌-ℤ◌, All, IfSome, if◌then◌else◌}
use Rattle.std.proofs.lemmas.Int.{ints}
use Rattle.std.proofs.lemmas.Bool.{eqb-true, eqb-false}
use Rattle.std.proofs.lemmas.List.{get_or_read}
use Rattle.std.proofs.lemmas.List.Elements.{All-get_or}
use Rattle.std.proofs.lemmas.Nat.{mul-add-lt, same_from_place}
use Rattle.cpl_mosaic.specs.declared.parts.Side.{Side}
use Rattle.cpl_mosaic.specs.declared.parts.Side.TheVariants.{W, E, S, N}
use Rattle.cpl_field.specs.Crossings.{FaceNumbers, SideAt, IsSideOf, IsFaceNumber, AreFaces, SetsSide, eastward_at, northward_at, outward, outward_at, inner_mate}

-- a list of rows after one number is written: w numbers in each of h rows
record Written (list : List ℤ) (w h : ℕ) (x y : ℕ) (v : ℤ) (n : ℕ) : Type 0 where
  pub there : get_or (slice_set list n v) (y * w + x) (pos 0) ≡ v
  pub others : (a b : ℕ) → a < w → b < h → (a ≡ x → b ≡ y → ⊥) → get_or (slice_set list n v) (b * w + a) (pos 0) ≡ get_or list (b * w + a) (pos 0)

written : (list : List ℤ) (w h x y : ℕ) → length list ≡ w * h → x < w → y < h → (v : ℤ) (n : ℕ) → n ≡ y * w + x → Written list w h x y v n
written list w h x y count column row v n e = record {
  there = let P : ℕ → Type 0 = λ m. get_or (slice_set list n v) m (pos 0) ≡ v in subst P e (get_or-set_same list n v (pos 0) (let below = mul-add-lt y w x h row column in omega arith));
  others = λ a b l k apart. get_or-set_other list n (b * w + a) v (pos 0) (λ same. let place = same_from_place b a y x w l column (same ∙ e) in apart place.1 place.0);
}

abbrev pub with_eastward : FaceNumbers → List ℤ → FaceNumbers
with_eastward f list = record { nx = f.nx; ny = f.ny; eastward = list; northward = f.northward }

abbrev pub with_northward : FaceNumbers → List ℤ → FaceNumbers
with_northward f list = record { nx = f.nx; ny = f.ny; eastward = f.eastward; northward = list }

abbrev pub at : ℕ → ℕ → Side → SideAt
at i j side = record { i = i; j = j; side = side }

same_side : (i j k l : ℕ) (side : Side) → i ≡ k → j ≡ l → at i j side ≡ at k l side
same_side i j k l side e f = λ t. record { i = e t; j = f t; side = side }

-- the inner mate, where there is one
chosen : (b : Bool) (i k : ℕ) → eqb i k ≡ b → i ≢ k → (a : SideAt) → (if b then None else Some a) ≡ Some a
chosen true i k e apart a = absurd (apart (eqb-true i k e))
chosen false i k e apart a = refl

west_mate : (f : FaceNumbers) (i j k : ℕ) → k + 1 ≡ i → inner_mate f (at i j W) ≡ Some (at k j E)
west_mate f i j k e = chosen (eqb i 0) i 0 refl (λ z. absurd (omega arith)) (at (i - 1) j E) ∙ ap (λ m. Some (at m j E)) (omega arith)

east_mate : (f : FaceNumbers) (i j : ℕ) → i + 1 < f.nx → inner_mate f (at i j E) ≡ Some (at (i + 1) j W)
east_mate f i j l = chosen (eqb (i + 1) f.nx) (i + 1) f.nx refl (λ z. absurd (omega arith)) (at (i + 1) j W)

south_mate : (f : FaceNumbers) (i j k : ℕ) → k + 1 ≡ j → inner_mate f (at i j S) ≡ Some (at i k N)
south_mate f i j k e = chosen (eqb j 0) j 0 refl (λ z. absurd (omega arith)) (at i (j - 1) N) ∙ ap (λ m. Some (at i m N)) (omega arith)

north_mate : (f : FaceNumbers) (i j : ℕ) → j + 1 < f.ny → inner_mate f (at i j N) ≡ Some (at i (j + 1) S)
north_mate f i j l = chosen (eqb (j + 1) f.ny) (j + 1) f.ny refl (λ z. absurd (omega arith)) (at i (j + 1) S)

-- a fact of the inner mate, where there is one
of_mate : (P : SideAt → Type 0) (b : Bool) (i k : ℕ) → eqb i k ≡ b → (a : SideAt) → (i ≢ k → P a) → IfSome (if b then None else Some a) P
of_mate P true i k e a holds = tt
of_mate P false i k e a holds = holds (eqb-false i k e)

-- seen from the other side it is the negative
pub mates_agree : (f : FaceNumbers) (i j : ℕ) (side : Side) → i < f.nx → j < f.ny → IfSome (inner_mate f (at i j side)) (λ b. outward_at f b ≡ pos 0 -ℤ outward f i j side)
mates_agree f i j W column row = of_mate (λ b. outward_at f b ≡ pos 0 -ℤ outward f i j W) (eqb i 0) i 0 refl (at (i - 1) j E) (λ some. let e : eastward_at f (i - 1 + 1) j ≡ eastward_at f i j = ap (λ m. eastward_at f m j) (omega arith) in omega (arith, ints))
mates_agree f i j E column row = of_mate (λ b. outward_at f b ≡ pos 0 -ℤ outward f i j E) (eqb (i + 1) f.nx) (i + 1) f.nx refl (at (i + 1) j W) (λ some. refl)
mates_agree f i j S column row = of_mate (λ b. outward_at f b ≡ pos 0 -ℤ outward f i j S) (eqb j 0) j 0 refl (at i (j - 1) N) (λ some. let e : northward_at f i (j - 1 + 1) ≡ northward_at f i j = ap (λ m. northward_at f i m) (omega arith) in omega (arith, ints))
mates_agree f i j N column row = of_mate (λ b. outward_at f b ≡ pos 0 -ℤ outward f i j N) (eqb (j + 1) f.ny) (j + 1) f.ny refl (at i (j + 1) S) (λ some. refl)

-- what a list of faces gets from one written number, where the field of faces has two names
west_set : (f : FaceNumbers) → AreFaces f → (i j : ℕ) → i < f.nx → j < f.ny → (x v : ℤ) (n : ℕ) → n ≡ j * (f.nx + 1) + i → v ≡ pos 0 -ℤ x → SetsSide f (with_eastward f (slice_set f.eastward n v)) (at i j W) x
west_set f are i j column row x v n e is =
    let new = with_eastward f (slice_set f.eastward n v) in
    let w = written f.eastward (f.nx + 1) f.ny i j are.eastward (omega arith) row v n e in
    let there = w.there in
    record {
      nx = refl;
      ny = refl;
      there = omega (arith, ints);
      mate = of_mate (λ b. outward_at new b ≡ pos 0 -ℤ x) (eqb i 0) i 0 refl (at (i - 1) j E) (λ some. let k : eastward_at new (i - 1 + 1) j ≡ eastward_at new i j = ap (λ m. eastward_at new m j) (omega arith) in k ∙ there ∙ is);
      others = λ b on apart not_mate. keeps b.i b.j b.side on.column on.row apart not_mate;
    } where
      keeps : (k l : ℕ) (side : Side) → k < f.nx → l < f.ny → at k l side ≢ at i j W → inner_mate f (at i j W) ≢ Some (at k l side) → outward (with_eastward f (slice_set f.eastward n v)) k l side ≡ outward f k l side
      keeps k l W a b apart not_mate = ap (λ y. pos 0 -ℤ y) ((written f.eastward (f.nx + 1) f.ny i j are.eastward (omega arith) row v n e).others k l (omega arith) b (λ p q. apart (same_side k l i j W p q)))
      keeps k l E a b apart not_mate = (written f.eastward (f.nx + 1) f.ny i j are.eastward (omega arith) row v n e).others (k + 1) l (omega arith) b (λ p q. not_mate (west_mate f i j k p ∙ ap (λ m. Some (at k m E)) (sym q)))
      keeps k l S a b apart not_mate = refl
      keeps k l N a b apart not_mate = refl

east_set : (f : FaceNumbers) → AreFaces f → (i j : ℕ) → i < f.nx → j < f.ny → (x v : ℤ) (n : ℕ) → n ≡ j * (f.nx + 1) + (i + 1) → v ≡ x → SetsSide f (with_eastward f (slice_set f.eastward n v)) (at i j E) x
east_set f are i j column row x v n e is =
    let new = with_eastward f (slice_set f.eastward n v) in
    let w = written f.eastward (f.nx + 1) f.ny (i + 1) j are.eastward (omega arith) row v n e in
    let there = w.there in
    record {
      nx = refl;
      ny = refl;
      there = there ∙ is;
      mate = of_mate (λ b. outward_at new b ≡ pos 0 -ℤ x) (eqb (i + 1) f.nx) (i + 1) f.nx refl (at (i + 1) j W) (λ some. ap (λ y. pos 0 -ℤ y) (there ∙ is));
      others = λ b on apart not_mate. keeps b.i b.j b.side on.column on.row apart not_mate;
    } where
      keeps : (k l : ℕ) (side : Side) → k < f.nx → l < f.ny → at k l side ≢ at i j E → inner_mate f (at i j E) ≢ Some (at k l side) → outward (with_eastward f (slice_set f.eastward n v)) k l side ≡ outward f k l side
      keeps k l W a b apart not_mate = ap (λ y. pos 0 -ℤ y) ((written f.eastward (f.nx + 1) f.ny (i + 1) j are.eastward (omega arith) row v n e).others k l (omega arith) b (λ p q. not_mate (east_mate f i j (omega arith) ∙ (λ t. Some (at (sym p t) (sym q t) W)))))
      keeps k l E a b apart not_mate = (written f.eastward (f.nx + 1) f.ny (i + 1) j are.eastward (omega arith) row v n e).others (k + 1) l (omega arith) b (λ p q. apart (same_side k l i j E (omega arith) q))
      keeps k l S a b apart not_mate = refl
      keeps k l N a b apart not_mate = refl

south_set : (f : FaceNumbers) → AreFaces f → (i j : ℕ) → i < f.nx → j < f.ny → (x v : ℤ) (n : ℕ) → n ≡ j * f.nx + i → v ≡ pos 0 -ℤ x → SetsSide f (with_northward f (slice_set f.northward n v)) (at i j S) x
south_set f are i j column row x v n e is =
    let new = with_northward f (slice_set f.northward n v) in
    let w = written f.northward f.nx (f.ny + 1) i j are.northward column (omega arith) v n e in
    let there = w.there in
    record {
      nx = refl;
      ny = refl;
      there = omega (arith, ints);
      mate = of_mate (λ b. outward_at new b ≡ pos 0 -ℤ x) (eqb j 0) j 0 refl (at i (j - 1) N) (λ some. let k : northward_at new i (j - 1 + 1) ≡ northward_at new i j = ap (λ m. northward_at new i m) (omega arith) in k ∙ there ∙ is);
      others = λ b on apart not_mate. keeps b.i b.j b.side on.column on.row apart not_mate;
    } where
      keeps : (k l : ℕ) (side : Side) → k < f.nx → l < f.ny → at k l side ≢ at i j S → inner_mate f (at i j S) ≢ Some (at k l side) → outward (with_northward f (slice_set f.northward n v)) k l side ≡ outward f k l side
      keeps k l W a b apart not_mate = refl
      keeps k l E a b apart not_mate = refl
      keeps k l S a b apart not_mate = ap (λ y. pos 0 -ℤ y) ((written f.northward f.nx (f.ny + 1) i j are.northward column (omega arith) v n e).others k l a (omega arith) (λ p q. apart (same_side k l i j S p q)))
      keeps k l N a b apart not_mate = (written f.northward f.nx (f.ny + 1) i j are.northward column (omega arith) v n e).others k (l + 1) a (omega arith) (λ p q. not_mate (south_mate f i j l q ∙ ap (λ m. Some (at m l N)) (sym p)))

north_set : (f : FaceNumbers) → AreFaces f → (i j : ℕ) → i < f.nx → j < f.ny → (x v : ℤ) (n : ℕ) → n ≡ (j + 1) * f.nx + i → v ≡ x → SetsSide f (with_northward f (slice_set f.northward n v)) (at i j N) x
north_set f are i j column row x v n e is =
    let new = with_northward f (slice_set f.northward n v) in
    let w = written f.northward f.nx (f.ny + 1) i (j + 1) are.northward column (omega arith) v n e in
    let there = w.there in
    record {
      nx = refl;
      ny = refl;
      there = there ∙ is;
      mate = of_mate (λ b. outward_at new b ≡ pos 0 -ℤ x) (eqb (j + 1) f.ny) (j + 1) f.ny refl (at i (j + 1) S) (λ some. ap (λ y. pos 0 -ℤ y) (there ∙ is));
      others = λ b on apart not_mate. keeps b.i b.j b.side on.column on.row apart not_mate;
    } where
      keeps : (k l : ℕ) (side : Side) → k < f.nx → l < f.ny → at k l side ≢ at i j N → inner_mate f (at i j N) ≢ Some (at k l side) → outward (with_northward f (slice_set f.northward n v)) k l side ≡ outward f k l side
      keeps k l W a b apart not_mate = refl
      keeps k l E a b apart not_mate = refl
      keeps k l S a b apart not_mate = ap (λ y. pos 0 -ℤ y) ((written f.northward f.nx (f.ny + 1) i (j + 1) are.northward column (omega arith) v n e).others k l a (omega arith) (λ p q. not_mate (north_mate f i j (omega arith) ∙ (λ t. Some (at (sym p t) (sym q t) S)))))
      keeps k l N a b apart not_mate = (written f.northward f.nx (f.ny + 1) i (j + 1) are.northward column (omega arith) v n e).others k (l + 1) a (omega arith) (λ p q. apart (same_side k l i j N p (omega arith)))

-- a write to a face, by the side of a cell that it is written through
module _ (f g : FaceNumbers) (are : AreFaces f) (same : f ≡ g) (i j : ℕ) (x : ℤ) (side : Side) (on : IsSideOf g (at i j side)) where
  inside : IsSideOf f (at i j side)
  inside = subst (λ (h : FaceNumbers). IsSideOf h (at i j side)) (sym same) on

  seen : (known : Side) (new : FaceNumbers) → side ≡ known → SetsSide f new (at i j known) x → SetsSide g new (at i j side) x
  seen known new e sets = subst (λ (s : Side). SetsSide g new (at i j s) x) (sym e) (subst (λ (h : FaceNumbers). SetsSide h new (at i j known) x) same sets)

  pub west_by : side ≡ W → (v : ℤ) (n : ℕ) → n ≡ j * (f.nx + 1) + i → v ≡ pos 0 -ℤ x → SetsSide g (with_eastward f (slice_set f.eastward n v)) (at i j side) x
  west_by is v n e value = seen W (with_eastward f (slice_set f.eastward n v)) is (west_set f are i j inside.column inside.row x v n e value)

  pub east_by : side ≡ E → (v : ℤ) (n : ℕ) → n ≡ j * (f.nx + 1) + (i + 1) → v ≡ x → SetsSide g (with_eastward f (slice_set f.eastward n v)) (at i j side) x
  east_by is v n e value = seen E (with_eastward f (slice_set f.eastward n v)) is (east_set f are i j inside.column inside.row x v n e value)

  pub south_by : side ≡ S → (v : ℤ) (n : ℕ) → n ≡ j * f.nx + i → v ≡ pos 0 -ℤ x → SetsSide g (with_northward f (slice_set f.northward n v)) (at i j side) x
  south_by is v n e value = seen S (with_northward f (slice_set f.northward n v)) is (south_set f are i j inside.column inside.row x v n e value)

  pub north_by : side ≡ N → (v : ℤ) (n : ℕ) → n ≡ (j + 1) * f.nx + i → v ≡ x → SetsSide g (with_northward f (slice_set f.northward n v)) (at i j side) x
  north_by is v n e value = seen N (with_northward f (slice_set f.northward n v)) is (north_set f are i j inside.column inside.row x v n e value)

-- what a place of a list holds: a face's number
read : (list : List ℤ) (w h x y : ℕ) → length list ≡ w * h → All IsFaceNumber list → x < w → y < h → (n : ℕ) → n ≡ y * w + x → (v : ℤ) → v ≡ get_or list n v → IsFaceNumber v × (v ≡ get_or list (y * w + x) (pos 0))
read list w h x y count all column row n e v is =
    let below = mul-add-lt y w x h row column in
    let within : n < length list = omega arith in
    (subst IsFaceNumber (sym is) (All-get_or IsFaceNumber list n v within all), get_or_read list n v within is (pos 0) ∙ ap (λ m. get_or list m (pos 0)) e)

pub read_east : (f g : FaceNumbers) → AreFaces f → f ≡ g → (i j : ℕ) → i ≤ g.nx → j < g.ny → (n : ℕ) → n ≡ j * (f.nx + 1) + i → (v : ℤ) → v ≡ get_or f.eastward n v → IsFaceNumber v × (v ≡ eastward_at g i j)
read_east f g are same i j column row n e v is =
    let nx = ap (λ (h : FaceNumbers). h.nx) same in
    let ny = ap (λ (h : FaceNumbers). h.ny) same in
    let found = read f.eastward (f.nx + 1) f.ny i j are.eastward are.east (omega arith) (omega arith) n e v is in
    (found.0, found.1 ∙ ap (λ (h : FaceNumbers). eastward_at h i j) same)

pub read_north : (f g : FaceNumbers) → AreFaces f → f ≡ g → (i j : ℕ) → i < g.nx → j ≤ g.ny → (n : ℕ) → n ≡ j * f.nx + i → (v : ℤ) → v ≡ get_or f.northward n v → IsFaceNumber v × (v ≡ northward_at g i j)
read_north f g are same i j column row n e v is =
    let nx = ap (λ (h : FaceNumbers). h.nx) same in
    let ny = ap (λ (h : FaceNumbers). h.ny) same in
    let found = read f.northward f.nx (f.ny + 1) i j are.northward are.north (omega arith) (omega arith) n e v is in
    (found.0, found.1 ∙ ap (λ (h : FaceNumbers). northward_at h i j) same)

-- all that is told of a side, where it is known which side it is
pub record Tells (g : FaceNumbers) (i j : ℕ) (side : Side) (x : ℤ) : Type 0 where
  pub value : x ≡ outward_at g (at i j side)
  pub range : IsFaceNumber x
  pub mate : IfSome (inner_mate g (at i j side)) (λ b. outward_at g b ≡ pos 0 -ℤ x)

pub told : (g : FaceNumbers) (i j : ℕ) (known side : Side) → side ≡ known → (x : ℤ) → IsSideOf g (at i j side) → IsFaceNumber x → x ≡ outward_at g (at i j known) → Tells g i j side x
told g i j known side e x on range is =
    let value : x ≡ outward_at g (at i j side) = is ∙ ap (λ (s : Side). outward_at g (at i j s)) (sym e) in
    let P : ℤ → Type 0 = λ y. IfSome (inner_mate g (at i j side)) (λ b. outward_at g b ≡ pos 0 -ℤ y) in
    record { value = value; range = range; mate = subst P (sym value) (mates_agree g i j side on.column on.row) }
