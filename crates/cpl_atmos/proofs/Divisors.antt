-- The divisors of faces.
use Rattle.std.proofs.Common.{◌≡◌, ◌∙◌, refl, sym, ap, subst, ℕ, ◌+◌, ◌*◌, ◌/◌, ◌%◌, ◌^◌, ◌<◌, ◌≤◌, arith, inl, inr, List, [], ◌∷◌, ◌++◌, length, get_or, to_z, of_z, w64}
use Rattle.std.proofs.Math.Nat.{mul_comm}
use Rattle.std.proofs.lemmas.Bool.{cases_eq}
use Rattle.std.proofs.lemmas.List.{get_or_read, get_or_append_left, get_or_push, length_push}
use Rattle.std.specs.Prelude.{ℤ, pos, ◌+ℤ◌, ◌*ℤ◌, ◌<ℤ◌, ◌≤ℤ◌, unsigned_abs}
use Rattle.std.proofs.lemmas.Int.{ints}
use Rattle.std.proofs.lemmas.Nat.{div-mul-add, mod-mul-add, mul-add-lt, div_below}
use Rattle.cpl_mosaic.specs.declared.parts.Side.{Side}
use Rattle.cpl_mosaic.specs.declared.parts.Side.TheVariants.{W, E, S, N}
use Rattle.cpl_fixed.specs.Flows.{face_divisor}
use Rattle.cpl_fixed.specs.Reciprocals.{reciprocal_of}
use Rattle.cpl_fixed.specs.declared.flow.FaceDivisor.{FaceDivisor}
use Rattle.cpl_field.specs.Spots.{FieldNumbers, CellAt, IsSpot, stored, number_at, out_from}
use Rattle.cpl_atmos.specs.Faces.{IsDivisor, divisor_at, AreEastward, AreNorthward, AreKept}
use Rattle.cpl_atmos.specs.Sweeps.{AreAirAreas}
use Rattle.cpl_atmos.proofs.Stored.{stored_by, in_row, in_column, cell_is, out_west, out_east, out_south, out_north}

face_divisor_turned : (a b : ℤ) → face_divisor a b ≡ face_divisor b a
face_divisor_turned a b = let e : (a +ℤ b) ≡ (b +ℤ a) = omega (arith, ints) in ap (λ s. let d : FaceDivisor = record { reciprocal = reciprocal_of (unsigned_abs (pos 8 *ℤ s)) } in d) e

-- a face seen from its other side
pub divisor_turned : (d : FaceDivisor) (a b : ℤ) → IsDivisor d a b → IsDivisor d b a
divisor_turned d a b is some other = is other some ∙ face_divisor_turned a b

-- an i64 as a call is passed it
abbrev pub wide : ℤ → ℤ
wide v = to_z w64 (of_z w64 v)

-- the row of a place
pub row_of_place : (n w h : ℕ) → 0 < w → n < w * h → n / w < h
row_of_place n w h some below = div_below n w h some (subst (λ m. n < m) (mul_comm w h) below)

-- an area that a row of cells holds
pub area_in_row : (area : FieldNumbers) → area.width ≡ 1 → AreAirAreas area → (row : List ℤ) (j c : ℕ) → get_or row c (pos 0) ≡ stored area (j + 1) c → j < area.ny → c ≤ area.nx + 1 → (wide (get_or row c (pos 0)) ≡ stored area (j + 1) c) × (wide (get_or row c (pos 0)) ≤ℤ pos (2 ^ 40))
area_in_row area narrow areas row j c read below within =
    let least = in_row area narrow (λ v. pos 0 ≤ℤ v) areas.least j c below within in
    let most = in_row area narrow (λ v. v ≤ℤ pos (2 ^ 40)) areas.most j c below within in
    (omega (arith, ints), omega (arith, ints))

-- and one that a column of cells holds
pub area_in_column : (area : FieldNumbers) → area.width ≡ 1 → AreAirAreas area → (row : List ℤ) (r i : ℕ) → get_or row (i + 1) (pos 0) ≡ stored area r (i + 1) → r ≤ area.ny + 1 → i < area.nx → (wide (get_or row (i + 1) (pos 0)) ≡ stored area r (i + 1)) × (wide (get_or row (i + 1) (pos 0)) ≤ℤ pos (2 ^ 40))
area_in_column area narrow areas row r i read below within =
    let least = in_column area narrow (λ v. pos 0 ≤ℤ v) areas.least r i below within in
    let most = in_column area narrow (λ v. v ≤ℤ pos (2 ^ 40)) areas.most r i below within in
    (omega (arith, ints), omega (arith, ints))

-- the faces of the first n places
pub record EastwardTo (area : FieldNumbers) (nx : ℕ) (faces : List FaceDivisor) (n : ℕ) : Type 0 where
  pub count : length faces ≡ n
  pub each : (k : ℕ) → k < n → IsDivisor (divisor_at faces k) (stored area (k / (nx + 1) + 1) (k % (nx + 1))) (stored area (k / (nx + 1) + 1) (k % (nx + 1) + 1))

pub record NorthwardTo (area : FieldNumbers) (nx : ℕ) (faces : List FaceDivisor) (n : ℕ) : Type 0 where
  pub count : length faces ≡ n
  pub each : (k : ℕ) → k < n → IsDivisor (divisor_at faces k) (stored area (k / nx) (k % nx + 1)) (stored area (k / nx + 1) (k % nx + 1))

-- one more place, in whatever list the divisors were pushed to
pushed : (faces new : List FaceDivisor) (d : FaceDivisor) (n k : ℕ) → length faces ≡ n → new ≡ faces ++ d ∷ [] → k < n → divisor_at new k ≡ divisor_at faces k
pushed faces new d n k count e below = ap (λ list. divisor_at list k) e ∙ get_or_append_left faces (d ∷ []) (record { reciprocal = 0 }) k (omega arith)

last : (faces new : List FaceDivisor) (d : FaceDivisor) (n : ℕ) → length faces ≡ n → new ≡ faces ++ d ∷ [] → divisor_at new n ≡ d
last faces new d n count e = ap (λ list. divisor_at list n) e ∙ get_or_push faces d (record { reciprocal = 0 }) n count

length_more : (faces new : List FaceDivisor) (d : FaceDivisor) (n : ℕ) → length faces ≡ n → new ≡ faces ++ d ∷ [] → length new ≡ n + 1
length_more faces new d n count e = ap (λ (list : List FaceDivisor). length list) e ∙ length_push faces d ∙ ap (λ m. m + 1) count

divisor_same : (d e : FaceDivisor) (a b p q : ℤ) → d ≡ e → p ≡ a → q ≡ b → IsDivisor e p q → IsDivisor d a b
divisor_same d e a b p q same f g is some other =
    let first : pos 0 <ℤ p = omega (arith, ints) in
    let second : pos 0 <ℤ q = omega (arith, ints) in
    same ∙ is first second ∙ (λ t. face_divisor (f t) (g t))

pub eastward_more : (area : FieldNumbers) (nx : ℕ) (faces new : List FaceDivisor) (n : ℕ) (d : FaceDivisor) (p q : ℤ) → EastwardTo area nx faces n → new ≡ faces ++ d ∷ [] → IsDivisor d p q → p ≡ stored area (n / (nx + 1) + 1) (n % (nx + 1)) → q ≡ stored area (n / (nx + 1) + 1) (n % (nx + 1) + 1) → EastwardTo area nx new (n + 1)
eastward_more area nx faces new n d p q to e is f g = record {
  count = length_more faces new d n to.count e;
  each = λ k l. elim (cases_eq k n) [
    | inl same ↦
        let P : ℕ → Type 0 = λ m. IsDivisor (divisor_at new m) (stored area (m / (nx + 1) + 1) (m % (nx + 1))) (stored area (m / (nx + 1) + 1) (m % (nx + 1) + 1)) in
        subst P (sym same) (divisor_same (divisor_at new n) d _ _ p q (last faces new d n to.count e) f g is)
    | inr ne ↦ divisor_same (divisor_at new k) (divisor_at faces k) _ _ _ _ (pushed faces new d n k to.count e (omega arith)) refl refl (to.each k (omega arith))
  ];
}

pub northward_more : (area : FieldNumbers) (nx : ℕ) (faces new : List FaceDivisor) (n : ℕ) (d : FaceDivisor) (p q : ℤ) → NorthwardTo area nx faces n → new ≡ faces ++ d ∷ [] → IsDivisor d p q → p ≡ stored area (n / nx) (n % nx + 1) → q ≡ stored area (n / nx + 1) (n % nx + 1) → NorthwardTo area nx new (n + 1)
northward_more area nx faces new n d p q to e is f g = record {
  count = length_more faces new d n to.count e;
  each = λ k l. elim (cases_eq k n) [
    | inl same ↦
        let P : ℕ → Type 0 = λ m. IsDivisor (divisor_at new m) (stored area (m / nx) (m % nx + 1)) (stored area (m / nx + 1) (m % nx + 1)) in
        subst P (sym same) (divisor_same (divisor_at new n) d _ _ p q (last faces new d n to.count e) f g is)
    | inr ne ↦ divisor_same (divisor_at new k) (divisor_at faces k) _ _ _ _ (pushed faces new d n k to.count e (omega arith)) refl refl (to.each k (omega arith))
  ];
}

pub eastward_all : (area : FieldNumbers) (nx ny : ℕ) (faces : List FaceDivisor) (n : ℕ) → area.nx ≡ nx → area.ny ≡ ny → n ≡ (nx + 1) * ny → EastwardTo area nx faces n → AreEastward area faces
eastward_all area nx ny faces n columns rows whole to = record {
  count = to.count ∙ whole ∙ (λ t. (sym columns t + 1) * sym rows t);
  each = λ i j column row.
      let k = j * (area.nx + 1) + i in
      let w = nx + 1 in
      let P : ℕ → ℕ → Type 0 = λ q r. IsDivisor (divisor_at faces k) (stored area (q + 1) r) (stored area (q + 1) (r + 1)) in
      let same : k ≡ j * w + i = ap (λ m. j * (m + 1) + i) columns in
      let q : k / w ≡ j = ap (λ m. m / w) same ∙ div-mul-add j w i (omega arith) in
      let r : k % w ≡ i = ap (λ m. m % w) same ∙ mod-mul-add j w i (omega arith) in
      subst (P j) r (subst (λ m. P m (k % w)) q (to.each k (let below = mul-add-lt j w i ny (omega arith) (omega arith) in omega arith)));
}

pub northward_all : (area : FieldNumbers) (nx ny : ℕ) (faces : List FaceDivisor) (n : ℕ) → area.nx ≡ nx → area.ny ≡ ny → n ≡ nx * (ny + 1) → NorthwardTo area nx faces n → AreNorthward area faces
northward_all area nx ny faces n columns rows whole to = record {
  count = to.count ∙ whole ∙ (λ t. sym columns t * (sym rows t + 1));
  each = λ i j column row.
      let k = j * area.nx + i in
      let P : ℕ → ℕ → Type 0 = λ q r. IsDivisor (divisor_at faces k) (stored area q (r + 1)) (stored area (q + 1) (r + 1)) in
      let same : k ≡ j * nx + i = ap (λ m. j * m + i) columns in
      let q : k / nx ≡ j = ap (λ m. m / nx) same ∙ div-mul-add j nx i (omega arith) in
      let r : k % nx ≡ i = ap (λ m. m % nx) same ∙ mod-mul-add j nx i (omega arith) in
      subst (P j) r (subst (λ m. P m (k % nx)) q (to.each k (let below = mul-add-lt j nx i (ny + 1) (omega arith) (omega arith) in omega arith)));
}

-- the divisor of the face through each side of a cell
module _ (nx ny : ℕ) (area : FieldNumbers) (east north : List FaceDivisor) (kept : AreKept nx ny area east north) (i j : ℕ) (on : IsSpot area (CellAt i j)) (side : Side) (d : FaceDivisor) where
  abbrev IsOurs : Type 0
  IsOurs = IsDivisor d (number_at area (CellAt i j)) (number_at area (out_from area i j side 1))

  toward : (known : Side) → side ≡ known → IsDivisor d (number_at area (CellAt i j)) (number_at area (out_from area i j known 1)) → IsOurs
  toward known e = subst (λ (s : Side). IsDivisor d (number_at area (CellAt i j)) (number_at area (out_from area i j s 1))) (sym e)

  read : (faces : List FaceDivisor) (n m : ℕ) → n < length faces → d ≡ get_or faces n d → n ≡ m → d ≡ divisor_at faces m
  read faces n m below is same = get_or_read faces n d below is (record { reciprocal = 0 }) ∙ ap (divisor_at faces) same

  pub through_west : side ≡ W → d ≡ get_or east (j * (nx + 1) + i) d → IsOurs
  through_west e is =
      let n = j * (nx + 1) + i in
      let cell = cell_is area kept.width i j in
      let out = out_west area kept.width i j on in
      let at : n ≡ j * (area.nx + 1) + i = ap (λ m. j * (m + 1) + i) (sym kept.columns) in
      let count = kept.east.count in
      let row = mul-add-lt j (area.nx + 1) i area.ny (omega arith) (omega arith) in
      let below : n < length east = omega arith in
      toward W e (divisor_turned d _ _ (divisor_same d _ _ _ _ _ (read east n _ below is at) (sym out) (sym cell) (kept.east.each i j (omega arith) (omega arith))))

  pub through_east : side ≡ E → d ≡ get_or east (j * (nx + 1) + i + 1) d → IsOurs
  through_east e is =
      let n = j * (nx + 1) + i + 1 in
      let cell = cell_is area kept.width i j in
      let out = out_east area kept.width i j on in
      let columns = kept.columns in
      let at : n ≡ j * (area.nx + 1) + (i + 1) = omega arith ∙ ap (λ m. j * (m + 1) + (i + 1)) (sym columns) in
      let count = kept.east.count in
      let row = mul-add-lt j (area.nx + 1) (i + 1) area.ny (omega arith) (omega arith) in
      let below : n < length east = omega arith in
      toward E e (divisor_same d _ _ _ _ _ (read east n _ below is at) (sym cell) (stored_by area (j + 1) (i + 1 + 1) (j + 1) (i + 2) refl (omega arith) ∙ sym out) (kept.east.each (i + 1) j (omega arith) (omega arith)))

  pub through_south : side ≡ S → d ≡ get_or north (j * nx + i) d → IsOurs
  through_south e is =
      let n = j * nx + i in
      let cell = cell_is area kept.width i j in
      let out = out_south area kept.width i j on in
      let at : n ≡ j * area.nx + i = ap (λ m. j * m + i) (sym kept.columns) in
      let count = kept.north.count in
      let row = mul-add-lt j area.nx i (area.ny + 1) (omega arith) (omega arith) in
      let below : n < length north = omega arith in
      toward S e (divisor_turned d _ _ (divisor_same d _ _ _ _ _ (read north n _ below is at) (sym out) (sym cell) (kept.north.each i j (omega arith) (omega arith))))

  pub through_north : side ≡ N → d ≡ get_or north ((j + 1) * nx + i) d → IsOurs
  through_north e is =
      let n = (j + 1) * nx + i in
      let cell = cell_is area kept.width i j in
      let out = out_north area kept.width i j on in
      let at : n ≡ (j + 1) * area.nx + i = ap (λ m. (j + 1) * m + i) (sym kept.columns) in
      let count = kept.north.count in
      let row = mul-add-lt (j + 1) area.nx i (area.ny + 1) (omega arith) (omega arith) in
      let below : n < length north = omega arith in
      toward N e (divisor_same d _ _ _ _ _ (read north n _ below is at) (sym cell) (stored_by area (j + 1 + 1) (i + 1) (j + 2) (i + 1) (omega arith) refl ∙ sym out) (kept.north.each i (j + 1) (omega arith) (omega arith)))

-- what is kept of a piece's areas, where they have two names
pub record HasAreas (nx ny : ℕ) (area : FieldNumbers) : Type 0 where
  pub columns : area.nx ≡ nx
  pub rows : area.ny ≡ ny
  pub narrow : area.width ≡ 1
  pub areas : AreAirAreas area

pub kept_by : (nx ny : ℕ) (area now : FieldNumbers) (east north : List FaceDivisor) → AreKept nx ny area east north → area ≡ now → HasAreas nx ny now
kept_by nx ny area now east north kept same = subst (HasAreas nx ny) same (record { columns = kept.columns; rows = kept.rows; narrow = kept.width; areas = kept.areas })
