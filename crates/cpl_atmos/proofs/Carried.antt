-- Flows between the cells of a piece.
use Rattle.std.proofs.Common.{◌≡◌, ◌∙◌, refl, sym, ap, subst, ℕ, ◌+◌, ◌-◌, ◌*◌, ◌<◌, ◌≤◌, arith, inl, inr, Bool, true, false, List, length, get_or, slice_set, get_or-set_same, get_or-set_other, to_z, of_z, w64}
use Rattle.std.specs.Prelude.{ℤ, pos, ◌+ℤ◌, ◌-ℤ◌, ◌<ℤ◌, nat_le, nat_lt, if◌then◌else◌}
use Rattle.std.proofs.lemmas.Int.{ints}
use Rattle.std.proofs.lemmas.Bool.{cases_eq, leb-false, ltb-false}
use Rattle.std.proofs.lemmas.List.{length-set}
use Rattle.cpl_mosaic.specs.declared.parts.Side.{Side}
use Rattle.cpl_mosaic.specs.declared.parts.Side.TheVariants.{W, E, S, N}
use Rattle.cpl_fixed.specs.Flows.{flow, face_divisor, IsAirAmount, IsAirArea}
use Rattle.cpl_fixed.proofs.Flows.{flow_turned}
use Rattle.cpl_field.specs.Spots.{FieldNumbers, Spot, CellAt, HoleAt, IsSpot, IsSameShape, columns_of, stored, number_at, out_from}
use Rattle.cpl_atmos.specs.Sweeps.{AreAirAreas, AreCellAmounts, IsInner, flow_beside, flow_out}
use Rattle.cpl_fixed.specs.declared.flow.FaceDivisor.{FaceDivisor}
use Rattle.cpl_atmos.specs.Faces.{AreKept, divisor_at}
use Rattle.cpl_atmos.specs.Rows.{IsLoss, AreSouths}
use Rattle.cpl_atmos.proofs.Stored.{stored_by, cell_is, out_west, out_east, out_south, out_north, beside_some}

cell_if : (b : Bool) (cell hole : Spot) → (b ≡ false → ⊥) → (if b then cell else hole) ≡ cell
cell_if true cell hole never = refl
cell_if false cell hole never = absurd (never refl)

pub inner_same : (area x : FieldNumbers) → IsSameShape area x → (i j : ℕ) → IsInner area i j → IsInner x i j
inner_same area x same i j is = let west = is.west in let east = is.east in let south = is.south in let north = is.north in let nx = same.nx in let ny = same.ny in record { west = omega arith; east = omega arith; south = omega arith; north = omega arith }

-- what an inner cell has beside it is a cell
pub inner_amount : (x : FieldNumbers) → AreCellAmounts x → (i j : ℕ) → IsInner x i j → (side : Side) → IsAirAmount (number_at x (out_from x i j side 1))
inner_amount x amounts i j is W =
    let west = is.west in let east = is.east in let south = is.south in let north = is.north in
    subst (λ (s : Spot). IsAirAmount (number_at x s)) (sym (cell_if (nat_le 1 i) (CellAt (i - 1) j) (HoleAt W j (1 - i)) (λ e. absurd (omega (arith, leb-false 1 i e))))) (amounts (i - 1) j (omega arith, omega arith))
inner_amount x amounts i j is E =
    let west = is.west in let east = is.east in let south = is.south in let north = is.north in
    subst (λ (s : Spot). IsAirAmount (number_at x s)) (sym (cell_if (nat_lt (i + 1) x.nx) (CellAt (i + 1) j) (HoleAt E j (i + 1 + 1 - x.nx)) (λ e. absurd (omega (arith, ltb-false (i + 1) x.nx e))))) (amounts (i + 1) j (omega arith, omega arith))
inner_amount x amounts i j is S =
    let west = is.west in let east = is.east in let south = is.south in let north = is.north in
    subst (λ (s : Spot). IsAirAmount (number_at x s)) (sym (cell_if (nat_le 1 j) (CellAt i (j - 1)) (HoleAt S i (1 - j)) (λ e. absurd (omega (arith, leb-false 1 j e))))) (amounts i (j - 1) (omega arith, omega arith))
inner_amount x amounts i j is N =
    let west = is.west in let east = is.east in let south = is.south in let north = is.north in
    subst (λ (s : Spot). IsAirAmount (number_at x s)) (sym (cell_if (nat_lt (j + 1) x.ny) (CellAt i (j + 1)) (HoleAt N i (j + 1 + 1 - x.ny)) (λ e. absurd (omega (arith, ltb-false (j + 1) x.ny e))))) (amounts i (j + 1) (omega arith, omega arith))

-- what flows out of one of two neighbouring cells flows into the other
turned : (x a y b : ℤ) → IsAirAmount x → IsAirArea a → IsAirAmount y → IsAirArea b → flow x a y b ≡ pos 0 -ℤ flow y b x a
turned x a y b hx ha hy hb = flow_turned x a y b hx.0 (omega (arith, ints, ha.0)) hy.0 (omega (arith, ints, hb.0))

module _ (area x : FieldNumbers) (narrow : area.width ≡ 1) (same : IsSameShape area x) (areas : AreAirAreas area) (amounts : AreCellAmounts x) where
  thin : x.width ≡ 1
  thin = same.width ∙ narrow

  on_x : (i j : ℕ) → IsSpot area (CellAt i j) → IsSpot x (CellAt i j)
  on_x i j on = let nx = same.nx in let ny = same.ny in (omega arith, omega arith)

  beside : (i j k l : ℕ) (side : Side) → IsSpot area (CellAt k l) → number_at x (out_from x i j side 1) ≡ number_at x (CellAt k l) → number_at area (out_from area i j side 1) ≡ number_at area (CellAt k l) → flow_out area x i j side ≡ flow (number_at x (CellAt i j)) (number_at area (CellAt i j)) (number_at x (CellAt k l)) (number_at area (CellAt k l))
  beside i j k l side on amount same_area =
      let own : IsAirArea (number_at area (CellAt k l)) = areas.cells k l on in
      (λ t. flow_beside (number_at x (CellAt i j)) (number_at area (CellAt i j)) (amount t) (same_area t))
      ∙ beside_some (number_at x (CellAt i j)) (number_at area (CellAt i j)) (number_at x (CellAt k l)) (number_at area (CellAt k l)) own.0

  both_ways : (i j k l : ℕ) → IsSpot area (CellAt i j) → IsSpot area (CellAt k l) → flow (number_at x (CellAt i j)) (number_at area (CellAt i j)) (number_at x (CellAt k l)) (number_at area (CellAt k l)) ≡ pos 0 -ℤ flow (number_at x (CellAt k l)) (number_at area (CellAt k l)) (number_at x (CellAt i j)) (number_at area (CellAt i j))
  both_ways i j k l on off = turned (number_at x (CellAt i j)) (number_at area (CellAt i j)) (number_at x (CellAt k l)) (number_at area (CellAt k l)) (amounts i j (on_x i j on)) (areas.cells i j on) (amounts k l (on_x k l off)) (areas.cells k l off)

  east_is : (f : FieldNumbers) → f.width ≡ 1 → (i j : ℕ) → IsSpot f (CellAt i j) → number_at f (out_from f i j E 1) ≡ number_at f (CellAt (i + 1) j)
  east_is f one i j on = out_east f one i j on ∙ stored_by f (j + 1) (i + 2) (j + 1) (i + 1 + 1) refl (omega arith) ∙ sym (cell_is f one (i + 1) j)

  west_is : (f : FieldNumbers) → f.width ≡ 1 → (i j : ℕ) → IsSpot f (CellAt (i + 1) j) → number_at f (out_from f (i + 1) j W 1) ≡ number_at f (CellAt i j)
  west_is f one i j on = out_west f one (i + 1) j on ∙ sym (cell_is f one i j)

  north_is : (f : FieldNumbers) → f.width ≡ 1 → (i j : ℕ) → IsSpot f (CellAt i j) → number_at f (out_from f i j N 1) ≡ number_at f (CellAt i (j + 1))
  north_is f one i j on = out_north f one i j on ∙ stored_by f (j + 2) (i + 1) (j + 1 + 1) (i + 1) (omega arith) refl ∙ sym (cell_is f one i (j + 1))

  south_is : (f : FieldNumbers) → f.width ≡ 1 → (i j : ℕ) → IsSpot f (CellAt i (j + 1)) → number_at f (out_from f i (j + 1) S 1) ≡ number_at f (CellAt i j)
  south_is f one i j on = out_south f one i (j + 1) on ∙ sym (cell_is f one i j)

  pub east_area : (i j : ℕ) → IsSpot area (CellAt i j) → number_at area (out_from area i j E 1) ≡ number_at area (CellAt (i + 1) j)
  east_area = east_is area narrow

  pub north_area : (i j : ℕ) → IsSpot area (CellAt i j) → number_at area (out_from area i j N 1) ≡ number_at area (CellAt i (j + 1))
  north_area = north_is area narrow

  pub east_flow : (i j : ℕ) → i + 1 < area.nx → j < area.ny → flow_out area x i j E ≡ flow (number_at x (CellAt i j)) (number_at area (CellAt i j)) (number_at x (CellAt (i + 1) j)) (number_at area (CellAt (i + 1) j))
  east_flow i j column row =
      let here : IsSpot area (CellAt i j) = (omega arith, row) in
      let there : IsSpot area (CellAt (i + 1) j) = (column, row) in
      beside i j (i + 1) j E there (east_is x thin i j (on_x i j here)) (east_is area narrow i j here)

  pub north_flow : (i j : ℕ) → i < area.nx → j + 1 < area.ny → flow_out area x i j N ≡ flow (number_at x (CellAt i j)) (number_at area (CellAt i j)) (number_at x (CellAt i (j + 1))) (number_at area (CellAt i (j + 1)))
  north_flow i j column row =
      let here : IsSpot area (CellAt i j) = (column, omega arith) in
      let there : IsSpot area (CellAt i (j + 1)) = (column, row) in
      beside i j i (j + 1) N there (north_is x thin i j (on_x i j here)) (north_is area narrow i j here)

  -- what rows hold of cells
  pub amount_read : (i j : ℕ) → IsSpot area (CellAt i j) → (v : ℤ) → v ≡ stored x (j + 1) (i + 1) → (to_z w64 (of_z w64 v) ≡ number_at x (CellAt i j)) × IsAirAmount (to_z w64 (of_z w64 v))
  amount_read i j on v read =
      let e = cell_is x thin i j in
      let amount = amounts i j (on_x i j on) in
      (omega (arith, ints), (omega (arith, ints), omega (arith, ints)))

  pub area_read : (i j : ℕ) → IsSpot area (CellAt i j) → (v : ℤ) → v ≡ stored area (j + 1) (i + 1) → (to_z w64 (of_z w64 v) ≡ number_at area (CellAt i j)) × IsAirArea (to_z w64 (of_z w64 v))
  area_read i j on v read =
      let e = cell_is area narrow i j in
      let own : IsAirArea (number_at area (CellAt i j)) = areas.cells i j on in
      (omega (arith, ints), (omega (arith, ints), omega (arith, ints)))

  pub west_turned : (i j : ℕ) → i + 1 < area.nx → j < area.ny → flow_out area x (i + 1) j W ≡ pos 0 -ℤ flow_out area x i j E
  west_turned i j column row =
      let here : IsSpot area (CellAt i j) = (omega arith, row) in
      let there : IsSpot area (CellAt (i + 1) j) = (column, row) in
      let back = beside (i + 1) j i j W here (west_is x thin i j (on_x (i + 1) j there)) (west_is area narrow i j there) in
      let forth = beside i j (i + 1) j E there (east_is x thin i j (on_x i j here)) (east_is area narrow i j here) in
      back ∙ both_ways (i + 1) j i j there here ∙ ap (λ v. pos 0 -ℤ v) (sym forth)

  pub south_turned : (i j : ℕ) → i < area.nx → j + 1 < area.ny → flow_out area x i (j + 1) S ≡ pos 0 -ℤ flow_out area x i j N
  south_turned i j column row =
      let here : IsSpot area (CellAt i j) = (column, omega arith) in
      let there : IsSpot area (CellAt i (j + 1)) = (column, row) in
      let back = beside i (j + 1) i j S here (south_is x thin i j (on_x i (j + 1) there)) (south_is area narrow i j there) in
      let forth = beside i j i (j + 1) N there (north_is x thin i j (on_x i j here)) (north_is area narrow i j here) in
      back ∙ both_ways i (j + 1) i j there here ∙ ap (λ v. pos 0 -ℤ v) (sym forth)

-- the losses through the south sides of row j, and before column i already those of the next row
pub record AreCarried (area x : FieldNumbers) (j i : ℕ) (souths : List ℤ) : Type 0 where
  pub count : length souths ≡ area.nx
  pub done : (k : ℕ) → 1 ≤ k → k < i → IsLoss (get_or souths k (pos 0)) (flow_out area x k (j + 1) S)
  pub rest : (k : ℕ) → i ≤ k → 1 ≤ k → k + 1 < area.nx → IsLoss (get_or souths k (pos 0)) (flow_out area x k j S)

pub carried_start : (area x : FieldNumbers) (j : ℕ) (souths : List ℤ) → AreSouths area x j souths → AreCarried area x j 1 souths
carried_start area x j souths are = record { count = are.count; done = λ k some l. absurd (omega arith); rest = λ k from some l. are.each k some l }

pub carried_more : (area x : FieldNumbers) (j i : ℕ) (souths : List ℤ) → AreCarried area x j i souths → i < area.nx → (v : ℤ) → IsLoss v (flow_out area x i (j + 1) S) → AreCarried area x j (i + 1) (slice_set souths i v)
carried_more area x j i souths are within v is = record {
  count = length-set souths i v ∙ are.count;
  done = λ k some l. elim (cases_eq k i) [
    | inl e ↦
        let count = are.count in
        let P : ℕ → Type 0 = λ m. IsLoss (get_or (slice_set souths i v) m (pos 0)) (flow_out area x m (j + 1) S) in
        let Q : ℤ → Type 0 = λ y. IsLoss y (flow_out area x i (j + 1) S) in
        subst P (sym e) (subst Q (sym (get_or-set_same souths i v (pos 0) (omega arith))) is)
    | inr ne ↦
        let Q : ℤ → Type 0 = λ y. IsLoss y (flow_out area x k (j + 1) S) in
        subst Q (sym (get_or-set_other souths i k v (pos 0) ne)) (are.done k some (omega arith))
  ];
  rest = λ k from some l.
      let Q : ℤ → Type 0 = λ y. IsLoss y (flow_out area x k j S) in
      subst Q (sym (get_or-set_other souths i k v (pos 0) (λ e. absurd (omega arith)))) (are.rest k (omega arith) some l);
}

pub carried_all : (area x : FieldNumbers) (j i : ℕ) (souths : List ℤ) → area.nx ≤ i + 1 → AreCarried area x j i souths → AreSouths area x (j + 1) souths
carried_all area x j i souths all are = record { count = are.count; each = λ k some l. are.done k some (omega arith) }

-- the losses of the first columns
pub record AreSouthsTo (area x : FieldNumbers) (j i : ℕ) (souths : List ℤ) : Type 0 where
  pub count : length souths ≡ area.nx
  pub each : (k : ℕ) → 1 ≤ k → k < i → IsLoss (get_or souths k (pos 0)) (flow_out area x k j S)

pub souths_more : (area x : FieldNumbers) (j i : ℕ) (souths : List ℤ) → AreSouthsTo area x j i souths → i < area.nx → (v : ℤ) → IsLoss v (flow_out area x i j S) → AreSouthsTo area x j (i + 1) (slice_set souths i v)
souths_more area x j i souths are within v is = record {
  count = length-set souths i v ∙ are.count;
  each = λ k some l. elim (cases_eq k i) [
    | inl e ↦
        let count = are.count in
        let P : ℕ → Type 0 = λ m. IsLoss (get_or (slice_set souths i v) m (pos 0)) (flow_out area x m j S) in
        let Q : ℤ → Type 0 = λ y. IsLoss y (flow_out area x i j S) in
        subst P (sym e) (subst Q (sym (get_or-set_same souths i v (pos 0) (omega arith))) is)
    | inr ne ↦
        let Q : ℤ → Type 0 = λ y. IsLoss y (flow_out area x k j S) in
        subst Q (sym (get_or-set_other souths i k v (pos 0) ne)) (are.each k some (omega arith))
  ];
}

-- a number that a row holds for a cell, as a call is passed it
pub record IsCellsAmount (v n : ℤ) : Type 0 where
  pub is : to_z w64 (of_z w64 v) ≡ n
  pub amount : IsAirAmount (to_z w64 (of_z w64 v))

pub record IsCellsArea (v n : ℤ) : Type 0 where
  pub is : to_z w64 (of_z w64 v) ≡ n
  pub own : IsAirArea (to_z w64 (of_z w64 v))

-- what four rows hold of an inner cell and of the cells east and north of it
pub record Reads (area x : FieldNumbers) (i j : ℕ) (here above areas areas_above : List ℤ) : Type 0 where
  pub amount : IsCellsAmount (get_or here (i + 1) (pos 0)) (number_at x (CellAt i j))
  pub east_amount : IsCellsAmount (get_or here (i + 2) (pos 0)) (number_at x (CellAt (i + 1) j))
  pub north_amount : IsCellsAmount (get_or above (i + 1) (pos 0)) (number_at x (CellAt i (j + 1)))
  pub area_of : IsCellsArea (get_or areas (i + 1) (pos 0)) (number_at area (CellAt i j))
  pub east_area_of : IsCellsArea (get_or areas (i + 2) (pos 0)) (number_at area (CellAt (i + 1) j))
  pub north_area_of : IsCellsArea (get_or areas_above (i + 1) (pos 0)) (number_at area (CellAt i (j + 1)))

pub inner_reads : (area x : FieldNumbers) (narrow : area.width ≡ 1) (same : IsSameShape area x) (own : AreAirAreas area) (amounts : AreCellAmounts x) (i j : ℕ) → i + 1 < area.nx → j + 1 < area.ny → (here above areas areas_above : List ℤ)
    → ((c : ℕ) → c < columns_of x → get_or here c (pos 0) ≡ stored x (j + 1) c)
    → ((c : ℕ) → c < columns_of x → get_or above c (pos 0) ≡ stored x (j + 2) c)
    → ((c : ℕ) → c < columns_of area → get_or areas c (pos 0) ≡ stored area (j + 1) c)
    → ((c : ℕ) → c < columns_of area → get_or areas_above c (pos 0) ≡ stored area (j + 2) c)
    → Reads area x i j here above areas areas_above
inner_reads area x narrow same own amounts i j column row here above areas areas_above read_here read_above read_areas read_areas_above =
    let nx = same.nx in
    let width = same.width in
    let a = amount_read area x narrow same own amounts i j (omega arith, omega arith) (get_or here (i + 1) (pos 0)) (read_here (i + 1) (omega arith)) in
    let b = amount_read area x narrow same own amounts (i + 1) j (column, omega arith) (get_or here (i + 2) (pos 0)) (read_here (i + 2) (omega arith) ∙ stored_by x (j + 1) (i + 2) (j + 1) (i + 1 + 1) refl (omega arith)) in
    let c = amount_read area x narrow same own amounts i (j + 1) (omega arith, row) (get_or above (i + 1) (pos 0)) (read_above (i + 1) (omega arith) ∙ stored_by x (j + 2) (i + 1) (j + 1 + 1) (i + 1) (omega arith) refl) in
    let d = area_read area x narrow same own amounts i j (omega arith, omega arith) (get_or areas (i + 1) (pos 0)) (read_areas (i + 1) (omega arith)) in
    let e = area_read area x narrow same own amounts (i + 1) j (column, omega arith) (get_or areas (i + 2) (pos 0)) (read_areas (i + 2) (omega arith) ∙ stored_by area (j + 1) (i + 2) (j + 1) (i + 1 + 1) refl (omega arith)) in
    let f = area_read area x narrow same own amounts i (j + 1) (omega arith, row) (get_or areas_above (i + 1) (pos 0)) (read_areas_above (i + 1) (omega arith) ∙ stored_by area (j + 2) (i + 1) (j + 1 + 1) (i + 1) (omega arith) refl) in
    record {
      amount = record { is = a.0; amount = a.1 };
      east_amount = record { is = b.0; amount = b.1 };
      north_amount = record { is = c.0; amount = c.1 };
      area_of = record { is = d.0; own = d.1 };
      east_area_of = record { is = e.0; own = e.1 };
      north_area_of = record { is = f.0; own = f.1 };
    }

-- the divisors of the faces east and north of an inner cell
pub east_divisor : (nx ny : ℕ) (area : FieldNumbers) (east north : List FaceDivisor) → AreKept nx ny area east north → (i j : ℕ) → i + 1 < area.nx → j < area.ny → (faces : List FaceDivisor) → faces ≡ east → (v w : ℤ) → IsCellsArea v (number_at area (CellAt i j)) → IsCellsArea w (number_at area (CellAt (i + 1) j)) → divisor_at faces (j * (nx + 1) + i + 1) ≡ face_divisor (to_z w64 (of_z w64 v)) (to_z w64 (of_z w64 w))
east_divisor nx ny area east north kept i j column row faces all v w a b =
    let at : j * (nx + 1) + i + 1 ≡ j * (area.nx + 1) + (i + 1) = (let assoc : j * (nx + 1) + i + 1 ≡ j * (nx + 1) + (i + 1) = omega arith in assoc) ∙ ap (λ m. j * (m + 1) + (i + 1)) (sym kept.columns) in
    let p : stored area (j + 1) (i + 1) ≡ to_z w64 (of_z w64 v) = sym (cell_is area kept.width i j) ∙ sym a.is in
    let q : stored area (j + 1) (i + 1 + 1) ≡ to_z w64 (of_z w64 w) = sym (cell_is area kept.width (i + 1) j) ∙ sym b.is in
    let some : pos 0 <ℤ stored area (j + 1) (i + 1) = subst (λ (z : ℤ). pos 0 <ℤ z) (sym p) a.own.0 in
    let other : pos 0 <ℤ stored area (j + 1) (i + 1 + 1) = subst (λ (z : ℤ). pos 0 <ℤ z) (sym q) b.own.0 in
    (λ t. divisor_at (all t) (at t)) ∙ kept.east.each (i + 1) j (omega arith) row some other ∙ (λ t. face_divisor (p t) (q t))

pub north_divisor : (nx ny : ℕ) (area : FieldNumbers) (east north : List FaceDivisor) → AreKept nx ny area east north → (i j : ℕ) → i < area.nx → j + 1 < area.ny → (faces : List FaceDivisor) → faces ≡ north → (v w : ℤ) → IsCellsArea v (number_at area (CellAt i j)) → IsCellsArea w (number_at area (CellAt i (j + 1))) → divisor_at faces ((j + 1) * nx + i) ≡ face_divisor (to_z w64 (of_z w64 v)) (to_z w64 (of_z w64 w))
north_divisor nx ny area east north kept i j column row faces all v w a b =
    let at : (j + 1) * nx + i ≡ (j + 1) * area.nx + i = ap (λ m. (j + 1) * m + i) (sym kept.columns) in
    let p : stored area (j + 1) (i + 1) ≡ to_z w64 (of_z w64 v) = sym (cell_is area kept.width i j) ∙ sym a.is in
    let q : stored area (j + 1 + 1) (i + 1) ≡ to_z w64 (of_z w64 w) = sym (cell_is area kept.width i (j + 1)) ∙ sym b.is in
    let some : pos 0 <ℤ stored area (j + 1) (i + 1) = subst (λ (z : ℤ). pos 0 <ℤ z) (sym p) a.own.0 in
    let other : pos 0 <ℤ stored area (j + 1 + 1) (i + 1) = subst (λ (z : ℤ). pos 0 <ℤ z) (sym q) b.own.0 in
    (λ t. divisor_at (all t) (at t)) ∙ kept.north.each i (j + 1) column (omega arith) some other ∙ (λ t. face_divisor (p t) (q t))

-- what is left of an amount, as the sum is taken
pub next_value : (a w e s n : ℤ) → IsAirAmount a → IsLoss w w → IsLoss e e → IsLoss s s → IsLoss n n → to_z w64 (of_z w64 (a -ℤ to_z w64 (of_z w64 (to_z w64 (of_z w64 (to_z w64 (of_z w64 (w +ℤ to_z w64 (of_z w64 e))) +ℤ to_z w64 (of_z w64 s))) +ℤ to_z w64 (of_z w64 n))))) ≡ a -ℤ (w +ℤ e +ℤ s +ℤ n)
next_value a w e s n amount west east south north =
    let e_is : to_z w64 (of_z w64 e) ≡ e = omega (arith, ints) in
    let s_is : to_z w64 (of_z w64 s) ≡ s = omega (arith, ints) in
    let n_is : to_z w64 (of_z w64 n) ≡ n = omega (arith, ints) in
    omega (arith, ints)

pub same_loss : (v f : ℤ) → IsLoss v f → IsLoss v v
same_loss v f is = record { is = refl; low = is.low; high = is.high }
