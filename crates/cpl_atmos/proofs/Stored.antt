-- Where the cells and holes of a piece with a halo one cell wide stand in its rows and columns.
use Rattle.std.proofs.Common.{◌≡◌, refl, subst, ℕ, zero, suc, ◌+◌, ◌-◌, ◌<◌, ◌≤◌, arith, inl, inr}
use Rattle.std.specs.Prelude.{ℤ, pos, negsuc, ◌<ℤ◌}
use Rattle.std.proofs.lemmas.Int.{ints}
use Rattle.std.proofs.lemmas.Bool.{cases_eq}
use Rattle.cpl_mosaic.specs.declared.parts.Side.{Side}
use Rattle.cpl_mosaic.specs.declared.parts.Side.TheVariants.{W, E, S, N}
use Rattle.cpl_fixed.specs.Flows.{flow}
use Rattle.cpl_field.specs.Spots.{FieldNumbers, Spot, CellAt, HoleAt, IsSpot, stored, number_at, out_from, row_of, column_of}
use Rattle.cpl_field.proofs.Out.{out_stands}
use Rattle.cpl_atmos.specs.Sweeps.{flow_beside}

-- a number by its row and column, where these have two names
pub stored_by : (f : FieldNumbers) (r c p q : ℕ) → r ≡ p → c ≡ q → stored f r c ≡ stored f p q
stored_by f r c p q e g = λ i. stored f (e i) (g i)

module _ (f : FieldNumbers) (narrow : f.width ≡ 1) where
  pub cell_is : (i j : ℕ) → number_at f (CellAt i j) ≡ stored f (j + 1) (i + 1)
  cell_is i j = stored_by f (f.width + j) (f.width + i) (j + 1) (i + 1) (omega arith) (omega arith)

  -- what holds of each spot holds all along a row of cells, with the holes at its ends
  pub in_row : (P : ℤ → Type 0) → ((spot : Spot) → IsSpot f spot → P (number_at f spot)) → (j c : ℕ) → j < f.ny → c ≤ f.nx + 1 → P (stored f (j + 1) c)
  in_row P each j c row column = elim (cases_eq c 0) [
    | inl e ↦ subst P (stored_by f (f.width + j) (f.width - 1) (j + 1) c (omega arith) (omega arith)) (each (HoleAt W j 1) (row, omega arith, omega arith))
    | inr ne ↦ elim (cases_eq c (f.nx + 1)) [
      | inl e ↦ subst P (stored_by f (f.width + j) (f.width + f.nx + 1 - 1) (j + 1) c (omega arith) (omega arith)) (each (HoleAt E j 1) (row, omega arith, omega arith))
      | inr most ↦ subst P (stored_by f (f.width + j) (f.width + (c - 1)) (j + 1) c (omega arith) (omega arith)) (each (CellAt (c - 1) j) (omega arith, row))
    ]
  ]

  -- and all along a column
  pub in_column : (P : ℤ → Type 0) → ((spot : Spot) → IsSpot f spot → P (number_at f spot)) → (r i : ℕ) → r ≤ f.ny + 1 → i < f.nx → P (stored f r (i + 1))
  in_column P each r i row column = elim (cases_eq r 0) [
    | inl e ↦ subst P (stored_by f (f.width - 1) (f.width + i) r (i + 1) (omega arith) (omega arith)) (each (HoleAt S i 1) (column, omega arith, omega arith))
    | inr ne ↦ elim (cases_eq r (f.ny + 1)) [
      | inl e ↦ subst P (stored_by f (f.width + f.ny + 1 - 1) (f.width + i) r (i + 1) (omega arith) (omega arith)) (each (HoleAt N i 1) (column, omega arith, omega arith))
      | inr most ↦ subst P (stored_by f (f.width + (r - 1)) (f.width + i) r (i + 1) (omega arith) (omega arith)) (each (CellAt i (r - 1)) (column, omega arith))
    ]
  ]

  pub out_is_spot : (i j : ℕ) (side : Side) → IsSpot f (CellAt i j) → IsSpot f (out_from f i j side 1)
  out_is_spot i j side on = let out = out_stands f i j side 1 on (omega arith) (omega arith) in out.on

  pub out_west : (i j : ℕ) → IsSpot f (CellAt i j) → number_at f (out_from f i j W 1) ≡ stored f (j + 1) i
  out_west i j on = let out = out_stands f i j W 1 on (omega arith) (omega arith) in stored_by f (row_of f (out_from f i j W 1)) (column_of f (out_from f i j W 1)) (j + 1) i (let e = out.row in omega arith) (let e = out.column in omega arith)

  pub out_east : (i j : ℕ) → IsSpot f (CellAt i j) → number_at f (out_from f i j E 1) ≡ stored f (j + 1) (i + 2)
  out_east i j on = let out = out_stands f i j E 1 on (omega arith) (omega arith) in stored_by f (row_of f (out_from f i j E 1)) (column_of f (out_from f i j E 1)) (j + 1) (i + 2) (let e = out.row in omega arith) (let e = out.column in omega arith)

  pub out_south : (i j : ℕ) → IsSpot f (CellAt i j) → number_at f (out_from f i j S 1) ≡ stored f j (i + 1)
  out_south i j on = let out = out_stands f i j S 1 on (omega arith) (omega arith) in stored_by f (row_of f (out_from f i j S 1)) (column_of f (out_from f i j S 1)) j (i + 1) (let e = out.row in omega arith) (let e = out.column in omega arith)

  pub out_north : (i j : ℕ) → IsSpot f (CellAt i j) → number_at f (out_from f i j N 1) ≡ stored f (j + 2) (i + 1)
  out_north i j on = let out = out_stands f i j N 1 on (omega arith) (omega arith) in stored_by f (row_of f (out_from f i j N 1)) (column_of f (out_from f i j N 1)) (j + 2) (i + 1) (let e = out.row in omega arith) (let e = out.column in omega arith)

-- toward an area above 0 there is no wall
pub beside_some : (x a x' a' : ℤ) → pos 0 <ℤ a' → flow_beside x a x' a' ≡ flow x a x' a'
beside_some x a x' (pos zero) some = absurd (omega (arith, ints))
beside_some x a x' (pos (suc n)) some = refl
beside_some x a x' (negsuc n) some = absurd (omega (arith, ints))
