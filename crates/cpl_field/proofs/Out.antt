-- What lies some steps out through a side.
use Rattle.std.proofs.Common.{◌≡◌, ◌∙◌, refl, sym, ap, subst, ℕ, ◌+◌, ◌-◌, ◌*◌, ◌≤◌, arith, Bool, true, false}
use Rattle.std.specs.Prelude.{nat_lt, nat_le, if◌then◌else◌}
use Rattle.std.proofs.lemmas.Bool.{leb-true, leb-false, ltb-true, ltb-false}
use Rattle.cpl_mosaic.specs.declared.parts.Side.{Side}
use Rattle.cpl_mosaic.specs.declared.parts.Side.TheVariants.{W, E, S, N}
use Rattle.cpl_field.specs.Spots.{FieldNumbers, Spot, CellAt, HoleAt, IsSpot, IsField, columns_of, column_of, row_of, out_from, stepped}
use Rattle.cpl_field.proofs.Apart.{index_of}

-- the spot stands in this column and row
pub record Stands (f : FieldNumbers) (spot : Spot) (x y : ℕ) : Type 0 where
  pub on : IsSpot f spot
  pub column : column_of f spot ≡ x
  pub row : row_of f spot ≡ y

west : (f : FieldNumbers) (i j d : ℕ) → IsSpot f (CellAt i j) → 1 ≤ d → d ≤ f.width → (b : Bool) → nat_le d i ≡ b → Stands f (if b then CellAt (i - d) j else HoleAt W j (d - i)) (f.width + i - d) (f.width + j)
west f i j d on some most true e = let l = leb-true d i e in record { on = (omega arith, omega arith); column = omega arith; row = omega arith }
west f i j d on some most false e = let l = leb-false d i e in record { on = (omega arith, omega arith, omega arith); column = omega arith; row = omega arith }

east : (f : FieldNumbers) (i j d : ℕ) → IsSpot f (CellAt i j) → 1 ≤ d → d ≤ f.width → (b : Bool) → nat_lt (i + d) f.nx ≡ b → Stands f (if b then CellAt (i + d) j else HoleAt E j (i + d + 1 - f.nx)) (f.width + i + d) (f.width + j)
east f i j d on some most true e = let l = ltb-true (i + d) f.nx e in record { on = (omega arith, omega arith); column = omega arith; row = omega arith }
east f i j d on some most false e = let l = ltb-false (i + d) f.nx e in record { on = (omega arith, omega arith, omega arith); column = omega arith; row = omega arith }

south : (f : FieldNumbers) (i j d : ℕ) → IsSpot f (CellAt i j) → 1 ≤ d → d ≤ f.width → (b : Bool) → nat_le d j ≡ b → Stands f (if b then CellAt i (j - d) else HoleAt S i (d - j)) (f.width + i) (f.width + j - d)
south f i j d on some most true e = let l = leb-true d j e in record { on = (omega arith, omega arith); column = omega arith; row = omega arith }
south f i j d on some most false e = let l = leb-false d j e in record { on = (omega arith, omega arith, omega arith); column = omega arith; row = omega arith }

north : (f : FieldNumbers) (i j d : ℕ) → IsSpot f (CellAt i j) → 1 ≤ d → d ≤ f.width → (b : Bool) → nat_lt (j + d) f.ny ≡ b → Stands f (if b then CellAt i (j + d) else HoleAt N i (j + d + 1 - f.ny)) (f.width + i) (f.width + j + d)
north f i j d on some most true e = let l = ltb-true (j + d) f.ny e in record { on = (omega arith, omega arith); column = omega arith; row = omega arith }
north f i j d on some most false e = let l = ltb-false (j + d) f.ny e in record { on = (omega arith, omega arith, omega arith); column = omega arith; row = omega arith }

-- it stands as many columns or rows further
pub out_stands : (f : FieldNumbers) (i j : ℕ) (side : Side) (d : ℕ) → IsSpot f (CellAt i j) → 1 ≤ d → d ≤ f.width → Stands f (out_from f i j side d) (stepped (f.width + i) (f.width + j) side d).0 (stepped (f.width + i) (f.width + j) side d).1
out_stands f i j W d on some most = west f i j d on some most (nat_le d i) refl
out_stands f i j E d on some most = east f i j d on some most (nat_lt (i + d) f.nx) refl
out_stands f i j S d on some most = south f i j d on some most (nat_le d j) refl
out_stands f i j N d on some most = north f i j d on some most (nat_lt (j + d) f.ny) refl

-- its place in the list, where one field has two names
pub out_index : (f g : FieldNumbers) → IsField f → f ≡ g → (i j : ℕ) (side : Side) (d : ℕ) → IsSpot g (CellAt i j) → 1 ≤ d → d ≤ g.width → (p : ℕ × ℕ) → p ≡ stepped (f.width + i) (f.width + j) side d → (n : ℕ) → n ≡ p.1 * columns_of f + p.0 → IsSpot g (out_from g i j side d) × (n ≡ index_of f (out_from g i j side d))
out_index f g is same i j side d on some most p e n place =
    let on_f = subst (λ (h : FieldNumbers). IsSpot h (CellAt i j)) (sym same) on in
    let narrow = subst (λ (h : FieldNumbers). d ≤ h.width) (sym same) most in
    let out = out_stands f i j side d on_f some narrow in
    let to = stepped (f.width + i) (f.width + j) side d in (
      subst (λ (h : FieldNumbers). IsSpot h (out_from h i j side d)) same out.on,
      place
          ∙ ap (λ (q : ℕ × ℕ). q.1 * columns_of f + q.0) e
          ∙ (λ t. sym out.row t * columns_of f + sym out.column t)
          ∙ ap (λ (h : FieldNumbers). index_of f (out_from h i j side d)) same,
    )
