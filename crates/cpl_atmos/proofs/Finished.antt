-- Rows of computed amounts, put into a field one after another.
use Rattle.std.proofs.Common.{◌≡◌, ◌∙◌, refl, sym, ap, subst, ℕ, ◌+◌, ◌*◌, ◌<◌, ◌≤◌, arith, inl, inr, List, get_or}
use Rattle.std.specs.Prelude.{ℤ, pos}
use Rattle.std.proofs.lemmas.Bool.{cases_eq}
use Rattle.cpl_mosaic.specs.declared.parts.Side.{Side}
use Rattle.cpl_mosaic.specs.declared.parts.Side.TheVariants.{W, E, S, N}
use Rattle.cpl_field.specs.Spots.{FieldNumbers, CellAt, HoleAt, IsSpot, IsSameShape, SetsRow, number_at}
use Rattle.cpl_atmos.specs.Sweeps.{value_in}
use Rattle.cpl_atmos.specs.Rows.{StoresValues}

-- the rows before row j have their amounts
pub record StoredTo (nx : ℕ) (values : List ℤ) (j : ℕ) (old new : FieldNumbers) : Type 0 where
  pub shape : IsSameShape old new
  pub cells : (i k : ℕ) → IsSpot old (CellAt i k) → k < j → number_at new (CellAt i k) ≡ value_in nx values i k
  pub holes : (side : Side) (k depth : ℕ) → IsSpot old (HoleAt side k depth) → number_at new (HoleAt side k depth) ≡ number_at old (HoleAt side k depth)

hole_kept : (old new : FieldNumbers) → IsSameShape old new → (side : Side) (k depth : ℕ) → IsSpot old (HoleAt side k depth) → IsSpot new (HoleAt side k depth)
hole_kept old new same W k depth on = let ny = same.ny in let width = same.width in (omega arith, omega arith, omega arith)
hole_kept old new same E k depth on = let ny = same.ny in let width = same.width in (omega arith, omega arith, omega arith)
hole_kept old new same S k depth on = let nx = same.nx in let width = same.width in (omega arith, omega arith, omega arith)
hole_kept old new same N k depth on = let nx = same.nx in let width = same.width in (omega arith, omega arith, omega arith)

pub stored_none : (nx : ℕ) (values : List ℤ) (x : FieldNumbers) → StoredTo nx values 0 x x
stored_none nx values x = record { shape = record { nx = refl; ny = refl; width = refl }; cells = λ i k on l. absurd (omega arith); holes = λ side k depth on. refl }

pub stored_more : (nx : ℕ) (values row : List ℤ) (j : ℕ) (old x new : FieldNumbers) → old.nx ≡ nx → StoredTo nx values j old x → SetsRow x new j row → ((n : ℕ) → n < nx → get_or row n (pos 0) ≡ get_or values (j * nx + n) (pos 0)) → StoredTo nx values (j + 1) old new
stored_more nx values row j old x new columns to sets read = record {
  shape = record { nx = sets.shape.nx ∙ to.shape.nx; ny = sets.shape.ny ∙ to.shape.ny; width = sets.shape.width ∙ to.shape.width };
  cells = λ i k on l. elim (cases_eq k j) [
    | inl e ↦
        let same = to.shape.nx in
        let P : ℕ → Type 0 = λ m. number_at new (CellAt i m) ≡ value_in nx values i m in
        subst P (sym e) (sets.there i (omega arith) ∙ read i (omega arith))
    | inr ne ↦ let nx_same = to.shape.nx in let ny_same = to.shape.ny in sets.cells i k (omega arith) (omega arith) ne ∙ to.cells i k on (omega arith)
  ];
  holes = λ side k depth on. sets.holes side k depth (hole_kept old x to.shape side k depth on) ∙ to.holes side k depth on;
}

pub stored_all : (area : FieldNumbers) (nx : ℕ) (values : List ℤ) (j : ℕ) (old new : FieldNumbers) → area.nx ≡ nx → old.ny ≤ j → StoredTo nx values j old new → StoresValues area values old new
stored_all area nx values j old new columns all to = record {
  shape = to.shape;
  cells = λ i k on. to.cells i k on (omega arith) ∙ ap (λ m. value_in m values i k) (sym columns);
  holes = to.holes;
}
