-- Sweeps over the cells of a piece: cells by how far they lie from the piece's edges, and what is computed for them beside the
-- piece's fields.
use Rattle.std.specs.Prelude.{◌≡◌, ℕ, ◌+◌, ◌*◌, ◌<◌, ◌≤◌, List, length, slice_index_or}
use Rattle.cpl_field.specs.Spots.{FieldNumbers, CellAt, IsSpot}

-- a cell with at least so many cells of the piece between it and each of the piece's edges
pub record IsInside (width : ℕ) (area : FieldNumbers) (i j : ℕ) : Type 0 where
  pub west : width ≤ i
  pub east : i + width < area.nx
  pub south : width ≤ j
  pub north : j + width < area.ny

-- a cell with fewer
abbrev pub IsOnRim : (width : ℕ) → FieldNumbers → (i j : ℕ) → Type 0
IsOnRim width area i j = IsInside width area i j → ⊥

-- a cell of row j, in columns from one to before another
pub record IsInSpan (from to j : ℕ) (i k : ℕ) : Type 0 where
  pub row : k ≡ j
  pub west : from ≤ i
  pub east : i < to

-- a cell of row j on a rim of this width
pub record IsRimOfRow (width : ℕ) (area : FieldNumbers) (j : ℕ) (i k : ℕ) : Type 0 where
  pub row : k ≡ j
  pub rim : IsOnRim width area i k

-- what a list has for a cell: the rows one after another
abbrev pub in_rows : {A : Type 0} → (none : A) → (nx : ℕ) → List A → (i j : ℕ) → A
in_rows none nx values i j = slice_index_or values (j * nx + i) none

-- the list has what is computed for the cells that are meant, and for the others what it had
pub record ComputesFor {A : Type 0} (none : A) (area : FieldNumbers) (next : ℕ → ℕ → A) (IsMeant : ℕ → ℕ → Type 0) (old new : List A) : Type 0 where
  pub count : length new ≡ length old
  pub meant : (i j : ℕ) → IsSpot area (CellAt i j) → IsMeant i j → in_rows none area.nx new i j ≡ next i j
  pub others : (i j : ℕ) → IsSpot area (CellAt i j) → (IsMeant i j → ⊥) → in_rows none area.nx new i j ≡ in_rows none area.nx old i j
