-- The order of sides by the numbers of their cells.
use Rattle.std.proofs.Common.{◌≡◌, refl, sym, ◌∙◌, Bool, true, eqb, ltb, ℕ, zero, suc, ◌+◌, ◌*◌, ◌<◌, arith, List, [], ◌∷◌, take, inl, inr}
use Rattle.std.proofs.lemmas.Bool.{cond-true, cond-false, eq-eqb, ne_eqb, lt-ltb, ltb-true, cases_eq, cases_order}
use Rattle.std.proofs.lemmas.Nat.{mul-add-lt}
use Rattle.std.proofs.Math.Nat.{mul_comm}
use Rattle.cpl_mosaic.specs.declared.parts.Tile.{Tile}
use Rattle.cpl_mosaic.specs.declared.parts.CellId.{CellId}
use Rattle.cpl_mosaic.specs.Sides.{CellSide, tile_at, IsCellOf}
use Rattle.cpl_mosaic.specs.Contacts.{cells_of}
use Rattle.cpl_mosaic.specs.Cells.{number_of}
use Rattle.cpl_faces.specs.Orders.{LessThen, less_then}
use Rattle.cpl_faces.specs.Faces.{rank, Comes}

-- the test of an order is the order
pub less_from : (x y : ℕ) (test : Bool) (Follows : Type 0) → (test ≡ true → Follows) → less_then x y test ≡ true → LessThen x y Follows
less_from x y test Follows follows is = elim (cases_eq x y) [
  | inl same ↦ inr (same, follows (sym (cond-true (eqb x y) test (ltb x y) (eq-eqb x y same)) ∙ is))
  | inr other ↦ inl (ltb-true x y (sym (cond-false (eqb x y) test (ltb x y) (ne_eqb x y other)) ∙ is))
]

pub from_less : (x y : ℕ) (test : Bool) (Follows : Type 0) → (Follows → test ≡ true) → LessThen x y Follows → less_then x y test ≡ true
from_less x y test Follows follows (inl less) = cond-false (eqb x y) test (ltb x y) (ne_eqb x y (λ e. omega arith)) ∙ lt-ltb x y less
from_less x y test Follows follows (inr (same, then)) = cond-true (eqb x y) test (ltb x y) (eq-eqb x y same) ∙ follows then

-- a cell comes before the cells of later tiles
before_tile : (tiles : List Tile) (k m i j : ℕ) → k < m → i < (tile_at tiles k).nx → j < (tile_at tiles k).ny
    → cells_of (take k tiles) + (j * (tile_at tiles k).nx + i) < cells_of (take m tiles)
before_tile [] k m i j lt column row = absurd (omega arith)
before_tile (tile ∷ tiles) k zero i j lt column row = absurd (omega arith)
before_tile (tile ∷ tiles) zero (suc m) i j lt column row = omega (arith, mul-add-lt j tile.nx i tile.ny row column)
before_tile (tile ∷ tiles) (suc k) (suc m) i j lt column row = let h = before_tile tiles k m i j (omega arith) column row in omega arith

-- and before those of later rows
before_row : (nx i j row : ℕ) → i < nx → j < row → j * nx + i < row * nx
before_row nx i j row column lt = omega (arith, mul-add-lt j nx i row lt column, mul_comm nx row)

abbrev NumbersRise : List Tile → CellId → CellId → Type 0
NumbersRise tiles a b = number_of tiles a < number_of tiles b

rise_tile : (tiles : List Tile) (a b : CellId) → IsCellOf tiles a → a.tile < b.tile → NumbersRise tiles a b
rise_tile tiles a b is lt = let h = before_tile tiles a.tile b.tile a.i a.j lt is.column is.row in omega arith

rise_row : (tiles : List Tile) (a b : CellId) → IsCellOf tiles a → a.tile ≡ b.tile → a.j < b.j → NumbersRise tiles a b
rise_row tiles a b is same lt =
    let h = before_row (tile_at tiles a.tile).nx a.i a.j b.j is.column lt in
    rw (← same) (omega arith)

rise_column : (tiles : List Tile) (a b : CellId) → a.tile ≡ b.tile → a.j ≡ b.j → a.i < b.i → NumbersRise tiles a b
rise_column tiles a b same row lt = rw (← same, ← row) (omega arith)

same_number : (tiles : List Tile) (a b : CellId) → a.tile ≡ b.tile → a.j ≡ b.j → a.i ≡ b.i → number_of tiles a ≡ number_of tiles b
same_number tiles a b tile row column = rw (← tile, ← row, ← column) refl

-- the order of two sides by the numbers of their cells
abbrev pub ByNumber : List Tile → CellSide → CellSide → Type 0
ByNumber tiles a b = LessThen (number_of tiles a.0) (number_of tiles b.0) (rank a.1 < rank b.1)

pub by_number : (tiles : List Tile) (a b : CellSide) → IsCellOf tiles a.0 → Comes a b → ByNumber tiles a b
by_number tiles a b is (inl tile) = inl (rise_tile tiles a.0 b.0 is tile)
by_number tiles a b is (inr (tile, inl row)) = inl (rise_row tiles a.0 b.0 is tile row)
by_number tiles a b is (inr (tile, inr (row, inl column))) = inl (rise_column tiles a.0 b.0 tile row column)
by_number tiles a b is (inr (tile, inr (row, inr (column, side)))) = inr (same_number tiles a.0 b.0 tile row column, side)

-- a side does not come by its number where another cell's number is less
not_by_number : (tiles : List Tile) (a b : CellSide) → NumbersRise tiles b.0 a.0 → ByNumber tiles a b → ⊥
not_by_number tiles a b rise (inl less) = omega arith
not_by_number tiles a b rise (inr (same, side)) = omega arith

side_by_number : (tiles : List Tile) (a b : CellSide) → number_of tiles a.0 ≡ number_of tiles b.0 → ByNumber tiles a b → rank a.1 < rank b.1
side_by_number tiles a b same (inl less) = absurd (omega arith)
side_by_number tiles a b same (inr (e, side)) = side

pub from_number : (tiles : List Tile) (a b : CellSide) → IsCellOf tiles b.0 → ByNumber tiles a b → Comes a b
from_number tiles a b is by = elim (cases_order a.0.tile b.0.tile) [
  | inr (inl less) ↦ inl less
  | inr (inr more) ↦ absurd (not_by_number tiles a b (rise_tile tiles b.0 a.0 is more) by)
  | inl tile ↦ inr (
    tile,
    elim (cases_order a.0.j b.0.j) [
      | inr (inl less) ↦ inl less
      | inr (inr more) ↦ absurd (not_by_number tiles a b (rise_row tiles b.0 a.0 is (sym tile) more) by)
      | inl row ↦ inr (
        row,
        elim (cases_order a.0.i b.0.i) [
          | inr (inl less) ↦ inl less
          | inr (inr more) ↦ absurd (not_by_number tiles a b (rise_column tiles b.0 a.0 (sym tile) (sym row) more) by)
          | inl column ↦ inr (column, side_by_number tiles a b (same_number tiles a.0 b.0 tile row column) by)
        ],
      )
    ],
  )
]
