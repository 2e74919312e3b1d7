-- Cells in whole order: by tile, then row, then column.
use Rattle.std.specs.Prelude.{◌≡◌, ℕ, ◌+◌, ◌-◌, ◌*◌, ◌/◌, ◌%◌, ◌<◌, List, [], ◌∷◌, take, nat_lt, if◌then◌else◌}
use Rattle.cpl_mosaic.specs.declared.parts.Tile.{Tile}
use Rattle.cpl_mosaic.specs.declared.parts.CellId.{CellId}
use Rattle.cpl_mosaic.specs.Sides.{tile_at, IsCellOf}
use Rattle.cpl_mosaic.specs.Contacts.{cells_of}

-- the number of a cell in whole order
abbrev pub number_of : List Tile → CellId → ℕ
number_of tiles cell = cells_of (take cell.tile tiles) + (cell.j * (tile_at tiles cell.tile).nx + cell.i)

-- the cell of a number, in the tiles from the t-th on
abbrev pub cell_from : ℕ → List Tile → ℕ → CellId
cell_from t [] n = record { tile = t; i = 0; j = 0 }
cell_from t (tile ∷ tiles) n =
    if nat_lt n (tile.nx * tile.ny) then record { tile = t; i = n % tile.nx; j = n / tile.nx } else cell_from (t + 1) tiles (n - tile.nx * tile.ny)

-- the cell with this number
abbrev pub cell_of : List Tile → ℕ → CellId
cell_of tiles n = cell_from 0 tiles n

-- numbers and cells invert each other
pub record NumbersAgree (tiles : List Tile) : Type 0 where
  pub below : (cell : CellId) → IsCellOf tiles cell → number_of tiles cell < cells_of tiles
  pub cell_number : (cell : CellId) → IsCellOf tiles cell → cell_of tiles (number_of tiles cell) ≡ cell
  pub is_cell : (n : ℕ) → n < cells_of tiles → IsCellOf tiles (cell_of tiles n)
  pub number_cell : (n : ℕ) → n < cells_of tiles → number_of tiles (cell_of tiles n) ≡ n
