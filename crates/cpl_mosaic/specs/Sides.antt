-- Sides of cells, inside a tile and along its edges.
use Rattle.std.specs.Prelude.{◌≡◌, ℕ, ◌+◌, ◌-◌, ◌<◌, ◌==◌, ◌&&◌, Bool, true, false, List, Option, Some, None, if◌then◌else◌, slice_index_or}
use Rattle.cpl_mosaic.specs.declared.parts.Tile.{Tile}
use Rattle.cpl_mosaic.specs.declared.parts.Side.{Side}
use Rattle.cpl_mosaic.specs.declared.parts.Side.TheVariants.{W, E, S, N}
use Rattle.cpl_mosaic.specs.declared.parts.CellId.{CellId}

-- a side of a cell
abbrev pub CellSide : Type 0
CellSide = CellId × Side

abbrev pub opposite : Side → Side
opposite W = E
opposite E = W
opposite S = N
opposite N = S

abbrev pub is_same_direction : Side → Side → Bool
is_same_direction W W = true
is_same_direction E E = true
is_same_direction S S = true
is_same_direction N N = true
is_same_direction _ _ = false

abbrev pub is_same_cell : CellId → CellId → Bool
is_same_cell a b = (a.tile == b.tile) && (a.i == b.i) && (a.j == b.j)

abbrev pub is_same_side : CellSide → CellSide → Bool
is_same_side a b = is_same_cell a.0 b.0 && is_same_direction a.1 b.1

-- a tile of the list. Past its end a tile has no cells
abbrev pub tile_at : List Tile → ℕ → Tile
tile_at tiles t = slice_index_or tiles t (record { nx = 0; ny = 0 })

-- the cell lies in its tile
pub record IsCellOf (tiles : List Tile) (cell : CellId) : Type 0 where
  pub column : cell.i < (tile_at tiles cell.tile).nx
  pub row : cell.j < (tile_at tiles cell.tile).ny

-- the cell across a side, in the same tile
abbrev pub neighbour : Tile → CellId → Side → Option CellId
neighbour tile cell W = if cell.i == 0 then None else Some (record { tile = cell.tile; i = cell.i - 1; j = cell.j })
neighbour tile cell E = if cell.i + 1 == tile.nx then None else Some (record { tile = cell.tile; i = cell.i + 1; j = cell.j })
neighbour tile cell S = if cell.j == 0 then None else Some (record { tile = cell.tile; i = cell.i; j = cell.j - 1 })
neighbour tile cell N = if cell.j + 1 == tile.ny then None else Some (record { tile = cell.tile; i = cell.i; j = cell.j + 1 })

-- a side of a cell which lies along an edge of its tile
pub record IsEdgeSide (tiles : List Tile) (a : CellSide) : Type 0 where
  pub cell : IsCellOf tiles a.0
  pub edge : neighbour (tile_at tiles a.0.tile) a.0 a.1 ≡ None

-- how many sides an edge of a tile has
abbrev pub edge_length : Tile → Side → ℕ
edge_length tile W = tile.ny
edge_length tile E = tile.ny
edge_length tile S = tile.nx
edge_length tile N = tile.nx

-- the k-th side along an edge of a tile: by j along W and E, by i along S and N
abbrev pub edge_side : List Tile → ℕ → Side → ℕ → CellSide
edge_side tiles t W k = (record { tile = t; i = 0; j = k }, W)
edge_side tiles t E k = (record { tile = t; i = (tile_at tiles t).nx - 1; j = k }, E)
edge_side tiles t S k = (record { tile = t; i = k; j = 0 }, S)
edge_side tiles t N k = (record { tile = t; i = k; j = (tile_at tiles t).ny - 1 }, N)
