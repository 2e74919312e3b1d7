-- Windows of the mosaics of a grid: blocks of whole rows and columns of one tile.
use Rattle.std.specs.Prelude.{◌≢◌, ℕ, ◌+◌, ◌≤◌, List}
use Rattle.std.specs.List.{flat_map, range_with_len}
use Rattle.cpl_fixed.specs.declared.words.Component.{Component}
use Rattle.cpl_fixed.specs.declared.words.Component.TheVariants.{Atmos, Land, Ice, Ocean}
use Rattle.cpl_mosaic.specs.declared.mosaic.Mesh.{Mesh}
use Rattle.cpl_mosaic.specs.declared.parts.Tile.{Tile}
use Rattle.cpl_mosaic.specs.Sides.{tile_at}
use Rattle.cpl_mosaic.specs.Cells.{number_of}
use Rattle.cpl_xgrid.specs.declared.grid.Grid.{Grid}
use Rattle.cpl_combine.specs.declared.window.Window.{Window}

-- the mesh of a component. The ice has the ocean's
abbrev pub mesh_of : Grid → Component → Mesh
mesh_of grid Atmos = grid.air
mesh_of grid Land = grid.land
mesh_of grid Ice = grid.ocean
mesh_of grid Ocean = grid.ocean

abbrev pub tiles_of : Grid → Component → List Tile
tiles_of grid component = (mesh_of grid component).mosaic.tiles

-- a window of some cells, which lies in its tile
pub record LiesIn (tiles : List Tile) (window : Window) : Type 0 where
  pub columns : 1 ≤ window.nx
  pub rows : 1 ≤ window.ny
  pub east : window.i0 + window.nx ≤ (tile_at tiles window.tile).nx
  pub north : window.j0 + window.ny ≤ (tile_at tiles window.tile).ny

-- a window of a component that has sections of its own: the air, the land or the ocean, with its ice
pub record IsWindow (grid : Grid) (window : Window) : Type 0 where
  pub component : window.component ≢ Ice
  pub inside : LiesIn (tiles_of grid window.component) window

-- the number of the first cell in a row of a window, and those of all its cells: they follow each other
abbrev pub row_start : List Tile → Window → ℕ → ℕ
row_start tiles window j = number_of tiles (record { tile = window.tile; i = window.i0; j = window.j0 + j })

abbrev pub row_cells : List Tile → Window → ℕ → List ℕ
row_cells tiles window j = range_with_len (row_start tiles window j) window.nx

-- the numbers of the cells of a window, in whole order
unfoldable pub window_cells : List Tile → Window → List ℕ
window_cells tiles window = flat_map (row_cells tiles window) (range_with_len 0 window.ny)
