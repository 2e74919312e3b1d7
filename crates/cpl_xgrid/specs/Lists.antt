-- An exchange grid as the tiles of its meshes and its three lists.
use Rattle.std.specs.Prelude.{◌≡◌, ◌+◌, ◌≤◌, List, length, ℤ, All}
use Rattle.cpl_fixed.specs.Ranges.{IsFrom, IsFromℤ}
use Rattle.cpl_fixed.specs.declared.limits.TheConstants.{MOST_AREA, MOST_WEIGHT, MOST_EXCHANGE_CELLS, MOST_OUTLETS, MOST_LAYERS, MOST_CATEGORIES}
use Rattle.cpl_mosaic.specs.declared.parts.Tile.{Tile}
use Rattle.cpl_mosaic.specs.declared.mosaic.Mesh.{Mesh}
use Rattle.cpl_mosaic.specs.Contacts.{cells_of}
use Rattle.cpl_xgrid.specs.declared.parts.XRow.{XRow}
use Rattle.cpl_xgrid.specs.declared.parts.Outlet.{Outlet}
use Rattle.cpl_xgrid.specs.declared.parts.Column.{Column}

-- the tiles of the three mosaics, the two lists of exchange cells, and the outlets, each list in the order of the file
pub record XGridLists : Type 0 where
  pub air : List Tile
  pub land : List Tile
  pub ocean : List Tile
  pub land_rows : List XRow
  pub ocean_rows : List XRow
  pub outlets : List Outlet

-- the lists of an exchange grid of three meshes
abbrev pub lists_of : Mesh → Mesh → Mesh → List XRow → List XRow → List Outlet → XGridLists
lists_of air land ocean land_rows ocean_rows outlets = record {
  air = air.mosaic.tiles;
  land = land.mosaic.tiles;
  ocean = ocean.mosaic.tiles;
  land_rows = land_rows;
  ocean_rows = ocean_rows;
  outlets = outlets;
}

-- an area is 0 to 2^40
abbrev pub IsArea : ℤ → Type 0
IsArea area = IsFromℤ 0 MOST_AREA area

-- a mesh has an area for each cell of its mosaic
pub record IsMesh (mesh : Mesh) : Type 0 where
  pub count : length mesh.area ≡ cells_of mesh.mosaic.tiles
  pub each : All IsArea mesh.area

-- at most 2^20 exchange cells, each with an area
pub record AreRows (land_rows ocean_rows : List XRow) : Type 0 where
  pub few : length land_rows + length ocean_rows ≤ MOST_EXCHANGE_CELLS
  pub land : All (λ (row : XRow). IsArea row.area) land_rows
  pub ocean : All (λ (row : XRow). IsArea row.area) ocean_rows

-- at most 2^18 outlets, each with a weight of 0 to 2^20
pub record AreOutlets (outlets : List Outlet) : Type 0 where
  pub few : length outlets ≤ MOST_OUTLETS
  pub each : All (λ (outlet : Outlet). IsFromℤ 0 MOST_WEIGHT outlet.weight) outlets

-- 1 to 8 layers, 1 to 5 categories
pub record IsColumn (column : Column) : Type 0 where
  pub layers : IsFrom 1 MOST_LAYERS column.layers
  pub categories : IsFrom 1 MOST_CATEGORIES column.categories
