-- The limits of a grid's numbers.
use Rattle.std.specs.Prelude.{◌≡◌, ℕ, ◌+◌, ◌≤◌, length, ℤ, pos, ◌≤ℤ◌, All}
use Rattle.cpl_fixed.specs.declared.limits.TheConstants.{MOST_CONTACTS, MOST_AREA, MOST_WEIGHT, MOST_IN_ROW, MOST_EXCHANGE_CELLS, MOST_OUTLETS, MOST_LAYERS, MOST_CATEGORIES}
use Rattle.cpl_mosaic.specs.declared.parts.CellId.{CellId}
use Rattle.cpl_mosaic.specs.declared.parts.Span.{Span}
use Rattle.cpl_mosaic.specs.declared.parts.Contact.{Contact}
use Rattle.cpl_mosaic.specs.declared.mosaic.Mesh.{Mesh}
use Rattle.cpl_mosaic.specs.Contacts.{AreTiles, cells_of}
use Rattle.cpl_xgrid.specs.declared.parts.XRow.{XRow}
use Rattle.cpl_xgrid.specs.declared.parts.Outlet.{Outlet}
use Rattle.cpl_xgrid.specs.declared.parts.Column.{Column}
use Rattle.cpl_gridfile.specs.GridFormat.{Parts}

-- from 0 to most
abbrev pub IsAmount : ℕ → ℤ → Type 0
IsAmount most amount = (pos 0 ≤ℤ amount) × (amount ≤ℤ pos most)

abbrev pub IsArea : ℤ → Type 0
IsArea area = IsAmount MOST_AREA area

-- a range's numbers are at most 65,535
pub record SpanIsWithin (span : Span) : Type 0 where
  pub tile : span.tile ≤ MOST_IN_ROW
  pub lo : span.lo ≤ MOST_IN_ROW
  pub hi : span.hi ≤ MOST_IN_ROW

pub record ContactIsWithin (contact : Contact) : Type 0 where
  pub first : SpanIsWithin contact.first
  pub second : SpanIsWithin contact.second

-- all numbers of a mesh are within the limits, with one area for each cell
pub record IsWithinLimits (mesh : Mesh) : Type 0 where
  pub tiles : AreTiles mesh.mosaic.tiles
  pub few : length mesh.mosaic.contacts ≤ MOST_CONTACTS
  pub contacts : All ContactIsWithin mesh.mosaic.contacts
  pub count : length mesh.area ≡ cells_of mesh.mosaic.tiles
  pub areas : All IsArea mesh.area

-- a cell's numbers are at most 65,535
pub record CellIsWithin (cell : CellId) : Type 0 where
  pub tile : cell.tile ≤ MOST_IN_ROW
  pub i : cell.i ≤ MOST_IN_ROW
  pub j : cell.j ≤ MOST_IN_ROW

pub record RowIsWithin (row : XRow) : Type 0 where
  pub air : CellIsWithin row.air
  pub other : CellIsWithin row.other
  pub area : IsArea row.area

pub record OutletIsWithin (outlet : Outlet) : Type 0 where
  pub land : CellIsWithin outlet.land
  pub ocean : CellIsWithin outlet.ocean
  pub weight : IsAmount MOST_WEIGHT outlet.weight

-- 1 to 8 layers, 1 to 5 categories
pub record ColumnIsWithin (column : Column) : Type 0 where
  pub layers_least : 1 ≤ column.layers
  pub layers_most : column.layers ≤ MOST_LAYERS
  pub categories_least : 1 ≤ column.categories
  pub categories_most : column.categories ≤ MOST_CATEGORIES

-- all numbers of a grid are within the limits
pub record AreWithinLimits (grid : Parts) : Type 0 where
  pub air : IsWithinLimits grid.air
  pub land : IsWithinLimits grid.land
  pub ocean : IsWithinLimits grid.ocean
  pub column : ColumnIsWithin grid.column
  pub land_rows : All RowIsWithin grid.land_rows
  pub ocean_rows : All RowIsWithin grid.ocean_rows
  pub few_rows : length grid.land_rows + length grid.ocean_rows ≤ MOST_EXCHANGE_CELLS
  pub outlets : All OutletIsWithin grid.outlets
  pub few_outlets : length grid.outlets ≤ MOST_OUTLETS
