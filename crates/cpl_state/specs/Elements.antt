-- The elements of an exchange grid. A row of the land list is one element; a row of the ocean list is one for each part of its
-- cell. An element is told by its row and the number k of its part, which is 0 on land.
use Rattle.std.specs.Prelude.{ℕ, List, [], ◌∷◌, map, take, ℤ, ◌+ℤ◌, slice_index_or}
use Rattle.std.specs.List.{range_with_len}
use Rattle.cpl_fixed.specs.Amounts.{at}
use Rattle.cpl_fixed.specs.Shares.{share, shares_of}
use Rattle.cpl_fixed.specs.Totals.{total_of}
use Rattle.cpl_mosaic.specs.declared.parts.Tile.{Tile}
use Rattle.cpl_mosaic.specs.Cells.{number_of, cell_of}
use Rattle.cpl_xgrid.specs.declared.grid.Grid.{Grid}
use Rattle.cpl_xgrid.specs.declared.parts.XRow.{XRow}
use Rattle.cpl_xgrid.specs.declared.parts.XRef.{XRef}
use Rattle.cpl_xgrid.specs.declared.parts.Surface.{Surface}
use Rattle.cpl_xgrid.specs.declared.parts.Surface.TheVariants.{Land, Ocean}
use Rattle.cpl_xgrid.specs.Rows.{air_cell, area_of, numbers_of, refs_to, refs_of_air, refs_of_other, rows_of}
use Rattle.cpl_xgrid.specs.Indexes.{no_row}
use Rattle.cpl_state.specs.declared.whole.Whole.{Whole}
use Rattle.cpl_state.specs.States.{all_of_cell, part_count}

-- ROWS

-- an exchange cell
abbrev pub row_at : Grid → XRef → XRow
row_at grid ref = slice_index_or (rows_of grid.xgrid ref.list) ref.row no_row

-- the tiles of the land, or of the ocean
abbrev pub tiles_of : Grid → Surface → List Tile
tiles_of grid Land = grid.land.mosaic.tiles
tiles_of grid Ocean = grid.ocean.mosaic.tiles

-- the numbers of the cells of an exchange cell: in the air, and on its surface
unfoldable pub air_number : Grid → XRef → ℕ
air_number grid ref = number_of grid.air.mosaic.tiles (row_at grid ref).air

unfoldable pub surface_number : Grid → XRef → ℕ
surface_number grid ref = number_of (tiles_of grid ref.list) (row_at grid ref).other

-- the exchange cells of cell n of the air, in element order, and those of a list alone
unfoldable pub refs_of_air_cell : Grid → ℕ → List XRef
refs_of_air_cell grid n = refs_of_air grid.xgrid.land_rows grid.xgrid.ocean_rows (cell_of grid.air.mosaic.tiles n)

unfoldable pub refs_between : Grid → Surface → ℕ → List XRef
refs_between grid list n = refs_to list (numbers_of air_cell (cell_of grid.air.mosaic.tiles n) (rows_of grid.xgrid list))

-- those of cell n of the land or of the ocean
unfoldable pub refs_of_surface_cell : Grid → Surface → ℕ → List XRef
refs_of_surface_cell grid list n = refs_of_other list (rows_of grid.xgrid list) (cell_of (tiles_of grid list) n)

-- AREAS

-- how many elements an exchange cell has
abbrev pub element_count : Grid → Surface → ℕ
element_count grid Land = 1
element_count grid Ocean = part_count grid

-- the areas of the elements of an exchange cell, in order: its own on land, and its shares over the parts of its cell on the ocean
abbrev pub areas_on : Grid → Whole → XRef → Surface → List ℤ
areas_on grid whole ref Land = (row_at grid ref).area ∷ []
areas_on grid whole ref Ocean = shares_of (row_at grid ref).area (all_of_cell (part_count grid) (surface_number grid ref) whole.parts)

unfoldable pub areas_in : Grid → Whole → XRef → List ℤ
areas_in grid whole ref = areas_on grid whole ref ref.list

-- the area of an element
abbrev pub element_area : Grid → Whole → XRef → ℕ → ℤ
element_area grid whole ref k = at (areas_in grid whole ref) k

-- SUMS

-- the sum over the elements of an exchange cell
abbrev pub over_elements : Grid → (XRef → ℕ → ℤ) → XRef → ℤ
over_elements grid f ref = total_of (map (f ref) (range_with_len 0 (element_count grid ref.list)))

-- the sum over the elements of exchange cells
abbrev pub over_all : Grid → (XRef → ℕ → ℤ) → List XRef → ℤ
over_all grid f refs = total_of (map (over_elements grid f) refs)

-- the sum over their elements in part k
abbrev pub over_part : (XRef → ℕ → ℤ) → ℕ → List XRef → ℤ
over_part f k refs = total_of (map (λ ref. f ref k) refs)

-- the area of part k of cell n of a surface, which is the sum over its elements
unfoldable pub part_area : Grid → Whole → Surface → (n k : ℕ) → ℤ
part_area grid whole list n k = over_part (element_area grid whole) k (refs_of_surface_cell grid list n)

-- SHARES

-- the areas of the exchange cells of the same cell of the air that come before one in element order
abbrev pub rows_before : Grid → XRef → Surface → ℤ
rows_before grid ref Land = area_of air_cell (row_at grid ref).air (take ref.row grid.xgrid.land_rows)
rows_before grid ref Ocean =
    area_of air_cell (row_at grid ref).air grid.xgrid.land_rows
    +ℤ area_of air_cell (row_at grid ref).air (take ref.row grid.xgrid.ocean_rows)

-- the areas of the elements of the same cell of the air that come before one
unfoldable pub area_before : Grid → Whole → XRef → ℕ → ℤ
area_before grid whole ref k = rows_before grid ref ref.list +ℤ total_of (take k (areas_in grid whole ref))

-- What an element has of an amount that is divided over all elements of its cell of the air by their areas, in element order:
-- the share between the areas before it and those with its own. All of them together are the area of the cell.
unfoldable pub share_at : Grid → Whole → (amount : ℤ) → XRef → ℕ → ℤ
share_at grid whole amount ref k =
    share amount (area_before grid whole ref k) (area_before grid whole ref k +ℤ element_area grid whole ref k)
    (at grid.air.area (air_number grid ref))
