-- Exchange cells and outlets by the cells that they are of.
use Rattle.std.specs.Prelude.{ℕ, ◌&&◌, nat_lt, Bool, List, ◌++◌, map, ℤ}
use Rattle.std.specs.List.{filter}
use Rattle.cpl_fixed.specs.Totals.{total_of}
use Rattle.cpl_mosaic.specs.declared.parts.Tile.{Tile}
use Rattle.cpl_mosaic.specs.declared.parts.CellId.{CellId}
use Rattle.cpl_mosaic.specs.Sides.{tile_at, is_same_cell}
use Rattle.cpl_xgrid.specs.declared.parts.XRow.{XRow}
use Rattle.cpl_xgrid.specs.declared.parts.XRef.{XRef}
use Rattle.cpl_xgrid.specs.declared.parts.Outlet.{Outlet}
use Rattle.cpl_xgrid.specs.declared.parts.Surface.{Surface}
use Rattle.cpl_xgrid.specs.declared.parts.Surface.TheVariants.{Land, Ocean}
use Rattle.cpl_xgrid.specs.Lists.{XGridLists}
use Rattle.cpl_xgrid.specs.Groups.{numbers_from}

-- the cell lies in a tile of the mosaic
abbrev pub is_cell : List Tile → CellId → Bool
is_cell tiles cell = nat_lt cell.i (tile_at tiles cell.tile).nx && nat_lt cell.j (tile_at tiles cell.tile).ny

-- the parent cells of an exchange cell
abbrev pub air_cell : XRow → CellId
air_cell row = row.air

abbrev pub other_cell : XRow → CellId
other_cell row = row.other

-- the cell of the land that an outlet is of
abbrev pub land_cell : Outlet → CellId
land_cell outlet = outlet.land

-- the numbers of the items that are of this cell, in order
abbrev pub numbers_of : {T : Type 0} → (T → CellId) → CellId → List T → List ℕ
numbers_of cell_of cell items = numbers_from (λ item. is_same_cell (cell_of item) cell) 0 items

-- the sum of the areas of the exchange cells that are of this cell
abbrev pub area_of : (XRow → CellId) → CellId → List XRow → ℤ
area_of cell_of cell rows = total_of (map (λ (row : XRow). row.area) (filter (λ row. is_same_cell (cell_of row) cell) rows))

-- exchange cells of a list by their numbers
abbrev pub refs_to : Surface → List ℕ → List XRef
refs_to list numbers = map (λ n. record { list = list; row = n }) numbers

-- The exchange cells of a cell, in element order: the land list, then the ocean list, each in the order of the file.
abbrev pub refs_of_air : List XRow → List XRow → CellId → List XRef
refs_of_air land_rows ocean_rows cell =
    refs_to Land (numbers_of air_cell cell land_rows) ++ refs_to Ocean (numbers_of air_cell cell ocean_rows)

abbrev pub refs_of_other : Surface → List XRow → CellId → List XRef
refs_of_other list rows cell = refs_to list (numbers_of other_cell cell rows)

-- the numbers of the outlets of a land cell, in the order of the file
abbrev pub outlets_of : List Outlet → CellId → List ℕ
outlets_of outlets cell = numbers_of land_cell cell outlets

-- the exchange cells of a list
abbrev pub rows_of : XGridLists → Surface → List XRow
rows_of xgrid Land = xgrid.land_rows
rows_of xgrid Ocean = xgrid.ocean_rows
