-- The cells that exchange cells, outlets and cells are of, at the piece that posts and at the piece that takes.
use Rattle.std.specs.Prelude.{ℕ, ◌-◌, ◌==◌, List, [], map, slice_index_or}
use Rattle.cpl_mosaic.specs.declared.parts.CellId.{CellId}
use Rattle.cpl_mosaic.specs.Contacts.{cells_of}
use Rattle.cpl_mosaic.specs.Cells.{cell_of}
use Rattle.std.specs.List.{range_with_len}
use Rattle.cpl_layout.specs.declared.piece.Piece.{Piece}
use Rattle.cpl_layout.specs.Layouts.{Cuts}
use Rattle.cpl_layout.specs.Pieces.{owner_of}
use Rattle.cpl_layout.specs.Own.{place_number}
use Rattle.cpl_xgrid.specs.declared.grid.Grid.{Grid}
use Rattle.cpl_xgrid.specs.declared.parts.XRow.{XRow}
use Rattle.cpl_xgrid.specs.Groups.{numbers_from}
use Rattle.cpl_wires.specs.declared.parts.Purpose.{Purpose}
use Rattle.cpl_wires.specs.declared.parts.Purpose.TheVariants.{LandToAir, IceToAir, AirToLand, AirToIce, LandToIce, IceToOcean, OceanToIce}
use Rattle.cpl_wires.specs.Settings.{Setting, layout_of, base_of, component_of}
use Rattle.cpl_wires.specs.Tables.{Pair, row_pair, outlet_pair, same_pair}
use Rattle.cpl_rows.specs.declared.ends.End.{End}
use Rattle.cpl_rows.specs.declared.ends.End.TheVariants.{From, To}

-- an exchange cell's cell of the surface, and then that of the air
abbrev pub row_back : XRow → Pair
row_back row = (row.other, row.air)

-- Of each exchange cell, outlet or cell that edges of a purpose carry, in the order of the file, its cell of the giver and its cell of
-- the taker.
abbrev pub ends_of : Grid → Purpose → List Pair
ends_of grid LandToAir = map row_back grid.xgrid.land_rows
ends_of grid IceToAir = map row_back grid.xgrid.ocean_rows
ends_of grid AirToLand = map row_pair grid.xgrid.land_rows
ends_of grid AirToIce = map row_pair grid.xgrid.ocean_rows
ends_of grid LandToIce = map outlet_pair grid.xgrid.outlets
ends_of grid IceToOcean = let tiles = grid.ocean.mosaic.tiles in map same_pair (map (cell_of tiles) (range_with_len 0 (cells_of tiles)))
ends_of grid OceanToIce = let tiles = grid.ocean.mosaic.tiles in map same_pair (map (cell_of tiles) (range_with_len 0 (cells_of tiles)))
ends_of grid purpose = []

abbrev pub end_of : End → Pair → CellId
end_of From pair = pair.0
end_of To pair = pair.1

-- what would be read past the end
abbrev pub no_cell : CellId
no_cell = record { tile = 0; i = 0; j = 0 }

-- their cells at one end
abbrev pub cells_by : Grid → Purpose → End → List CellId
cells_by grid purpose end = map (end_of end) (ends_of grid purpose)

-- the cell of one of them
abbrev pub cell_by : Grid → Purpose → End → (item : ℕ) → CellId
cell_by grid purpose end item = slice_index_or (cells_by grid purpose end) item no_cell

-- those whose cells lie in a piece of a layout
abbrev pub items_in : Cuts → (p : ℕ) → List CellId → List ℕ
items_in layout p cells = numbers_from (λ cell. owner_of layout cell == p) 0 cells

-- where the cell of one of them stands in a piece
abbrev pub place_by : Grid → Purpose → End → Piece → (item : ℕ) → ℕ
place_by grid purpose end piece item = place_number piece (cell_by grid purpose end item)

-- those of a purpose whose cells lie in a piece of a run, which takes
abbrev pub own_items : Setting → (piece : ℕ) → Purpose → List ℕ
own_items setting piece purpose =
    let component = component_of setting piece in items_in (layout_of setting component) (piece - base_of setting component) (cells_by setting.grid purpose To)
