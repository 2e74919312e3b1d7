-- The cells of exchange cells, outlets and cells.
use Rattle.std.proofs.Common.{◌≡◌, ◌∙◌, sym, ap, ℕ, ◌<◌, arith, List, length, get_or, map, inl, inr, ◌⊎◌}
use Rattle.std.specs.List.{range_with_len}
use Rattle.std.proofs.lemmas.List.{get_or-map, length-map}
use Rattle.std.proofs.lemmas.List.FromFn.{length-map-range_with_len, get_or-map-range_with_len}
use Rattle.cpl_mosaic.specs.declared.parts.CellId.{CellId}
use Rattle.cpl_mosaic.specs.Contacts.{cells_of}
use Rattle.cpl_mosaic.specs.Cells.{cell_of}
use Rattle.cpl_xgrid.specs.declared.grid.Grid.{Grid}
use Rattle.cpl_wires.specs.declared.parts.Purpose.{Purpose}
use Rattle.cpl_wires.specs.declared.parts.Purpose.TheVariants.{IceToOcean, OceanToIce}
use Rattle.cpl_wires.specs.Tables.{Pair, same_pair}
use Rattle.cpl_rows.specs.declared.ends.End.{End}
use Rattle.cpl_rows.specs.Ends.{ends_of, end_of, cells_by, cell_by, no_cell}

-- THE OCEAN'S CELLS

abbrev pub sea_ends : Grid → List Pair
sea_ends grid = let tiles = grid.ocean.mosaic.tiles in map same_pair (map (cell_of tiles) (range_with_len 0 (cells_of tiles)))

module _ (grid : Grid) (purpose : Purpose) (of : (purpose ≡ IceToOcean) ⊎ (purpose ≡ OceanToIce)) where
  pub ends_are : ends_of grid purpose ≡ sea_ends grid
  ends_are = elim of [ inl is ↦ ap (ends_of grid) is | inr is ↦ ap (ends_of grid) is ]

  pub sea_count : length (ends_of grid purpose) ≡ cells_of grid.ocean.mosaic.tiles
  sea_count =
      let tiles = grid.ocean.mosaic.tiles in
      ap length ends_are ∙ length-map (map (cell_of tiles) (range_with_len 0 (cells_of tiles))) same_pair ∙ length-map-range_with_len (cell_of tiles) 0 (cells_of tiles)

  pub sea_end : (item : ℕ) (cell : CellId) → item < length (ends_of grid purpose) → cell ≡ cell_of grid.ocean.mosaic.tiles item → (cell, cell) ≡ get_or (ends_of grid purpose) item (no_cell, no_cell)
  sea_end item cell l is =
      let tiles = grid.ocean.mosaic.tiles in
      let count = sea_count in
      let long = length-map-range_with_len (cell_of tiles) 0 (cells_of tiles) in
      ap same_pair (is ∙ sym (get_or-map-range_with_len (cell_of tiles) 0 (cells_of tiles) item item no_cell (omega arith) (omega arith)))
      ∙ sym (get_or-map same_pair (map (cell_of tiles) (range_with_len 0 (cells_of tiles))) item no_cell (no_cell, no_cell) (omega arith))
      ∙ ap (λ (pairs : List Pair). get_or pairs item (no_cell, no_cell)) (sym ends_are)

-- AT AN END

module _ (grid : Grid) (purpose : Purpose) (end : End) where
  pub cells_count : length (cells_by grid purpose end) ≡ length (ends_of grid purpose)
  cells_count = length-map (ends_of grid purpose) (end_of end)

  pub cell_read : (item : ℕ) (pair : Pair) → item < length (ends_of grid purpose) → pair ≡ get_or (ends_of grid purpose) item (no_cell, no_cell) → end_of end pair ≡ cell_by grid purpose end item
  cell_read item pair l is = ap (end_of end) is ∙ sym (get_or-map (end_of end) (ends_of grid purpose) item (no_cell, no_cell) no_cell l)
