-- Each exchange cell is counted once.
use Rattle.std.specs.Prelude.{◌≡◌, List, length, map, ℤ, ◌+ℤ◌}
use Rattle.std.specs.List.{range_with_len}
use Rattle.cpl_fixed.specs.Totals.{total_of}
use Rattle.cpl_mosaic.specs.declared.parts.Tile.{Tile}
use Rattle.cpl_mosaic.specs.declared.parts.CellId.{CellId}
use Rattle.cpl_mosaic.specs.Cells.{NumbersAgree}
use Rattle.cpl_xgrid.specs.declared.grid.Grid.{Grid}
use Rattle.cpl_xgrid.specs.declared.parts.XRow.{XRow}
use Rattle.cpl_xgrid.specs.declared.parts.XRef.{XRef}
use Rattle.cpl_xgrid.specs.declared.parts.Surface.{Surface}
use Rattle.cpl_xgrid.specs.declared.parts.Surface.TheVariants.{Land, Ocean}
use Rattle.cpl_xgrid.specs.Grids.{IsGrid}
use Rattle.cpl_xgrid.specs.Rows.{refs_of_air, refs_of_other}
use Rattle.cpl_xgrid.specs.Indexes.{for_cells}

-- a grid that keeps its rules, whose cells have their numbers
pub record IsNumbered (grid : Grid) : Type 0 where
  pub rules : IsGrid grid
  pub air : NumbersAgree grid.air.mosaic.tiles
  pub land : NumbersAgree grid.land.mosaic.tiles
  pub ocean : NumbersAgree grid.ocean.mosaic.tiles

-- the sum over the cells of a mosaic, of what each has in all its exchange cells
abbrev pub over_cells : List Tile → (CellId → List XRef) → (XRef → ℤ) → ℤ
over_cells tiles refs f = total_of (for_cells tiles (λ cell. total_of (map f (refs cell))))

-- the sum over the exchange cells of a list
abbrev pub over_list : Surface → List XRow → (XRef → ℤ) → ℤ
over_list list rows f = total_of (map (λ n. f (record { list = list; row = n })) (range_with_len 0 (length rows)))

-- Whatever each exchange cell has: over the cells of the air it sums to what both lists have, and over those of a surface to what
-- its list has.
pub record CountedOnce (grid : Grid) : Type 0 where
  pub air : (f : XRef → ℤ)
      → over_cells grid.air.mosaic.tiles (refs_of_air grid.xgrid.land_rows grid.xgrid.ocean_rows) f
      ≡ over_list Land grid.xgrid.land_rows f +ℤ over_list Ocean grid.xgrid.ocean_rows f
  pub land : (f : XRef → ℤ)
      → over_cells grid.land.mosaic.tiles (refs_of_other Land grid.xgrid.land_rows) f ≡ over_list Land grid.xgrid.land_rows f
  pub ocean : (f : XRef → ℤ)
      → over_cells grid.ocean.mosaic.tiles (refs_of_other Ocean grid.xgrid.ocean_rows) f ≡ over_list Ocean grid.xgrid.ocean_rows f
