-- The elements of a cell: their areas and their shares.
use Rattle.std.specs.Prelude.{◌≡◌, ℕ, ◌<◌, map, ℤ, pos, ◌≤ℤ◌}
use Rattle.std.specs.List.{range_with_len}
use Rattle.cpl_fixed.specs.Amounts.{at}
use Rattle.cpl_fixed.specs.Totals.{total_of}
use Rattle.cpl_mosaic.specs.declared.mosaic.Mesh.{Mesh}
use Rattle.cpl_mosaic.specs.Contacts.{cells_of}
use Rattle.cpl_xgrid.specs.declared.grid.Grid.{Grid}
use Rattle.cpl_xgrid.specs.declared.parts.Surface.{Surface}
use Rattle.cpl_xgrid.specs.declared.parts.Surface.TheVariants.{Land, Ocean}
use Rattle.cpl_state.specs.declared.whole.Whole.{Whole}
use Rattle.cpl_state.specs.States.{air_cells}
use Rattle.cpl_state.specs.Elements.{tiles_of, refs_of_air_cell, element_count, element_area, over_all, part_area, share_at}

-- the mesh of the land, or of the ocean
abbrev pub mesh_of : Grid → Surface → Mesh
mesh_of grid Land = grid.land
mesh_of grid Ocean = grid.ocean

-- The areas of the elements of a cell of the air sum to its area, and those of the parts of a cell of a surface to its area. The
-- shares of an amount that is divided over the elements of a cell of the air sum to the amount.
pub record ElementsAgree (grid : Grid) (whole : Whole) : Type 0 where
  pub air : (n : ℕ) → n < air_cells grid → over_all grid (element_area grid whole) (refs_of_air_cell grid n) ≡ at grid.air.area n
  pub surface : (list : Surface) (n : ℕ) → n < cells_of (tiles_of grid list)
      → total_of (map (part_area grid whole list n) (range_with_len 0 (element_count grid list))) ≡ at (mesh_of grid list).area n
  pub shares : (n : ℕ) (amount : ℤ) → n < air_cells grid → pos 0 ≤ℤ amount → over_all grid (share_at grid whole amount) (refs_of_air_cell grid n) ≡ amount
