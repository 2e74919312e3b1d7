-- Tiles that are small enough for any number of them.
use Rattle.std.specs.Prelude.{◌≤◌}
use Rattle.cpl_mosaic.specs.declared.parts.Tile.{Tile}

-- at most 64 by 64 cells
pub record IsSmall (tile : Tile) : Type 0 where
  pub nx_least : 1 ≤ tile.nx
  pub nx_most : tile.nx ≤ 64
  pub ny_least : 1 ≤ tile.ny
  pub ny_most : tile.ny ≤ 64
