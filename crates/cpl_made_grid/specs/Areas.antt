-- The areas of the cells of the land and of the ocean: the sums of their exchange cells.
use Rattle.std.specs.Prelude.{List, ℤ}
use Rattle.cpl_mosaic.specs.declared.parts.Tile.{Tile}
use Rattle.cpl_xgrid.specs.declared.parts.XRow.{XRow}
use Rattle.cpl_xgrid.specs.Rows.{area_of, other_cell}
use Rattle.cpl_xgrid.specs.Indexes.{for_cells}
use Rattle.cpl_made_grid.specs.declared.recipe.Recipe.{Recipe}
use Rattle.cpl_made_grid.specs.Shapes.{sphere_tiles, ocean_tiles}
use Rattle.cpl_made_grid.specs.Overlaps.{land_rows, ocean_rows}

-- the sums of the areas of exchange cells by the cells of a mosaic
abbrev pub sums_of : List Tile → List XRow → List ℤ
sums_of tiles rows = for_cells tiles (λ cell. area_of other_cell cell rows)

unfoldable pub land_areas : Recipe → List ℤ
land_areas recipe = sums_of (sphere_tiles recipe.size) (land_rows recipe)

unfoldable pub ocean_areas : Recipe → List ℤ
ocean_areas recipe = sums_of (ocean_tiles recipe.size) (ocean_rows recipe)
