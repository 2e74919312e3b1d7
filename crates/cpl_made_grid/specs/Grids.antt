-- Made grids.
use Rattle.std.specs.Prelude.{ℕ, replicate, pos}
use Rattle.cpl_mosaic.specs.declared.mosaic.Mesh.{Mesh}
use Rattle.cpl_xgrid.specs.declared.parts.Column.{Column}
use Rattle.cpl_xgrid.specs.declared.grid.Grid.{Grid}
use Rattle.cpl_xgrid.specs.Lists.{lists_of}
use Rattle.cpl_made_grid.specs.declared.recipe.Recipe.{Recipe}
use Rattle.cpl_made_grid.specs.Shapes.{sphere, ocean_mosaic, air_count, ocean_count}
use Rattle.cpl_made_grid.specs.Overlaps.{land_rows, ocean_rows}
use Rattle.cpl_made_grid.specs.Areas.{land_areas, ocean_areas}
use Rattle.cpl_made_grid.specs.Outlets.{outlets}

-- each cell of the air has as much of the line as the ocean has cells
abbrev pub air_mesh : (size : ℕ) → Mesh
air_mesh size = record { mosaic = sphere size; area = replicate (air_count size) (pos (ocean_count size)) }

abbrev pub land_mesh : Recipe → Mesh
land_mesh recipe = record { mosaic = sphere recipe.size; area = land_areas recipe }

abbrev pub ocean_mesh : Recipe → Mesh
ocean_mesh recipe = record { mosaic = ocean_mosaic recipe.size; area = ocean_areas recipe }

-- two layers of water, and three categories of ice
abbrev pub column : Column
column = record { layers = 2; categories = 3 }

-- the made grid
unfoldable pub made_grid : Recipe → Grid
made_grid recipe = record {
  air = air_mesh recipe.size;
  land = land_mesh recipe;
  ocean = ocean_mesh recipe;
  xgrid = lists_of (air_mesh recipe.size) (land_mesh recipe) (ocean_mesh recipe) (land_rows recipe) (ocean_rows recipe) (outlets recipe);
  column = column;
}
