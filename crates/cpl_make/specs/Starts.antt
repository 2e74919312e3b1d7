-- Made starts.
use Rattle.std.specs.Prelude.{ℕ, ◌*◌, List, length, replicate, ℤ, pos}
use Rattle.cpl_faces.specs.Faces.{faces_of}
use Rattle.cpl_state.specs.declared.whole.Whole.{Whole}
use Rattle.cpl_made_grid.specs.declared.recipe.Recipe.{Recipe}
use Rattle.cpl_make.specs.declared.sections.Section.TheVariants as section
use Rattle.cpl_made_grid.specs.Shapes.{ocean_count, ocean_mosaic}
use Rattle.cpl_made_grid.specs.Areas.{land_areas, ocean_areas}
use Rattle.cpl_made_grid.specs.Grids.{air_mesh}
use Rattle.cpl_make.specs.Sections.{made_section, made_parts}

abbrev pub zeros : ℕ → List ℤ
zeros count = replicate count (pos 0)

abbrev pub air_areas : (size : ℕ) → List ℤ
air_areas size = (air_mesh size).area

-- the made start: no ice, nothing in flight, and water at rest
unfoldable pub made_start : Recipe → Whole
made_start recipe = record {
  elapsed = pos 0;
  air_heat = made_section recipe.number section.AirHeat 1 (air_areas recipe.size);
  air_vapour = made_section recipe.number section.Vapour 1 (air_areas recipe.size);
  air_sun = made_section recipe.number section.Sun 1 (air_areas recipe.size);
  land_heat = made_section recipe.number section.LandHeat 1 (land_areas recipe);
  land_water = made_section recipe.number section.LandWater 1 (land_areas recipe);
  parts = made_parts 4 (ocean_areas recipe);
  ice = zeros (3 * ocean_count recipe.size);
  ice_heat = zeros (3 * ocean_count recipe.size);
  water = made_section recipe.number section.OceanWater 2 (ocean_areas recipe);
  heat = made_section recipe.number section.OceanHeat 2 (ocean_areas recipe);
  salt = made_section recipe.number section.Salt 2 (ocean_areas recipe);
  faces = zeros (2 * length (faces_of (ocean_mosaic recipe.size)));
  to_ice = zeros (5 * ocean_count recipe.size);
  to_ocean = zeros (3 * ocean_count recipe.size);
}
