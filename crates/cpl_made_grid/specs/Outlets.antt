-- The outlets of made grids: each cell of the land with an area has one.
use Rattle.std.specs.Prelude.{ℕ, ◌*◌, ◌/◌, ◌&&◌, not, nat_le, Bool, List, map, length, Option, unwrap_or, ℤ, pos}
use Rattle.std.specs.List.{filter, find, range_with_len}
use Rattle.std.specs.Ordering.{int_eq}
use Rattle.cpl_fixed.specs.Amounts.{at}
use Rattle.cpl_mosaic.specs.Cells.{cell_of}
use Rattle.cpl_xgrid.specs.declared.parts.Outlet.{Outlet}
use Rattle.cpl_made_grid.specs.declared.recipe.Recipe.{Recipe}
use Rattle.cpl_made_grid.specs.Shapes.{sphere_tiles, ocean_tiles, air_count, ocean_count}
use Rattle.cpl_made_grid.specs.Areas.{land_areas, ocean_areas}

-- the cell has an area
abbrev pub is_wet : (areas : List ℤ) → (n : ℕ) → Bool
is_wet areas n = not (int_eq (at areas n) (pos 0))

-- the least cell with an area, from this one on
unfoldable pub wet_from : (areas : List ℤ) → (start : ℕ) → Option ℕ
wet_from areas start = find (λ n. nat_le start n && is_wet areas n) (range_with_len 0 (length areas))

-- the same, or where there is none the least cell with an area
abbrev pub wet_near : (areas : List ℤ) → (start : ℕ) → ℕ
wet_near areas start = unwrap_or (wet_from areas start) (unwrap_or (wet_from areas 0) 0)

-- the first cell of the ocean that a cell of the air overlaps
abbrev pub first_under : (size a : ℕ) → ℕ
first_under size a = a * ocean_count size / air_count size

-- from a cell of the land to the ocean near it
abbrev pub outlet_at : (size : ℕ) → (ocean_areas : List ℤ) → (a : ℕ) → Outlet
outlet_at size ocean_areas a = record {
  land = cell_of (sphere_tiles size) a;
  ocean = cell_of (ocean_tiles size) (wet_near ocean_areas (first_under size a));
  weight = pos 1;
}

-- the outlets of land and ocean of these areas
abbrev pub outlets_between : (size : ℕ) → (land_areas ocean_areas : List ℤ) → List Outlet
outlets_between size land_areas ocean_areas =
    map (outlet_at size ocean_areas) (filter (is_wet land_areas) (range_with_len 0 (length land_areas)))

unfoldable pub outlets : Recipe → List Outlet
outlets recipe = outlets_between recipe.size (land_areas recipe) (ocean_areas recipe)
