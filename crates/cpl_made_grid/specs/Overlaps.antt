-- The exchange cells of made grids. The cells of the air, in whole order, and those of the ocean divide one line into equal parts each;
-- where two parts overlap there is an exchange cell, with the land or with the ocean.
use Rattle.std.specs.Prelude.{ℕ, ◌+◌, ◌-◌, ◌*◌, ◌/◌, ◌%◌, ◌==◌, ◌&&◌, not, nat_le, nat_lt, min, max, List, map, Bool, pos}
use Rattle.std.specs.List.{filter, flat_map, range_with_len}
use Rattle.cpl_mosaic.specs.Cells.{cell_of}
use Rattle.cpl_xgrid.specs.declared.parts.XRow.{XRow}
use Rattle.cpl_made_grid.specs.declared.stream.Purpose.TheVariants.{Block, Coast}
use Rattle.cpl_made_grid.specs.declared.recipe.Recipe.{Recipe}
use Rattle.cpl_made_grid.specs.Stream.{drawn}
use Rattle.cpl_made_grid.specs.Shapes.{sphere_tiles, ocean_tiles, air_count, ocean_count}

-- On a line of the length airs * oceans, how much the a-th of `airs` equal parts and the o-th of `oceans` equal parts have in common.
abbrev pub in_common : (airs oceans a o : ℕ) → ℕ
in_common airs oceans a o = min ((a + 1) * oceans) ((o + 1) * airs) - max (a * oceans) (o * airs)

-- the overlap of a cell of the air and one of the ocean
abbrev pub overlap : (size a o : ℕ) → ℕ
overlap size a o = in_common (air_count size) (ocean_count size) a o

-- the cells of the ocean that a cell of the air overlaps
unfoldable pub under : (size a : ℕ) → List ℕ
under size a = filter (λ o. nat_lt 0 (overlap size a o)) (range_with_len 0 (ocean_count size))

-- An overlap is land under a third of the blocks of `size` cells of the air, the first block aside, and there in three of four cells of
-- the ocean.
abbrev pub is_land : Recipe → (a o : ℕ) → Bool
is_land recipe a o =
    nat_le recipe.size a && (drawn recipe.number Block (a / recipe.size) % 3 == 0) && not (drawn recipe.number Coast o % 4 == 0)

-- an exchange cell with the land's cell under the air's, or with the ocean's cell
abbrev pub land_row : (size a o : ℕ) → XRow
land_row size a o =
    record { air = cell_of (sphere_tiles size) a; other = cell_of (sphere_tiles size) a; area = pos (overlap size a o) }

abbrev pub ocean_row : (size a o : ℕ) → XRow
ocean_row size a o =
    record { air = cell_of (sphere_tiles size) a; other = cell_of (ocean_tiles size) o; area = pos (overlap size a o) }

-- the exchange cells of a cell of the air
unfoldable pub land_rows_of : Recipe → (a : ℕ) → List XRow
land_rows_of recipe a = map (land_row recipe.size a) (filter (is_land recipe a) (under recipe.size a))

unfoldable pub ocean_rows_of : Recipe → (a : ℕ) → List XRow
ocean_rows_of recipe a = map (ocean_row recipe.size a) (filter (λ o. not (is_land recipe a o)) (under recipe.size a))

-- the exchange cells of all cells of the air, in their order
unfoldable pub land_rows : Recipe → List XRow
land_rows recipe = flat_map (land_rows_of recipe) (range_with_len 0 (air_count recipe.size))

unfoldable pub ocean_rows : Recipe → List XRow
ocean_rows recipe = flat_map (ocean_rows_of recipe) (range_with_len 0 (air_count recipe.size))
