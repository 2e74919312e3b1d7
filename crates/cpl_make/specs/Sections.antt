-- The sections of made starts, by places: layer by layer, the cells of a mosaic in whole order.
use Rattle.std.specs.Prelude.{ℕ, ◌+◌, ◌*◌, ◌/◌, ◌%◌, ◌==◌, ◌&&◌, ◌≤◌, List, map, length, All, ℤ, pos, if◌then◌else◌}
use Rattle.std.specs.List.{range_with_len}
use Rattle.cpl_fixed.specs.Amounts.{amount, at}
use Rattle.cpl_fixed.specs.declared.limits.TheConstants.{MOST_CELLS, PARTS, VAPOUR_HEAT}
use Rattle.cpl_xgrid.specs.Lists.{IsArea}
use Rattle.cpl_made_grid.specs.declared.stream.Purpose.TheVariants as purpose
use Rattle.cpl_make.specs.declared.sections.Section.{Section}
use Rattle.cpl_make.specs.declared.sections.Section.TheVariants.{AirHeat, Vapour, Sun, LandHeat, LandWater, OceanWater, OceanHeat, Salt}
use Rattle.cpl_made_grid.specs.Stream.{drawn}
use Rattle.cpl_made_grid.specs.Outlets.{is_wet}

-- the areas of the cells of a mosaic
pub record AreAreas (areas : List ℤ) : Type 0 where
  pub cells : length areas ≤ MOST_CELLS
  pub each : All IsArea areas

-- the vapour of a cell of the air of this area
abbrev pub vapour_of : (number place area : ℕ) → ℕ
vapour_of number place area = area * (drawn number purpose.Vapour place % 10) / 100

-- the water of a cell of a layer of the ocean
abbrev pub water_of : (area : ℕ) → ℕ
water_of area = 50 * area

-- the number at a place of a section, of a cell of this area
unfoldable pub made_number : (number : ℕ) → Section → (place area : ℕ) → ℕ
made_number number AirHeat place area = area * (2700 + drawn number purpose.AirHeat place % 300) + amount VAPOUR_HEAT * vapour_of number place area
made_number number Vapour place area = vapour_of number place area
made_number number Sun place area = area * (drawn number purpose.Sun place % 8)
made_number number LandHeat place area = area * (2700 + drawn number purpose.LandHeat place % 300)
made_number number LandWater place area = area * (drawn number purpose.LandWater place % 4)
made_number number OceanWater place area = water_of area
made_number number OceanHeat place area = water_of area * (1420 + drawn number purpose.OceanHeat place % 80)
made_number number Salt place area = water_of area / 28

-- the number at a place of a section of cells of these areas
abbrev pub number_at : (number : ℕ) → Section → (areas : List ℤ) → (place : ℕ) → ℤ
number_at number section areas place = pos (made_number number section place (amount (at areas (place % length areas))))

-- a section of this many layers
unfoldable pub made_section : (number : ℕ) → Section → (layers : ℕ) → (areas : List ℤ) → List ℤ
made_section number section layers areas = map (number_at number section areas) (range_with_len 0 (layers * length areas))

-- all of a cell with an area is open water: the first of its parts
abbrev pub part_at : (width : ℕ) → (areas : List ℤ) → (place : ℕ) → ℤ
part_at width areas place = if (place % width == 0) && is_wet areas (place / width) then PARTS else pos 0

unfoldable pub made_parts : (width : ℕ) → (areas : List ℤ) → List ℤ
made_parts width areas = map (part_at width areas) (range_with_len 0 (width * length areas))
