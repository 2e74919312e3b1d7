-- Cells of the land and of the ocean's mosaic by the flows of their elements.
use Rattle.std.specs.Prelude.{◌≡◌, ℕ, ◌+◌, ◌*◌, ◌<◌, ◌≤◌, List, map, length, ℤ, pos, ◌+ℤ◌, All}
use Rattle.std.specs.List.{range_with_len}
use Rattle.cpl_fixed.specs.Amounts.{IsAmount, at}
use Rattle.cpl_fixed.specs.Totals.{total_of}
use Rattle.cpl_fixed.specs.declared.limits.TheConstants.{MOST_CELLS, MOST_EXCHANGE_CELLS}
use Rattle.cpl_mosaic.specs.declared.parts.Tile.{Tile}
use Rattle.cpl_mosaic.specs.Cells.{cell_of}
use Rattle.cpl_mosaic.specs.Contacts.{cells_of}
use Rattle.cpl_xgrid.specs.Lists.{XGridLists}
use Rattle.cpl_xgrid.specs.Rows.{refs_of_other, rows_of}
use Rattle.cpl_xgrid.specs.declared.parts.XRef.{XRef}
use Rattle.cpl_xgrid.specs.declared.parts.Surface.{Surface}
use Rattle.cpl_xgrid.specs.declared.parts.Surface.TheVariants.{Land, Ocean}
use Rattle.cpl_fast.specs.declared.flows.Flow.{Flow}
use Rattle.cpl_fast.specs.declared.ocean.IceTaken.{IceTaken}
use Rattle.cpl_fast.specs.declared.sums.Sums.{Sums}
use Rattle.cpl_fast.specs.declared.sums.After.{After}
use Rattle.cpl_fast.specs.declared.sums.Taken.{Taken}
use Rattle.cpl_fast.specs.Places.{AreEnds, place_in}
use Rattle.cpl_fast.specs.Sums.{after, none, reaches, sums_in, taken, with_rain}

-- the exchange cells of cell n of a surface
abbrev pub tiles_on : XGridLists → Surface → List Tile
tiles_on xgrid Land = xgrid.land
tiles_on xgrid Ocean = xgrid.ocean

abbrev pub refs_on : XGridLists → Surface → ℕ → List XRef
refs_on xgrid list n = refs_of_other list (rows_of xgrid list) (cell_of (tiles_on xgrid list) n)

-- their elements stand in the table
pub record AreRowsOf (list : Surface) (xgrid : XGridLists) (flows : List Flow) (width n : ℕ) : Type 0 where
  pub few : length (refs_on xgrid list n) ≤ MOST_EXCHANGE_CELLS
  pub rows : All (reaches (length (rows_of xgrid list))) (refs_on xgrid list n)
  pub long : length flows ≡ length (rows_of xgrid list) * width

-- LAND

unfoldable pub land_sums : XGridLists → List Flow → ℕ → Sums
land_sums xgrid flows n = sums_in flows (length (rows_of xgrid Land)) 0 (refs_on xgrid Land n)

-- cell n after the step, from this heat and this water
unfoldable pub land_at : XGridLists → List Flow → (heat water : ℤ) → ℕ → After
land_at xgrid flows heat water n = after heat water (taken (land_sums xgrid flows n)) (land_sums xgrid flows n).sun

-- a cell that stays in range
pub record CanGainLand (xgrid : XGridLists) (flows : List Flow) (heat water : ℤ) (n : ℕ) : Type 0 where
  pub rows : AreRowsOf Land xgrid flows 1 n
  pub heat_range : IsAmount (after heat water (taken (land_sums xgrid flows n)) (land_sums xgrid flows n).sun).heat
  pub water_range : IsAmount (after heat water (taken (land_sums xgrid flows n)) (land_sums xgrid flows n).sun).water

-- lists of the land that can take what flows
pub record CanTakeLand (xgrid : XGridLists) (flows : List Flow) (heat water : List ℤ) : Type 0 where
  pub cells : length heat ≡ cells_of xgrid.land
  pub few : length heat ≤ MOST_CELLS
  pub count : length water ≡ length heat
  pub each : (n : ℕ) → n < length heat → CanGainLand xgrid flows (at heat n) (at water n) n

-- the lists after they took it
pub record HasTakenLand (xgrid : XGridLists) (flows : List Flow) (heat water new_heat new_water : List ℤ) : Type 0 where
  pub heat_count : length new_heat ≡ length heat
  pub water_count : length new_water ≡ length heat
  pub heat_after : (n : ℕ) → n < length heat → at new_heat n ≡ (land_at xgrid flows (at heat n) (at water n) n).heat
  pub water_after : (n : ℕ) → n < length heat → at new_water n ≡ (land_at xgrid flows (at heat n) (at water n) n).water

-- what the first cells take
abbrev pub taken_to : ℕ → (ℕ → Taken) → Taken
taken_to n taken_by = record {
  heat = total_of (map (λ k. (taken_by k).heat) (range_with_len 0 n));
  water = total_of (map (λ k. (taken_by k).water) (range_with_len 0 n));
}

-- ICE

-- the sums of part k of cell n
unfoldable pub ocean_sums : XGridLists → List Flow → (n k : ℕ) → Sums
ocean_sums xgrid flows n k = sums_in flows (length (rows_of xgrid Ocean)) k (refs_on xgrid Ocean n)

-- nothing flows through the parts of cell n that have the area 0
abbrev pub IsStill : XGridLists → List Flow → (area : List ℤ) → (categories n : ℕ) → Type 0
IsStill xgrid flows area categories n =
    (k : ℕ) → k < categories + 1 → at area (place_in (cells_of xgrid.ocean) n k) ≡ pos 0 → ocean_sums xgrid flows n k ≡ none

-- what a category gains, the sun with it
abbrev pub category_gain : XGridLists → List Flow → (n k : ℕ) → ℤ
category_gain xgrid flows n k =
    (ocean_sums xgrid flows n (k + 1)).heat +ℤ (ocean_sums xgrid flows n (k + 1)).sun

pub record CanGainIce (xgrid : XGridLists) (flows : List Flow) (categories : ℕ) (heat : List ℤ) (n k : ℕ) : Type 0 where
  pub range : IsAmount (at heat (n * categories + k) +ℤ category_gain xgrid flows n k)

-- the rain on all categories of a cell, and the heat that they take
unfoldable pub ice_of : XGridLists → List Flow → (categories n : ℕ) → IceTaken
ice_of xgrid flows categories n = record {
  rain = total_of (map (λ k. (ocean_sums xgrid flows n (k + 1)).rain) (range_with_len 0 categories));
  heat = total_of (map (λ k. (ocean_sums xgrid flows n (k + 1)).heat) (range_with_len 0 categories));
}

-- what the skin of a cell takes
abbrev pub skin_of : XGridLists → List Flow → (categories n : ℕ) → Taken
skin_of xgrid flows categories n = with_rain (taken (ocean_sums xgrid flows n 0)) (ice_of xgrid flows categories n).rain

-- the skin after the step, from this heat and this water, and what the cell takes with its categories
unfoldable pub skin_at : XGridLists → List Flow → (categories : ℕ) → (heat water : ℤ) → ℕ → After
skin_at xgrid flows categories heat water n = after heat water (skin_of xgrid flows categories n) (ocean_sums xgrid flows n 0).sun

pub record CanGainSkin (xgrid : XGridLists) (flows : List Flow) (categories : ℕ) (heat water : ℤ) (n : ℕ) : Type 0 where
  pub rows : AreRowsOf Ocean xgrid flows (categories + 1) n
  pub heat_range : IsAmount (skin_at xgrid flows categories heat water n).heat
  pub water_range : IsAmount (skin_at xgrid flows categories heat water n).water

-- the parts of so many cells: `area` has the area of each, part by part, and `used` how many of each cell are looked at
pub record AreIceParts (cells : ℕ) (area : List ℤ) (used : List ℕ) (categories : ℕ) : Type 0 where
  pub few : cells ≤ MOST_CELLS
  pub most : categories ≤ 5
  pub count : length area ≡ cells * (categories + 1)
  pub ends : AreEnds area used cells (categories + 1)

-- lists of categories and of skins that can take what flows
pub record CanTakeIce (xgrid : XGridLists) (flows : List Flow) (area : List ℤ) (used : List ℕ) (categories : ℕ) (ice heat water : List ℤ) : Type 0 where
  pub cells : length heat ≡ cells_of xgrid.ocean
  pub parts : AreIceParts (cells_of xgrid.ocean) area used categories
  pub ice_count : length ice ≡ categories * length heat
  pub water_count : length water ≡ length heat
  pub still : (n : ℕ) → n < length heat → IsStill xgrid flows area categories n
  pub skins : (n : ℕ) → n < length heat → CanGainSkin xgrid flows categories (at heat n) (at water n) n
  pub ices : (n k : ℕ) → n < length heat → k < categories → CanGainIce xgrid flows categories ice n k

-- the lists after they took it
pub record HasTakenIce (xgrid : XGridLists) (flows : List Flow) (categories : ℕ) (ice heat water new_ice new_heat new_water : List ℤ) : Type 0 where
  pub ice_count : length new_ice ≡ length ice
  pub heat_count : length new_heat ≡ length heat
  pub water_count : length new_water ≡ length heat
  pub ice_after : (n k : ℕ) → n < length heat → k < categories → at new_ice (n * categories + k) ≡ at ice (n * categories + k) +ℤ category_gain xgrid flows n k
  pub heat_after : (n : ℕ) → n < length heat → at new_heat n ≡ (skin_at xgrid flows categories (at heat n) (at water n) n).heat
  pub water_after : (n : ℕ) → n < length heat → at new_water n ≡ (skin_at xgrid flows categories (at heat n) (at water n) n).water

-- what cell n of the ocean's mosaic takes, its skin and its categories together
unfoldable pub ocean_at : XGridLists → List Flow → (categories n : ℕ) → Taken
ocean_at xgrid flows categories n = record {
  heat = (skin_of xgrid flows categories n).heat +ℤ (ice_of xgrid flows categories n).heat;
  water = (skin_of xgrid flows categories n).water +ℤ pos 0;
}
