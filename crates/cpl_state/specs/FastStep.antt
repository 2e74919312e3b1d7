-- A fast step: what flows between the air and the surface, element by element, from the state before the step; then each cell's
-- numbers after it.
use Rattle.std.specs.Prelude.{ℕ, zero, suc, ◌+◌, ◌-◌, ◌*◌, ◌/◌, ◌%◌, min, List, [], ◌∷◌, map, ℤ, pos, ◌+ℤ◌, ◌-ℤ◌, ◌*ℤ◌}
use Rattle.std.specs.List.{range_with_len}
use Rattle.cpl_fixed.specs.Amounts.{amount, at}
use Rattle.cpl_fixed.specs.Shares.{part_of}
use Rattle.cpl_fixed.specs.Totals.{total_of}
use Rattle.cpl_fixed.specs.declared.limits.TheConstants.{VAPOUR_HEAT, WATER_HEAT}
use Rattle.cpl_fixed.specs.declared.gain.Gain.{Gain}
use Rattle.cpl_fixed.specs.declared.rates.Rates.{Rates}
use Rattle.cpl_xgrid.specs.declared.grid.Grid.{Grid}
use Rattle.cpl_xgrid.specs.declared.parts.XRef.{XRef}
use Rattle.cpl_xgrid.specs.declared.parts.Surface.{Surface}
use Rattle.cpl_xgrid.specs.declared.parts.Surface.TheVariants.{Land, Ocean}
use Rattle.cpl_flux.specs.declared.parts.Part.{Part}
use Rattle.cpl_flux.specs.declared.parts.Flux.{Flux}
use Rattle.cpl_flux.specs.declared.parts.Kind.TheVariants as kind
use Rattle.cpl_flux.specs.Elements.{element}
use Rattle.cpl_land.specs.declared.cell.LandCell.{LandCell}
use Rattle.cpl_land.specs.Land.{gained}
use Rattle.cpl_ice.specs.declared.parts.Salty.{Salty}
use Rattle.cpl_ice.specs.Cells.{skin_gained}
use Rattle.cpl_state.specs.declared.whole.Mid.{Mid}
use Rattle.cpl_state.specs.Diffusion.{diffused}
use Rattle.cpl_state.specs.States.{air_cells, land_cells, ocean_cells, categories, of_cell, air_side, land_cell, skin_of}
use Rattle.cpl_state.specs.Elements.{air_number, surface_number, refs_of_air_cell, refs_between, refs_of_surface_cell, element_area, over_all, over_part, part_area, share_at}

-- what a fast step goes by: the grid, the rates, the month, 1 to 12, and the state before the step
pub record Before : Type 0 where
  pub grid : Grid
  pub rates : Rates
  pub month : ℕ
  pub mid : Mid

-- PARTS OF THE SURFACE

-- part k of cell n of the ocean's mosaic: open water, which is the skin, and the categories
abbrev pub ocean_part : Grid → Mid → (n k : ℕ) → Part
ocean_part grid mid n zero = record {
  kind = kind.Water;
  heat = at mid.skin_heat n;
  mass = at mid.skin_water n;
  area = part_area grid mid.whole Ocean n 0;
}
ocean_part grid mid n (suc k) = record {
  kind = kind.Ice;
  heat = of_cell (categories grid) n k mid.whole.ice_heat;
  mass = of_cell (categories grid) n k mid.whole.ice;
  area = part_area grid mid.whole Ocean n (suc k);
}

-- a land cell is one part
abbrev pub land_part : Grid → Mid → (n : ℕ) → Part
land_part grid mid n = record {
  kind = kind.Land;
  heat = at mid.whole.land_heat n;
  mass = at mid.whole.land_water n;
  area = part_area grid mid.whole Land n 0;
}

abbrev pub surface_part : Grid → Mid → Surface → (n k : ℕ) → Part
surface_part grid mid Land n k = land_part grid mid n
surface_part grid mid Ocean n k = ocean_part grid mid n k

-- what a part throws back of the sun, in thousandths
abbrev pub albedo : Rates → Surface → ℕ → ℤ
albedo rates Land k = rates.land_albedo
albedo rates Ocean zero = rates.water_albedo
albedo rates Ocean (suc k) = rates.ice_albedo

-- FLOWS OF AN ELEMENT

-- what flows between the air and the surface
unfoldable pub flux : Before → XRef → ℕ → Flux
flux s ref k =
    element s.rates (air_side s.grid s.mid.whole (air_number s.grid ref))
    (surface_part s.grid s.mid ref.list (surface_number s.grid ref) k)
    (element_area s.grid s.mid.whole ref k)

-- the heat from the air to the surface, and the water from the surface to the air
abbrev pub heat_down : Before → XRef → ℕ → ℤ
heat_down s ref k = (flux s ref k).heat

abbrev pub water_up : Before → XRef → ℕ → ℤ
water_up s ref k = (flux s ref k).water

-- the sun of the month on cell n of the air
unfoldable pub sun_on : Before → ℕ → ℤ
sun_on s n = part_of (at s.mid.whole.air_sun n) (at s.rates.month (s.month - 1)) (pos 1_000)

-- what the surface absorbs of its share of the sun; the rest never enters
unfoldable pub absorbed : Before → XRef → ℕ → ℤ
absorbed s ref k =
    part_of (share_at s.grid s.mid.whole (sun_on s (air_number s.grid ref)) ref k) (pos 1_000 -ℤ albedo s.rates ref.list k) (pos 1_000)

-- THE AIR

-- the heat that cell n gives to space
unfoldable pub to_space : Before → ℕ → ℤ
to_space s n = part_of (at s.mid.whole.air_heat n) s.rates.ko (pos 1_048_576)

-- its heat and its vapour with what flowed through its elements, before it rains
unfoldable pub heat_before_rain : Before → ℕ → ℤ
heat_before_rain s n =
    at s.mid.whole.air_heat n -ℤ over_all s.grid (heat_down s) (refs_of_air_cell s.grid n)
    +ℤ (VAPOUR_HEAT *ℤ over_all s.grid (water_up s) (refs_of_air_cell s.grid n)) -ℤ to_space s n

unfoldable pub vapour_before_rain : Before → ℕ → ℤ
vapour_before_rain s n = at s.mid.whole.air_vapour n +ℤ over_all s.grid (water_up s) (refs_of_air_cell s.grid n)

-- its rain: half of the vapour above what its area holds, and at most what an eighth of its heat carries
unfoldable pub rain : Before → ℕ → ℤ
rain s n =
    pos (min ((amount (vapour_before_rain s n) - amount s.rates.rc * amount (at s.grid.air.area n)) / 2)
    (amount (heat_before_rain s n) / (8 * amount WATER_HEAT)))

-- its heat and its vapour after the rain
abbrev pub heat_after_rain : Before → ℕ → ℤ
heat_after_rain s n = heat_before_rain s n -ℤ (WATER_HEAT *ℤ rain s n)

abbrev pub vapour_after_rain : Before → ℕ → ℤ
vapour_after_rain s n = vapour_before_rain s n -ℤ rain s n

-- a number for each of so many cells, in whole order
abbrev pub for_each : ℕ → (ℕ → ℤ) → List ℤ
for_each cells f = map f (range_with_len 0 cells)

-- last, the air diffuses
unfoldable pub air_heat_after : Before → List ℤ
air_heat_after s = diffused s.grid.air (for_each (air_cells s.grid) (heat_after_rain s))

unfoldable pub air_vapour_after : Before → List ℤ
air_vapour_after s = diffused s.grid.air (for_each (air_cells s.grid) (vapour_after_rain s))

-- WHAT THE SURFACE TAKES

-- the rain on an element
unfoldable pub rain_on : Before → XRef → ℕ → ℤ
rain_on s ref k = share_at s.grid s.mid.whole (rain s (air_number s.grid ref)) ref k

-- what an element takes from the air, beside the sun: heat, less that of the vapour, with that of the rain; rain, less the vapour
abbrev pub heat_taken : Before → XRef → ℕ → ℤ
heat_taken s ref k = heat_down s ref k -ℤ (VAPOUR_HEAT *ℤ water_up s ref k) +ℤ (WATER_HEAT *ℤ rain_on s ref k)

abbrev pub water_taken : Before → XRef → ℕ → ℤ
water_taken s ref k = rain_on s ref k -ℤ water_up s ref k

-- what all elements of part k of a cell take
abbrev pub part_taken : Before → Surface → (n k : ℕ) → Gain
part_taken s list n k = record {
  heat = over_part (heat_taken s) k (refs_of_surface_cell s.grid list n);
  water = over_part (water_taken s) k (refs_of_surface_cell s.grid list n);
}

-- the sun that they absorb
abbrev pub part_absorbed : Before → Surface → (n k : ℕ) → ℤ
part_absorbed s list n k = over_part (absorbed s) k (refs_of_surface_cell s.grid list n)

abbrev pub with_sun : Gain → ℤ → Gain
with_sun gain sun = record { heat = gain.heat +ℤ sun; water = gain.water }

-- LAND

unfoldable pub land_taken : Before → ℕ → Gain
land_taken s n = part_taken s Land n 0

-- cell n of the land after the step
abbrev pub land_after : Before → ℕ → LandCell
land_after s n = gained (land_cell s.grid s.mid.whole n) (with_sun (land_taken s n) (part_absorbed s Land n 0))

-- ICE AND OPEN WATER

-- the rain on the categories of cell n, which goes to the skin
unfoldable pub rain_on_ice : Before → ℕ → ℤ
rain_on_ice s n = total_of (for_each (categories s.grid) (λ k. over_part (rain_on s) (k + 1) (refs_of_surface_cell s.grid Ocean n)))

-- the skin takes what its own elements take, and the rain on the ice with its heat
abbrev pub with_rain : Gain → ℤ → Gain
with_rain gain rain = record { heat = gain.heat +ℤ (WATER_HEAT *ℤ rain); water = gain.water +ℤ rain }

unfoldable pub skin_taken : Before → ℕ → Gain
skin_taken s n = with_rain (part_taken s Ocean n 0) (rain_on_ice s n)

-- a category, counted from 0, takes heat alone
unfoldable pub category_taken : Before → (n k : ℕ) → ℤ
category_taken s n k = over_part (heat_down s) (k + 1) (refs_of_surface_cell s.grid Ocean n)

-- the skin of cell n after the step, and the heat of its category k
abbrev pub skin_after : Before → ℕ → Salty
skin_after s n = skin_gained (skin_of s.mid n) (with_sun (skin_taken s n) (part_absorbed s Ocean n 0))

abbrev pub category_heat_after : Before → (n k : ℕ) → ℤ
category_heat_after s n k = of_cell (categories s.grid) n k s.mid.whole.ice_heat +ℤ category_taken s n k +ℤ part_absorbed s Ocean n (k + 1)

-- a number for each category of each cell, the categories of a cell in turn
abbrev pub for_each_category : Grid → (ℕ → ℕ → ℤ) → List ℤ
for_each_category grid f = for_each (categories grid * ocean_cells grid) (λ i. f (i / categories grid) (i % categories grid))

-- THE STATE AFTER THE STEP

unfoldable pub fast_after : Before → Mid
fast_after s = record s.mid {
  whole = record s.mid.whole {
    air_heat = air_heat_after s;
    air_vapour = air_vapour_after s;
    land_heat = for_each (land_cells s.grid) (λ n. (land_after s n).heat);
    land_water = for_each (land_cells s.grid) (λ n. (land_after s n).water);
    ice_heat = for_each_category s.grid (category_heat_after s);
  };
  skin_water = for_each (ocean_cells s.grid) (λ n. (skin_after s n).water);
  skin_heat = for_each (ocean_cells s.grid) (λ n. (skin_after s n).heat);
}

-- WHAT WENT IN AND OUT, AND BETWEEN THE AIR AND THE SURFACE

-- the sun that was absorbed, and the heat to space, of all cells of the air
unfoldable pub entered : Before → ℤ
entered s = total_of (for_each (air_cells s.grid) (λ n. over_all s.grid (absorbed s) (refs_of_air_cell s.grid n)))

unfoldable pub left : Before → ℤ
left s = total_of (for_each (air_cells s.grid) (to_space s))

-- what all cells of the air give to the land or to the ocean's grid
unfoldable pub heat_given : Before → Surface → ℤ
heat_given s list = total_of (for_each (air_cells s.grid) (λ n. over_all s.grid (heat_taken s) (refs_between s.grid list n)))

unfoldable pub water_given : Before → Surface → ℤ
water_given s list = total_of (for_each (air_cells s.grid) (λ n. over_all s.grid (water_taken s) (refs_between s.grid list n)))

-- what the cells of the land take, and what skins and categories take
unfoldable pub heat_to_land : Before → ℤ
heat_to_land s = total_of (for_each (land_cells s.grid) (λ n. (land_taken s n).heat))

unfoldable pub water_to_land : Before → ℤ
water_to_land s = total_of (for_each (land_cells s.grid) (λ n. (land_taken s n).water))

unfoldable pub heat_to_ice : Before → ℤ
heat_to_ice s =
    total_of (for_each (ocean_cells s.grid) (λ n. (skin_taken s n).heat))
    +ℤ total_of (for_each_category s.grid (category_taken s))

unfoldable pub water_to_ice : Before → ℤ
water_to_ice s = total_of (for_each (ocean_cells s.grid) (λ n. (skin_taken s n).water))

-- heat and water between air and land, then heat and water between air and ice
abbrev pub gave : Before → List ℤ
gave s = heat_given s Land ∷ water_given s Land ∷ heat_given s Ocean ∷ water_given s Ocean ∷ []

abbrev pub took : Before → List ℤ
took s = heat_to_land s ∷ water_to_land s ∷ heat_to_ice s ∷ water_to_ice s ∷ []
