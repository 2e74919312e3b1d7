-- When a fast step can be made, and what it keeps.
use Rattle.std.specs.Prelude.{◌≡◌, ℕ, ◌-◌, ◌<◌, ℤ, pos, ◌+ℤ◌, ◌-ℤ◌, ◌≤ℤ◌, length}
use Rattle.cpl_fixed.specs.Amounts.{IsAmount, at}
use Rattle.cpl_fixed.specs.Ranges.{IsFrom, AreRates}
use Rattle.cpl_fixed.specs.declared.limits.TheConstants.{MOST_TOTAL}
use Rattle.cpl_fixed.specs.declared.words.Quantity.TheVariants as quantity
use Rattle.cpl_flux.specs.Elements.{IsElement}
use Rattle.cpl_xgrid.specs.declared.grid.Grid.{Grid}
use Rattle.cpl_xgrid.specs.declared.parts.XRef.{XRef}
use Rattle.cpl_xgrid.specs.Grids.{IsGrid}
use Rattle.cpl_xgrid.specs.Rows.{rows_of}
use Rattle.cpl_state.specs.Diffusion.{AreAmounts, IsAirMesh}
use Rattle.cpl_state.specs.States.{air_cells, land_cells, ocean_cells, categories, air_side, IsMid}
use Rattle.cpl_state.specs.Elements.{air_number, surface_number, element_count, element_area, area_before}
use Rattle.cpl_state.specs.Stocks.{held_within}
use Rattle.cpl_state.specs.Budget.{sun_of_strength}
use Rattle.cpl_state.specs.FastStep.{Before, air_heat_after, air_vapour_after, category_heat_after, entered, fast_after, for_each, gave, heat_after_rain, heat_before_rain, land_after, left, skin_after, sun_on, surface_part, took, vapour_after_rain, vapour_before_rain}

-- the strength of the sun in the month, in thousandths
abbrev pub strength : Before → ℤ
strength s = at s.rates.month (s.month - 1)

-- A fast step can be made from a lawful state of a grid that keeps its rules and has no cell of the air without an area, where the totals of heat, with the month's sun of
-- one step, of water and of salt keep within 2^62 - 1.
pub record CanStep (s : Before) : Type 0 where
  pub grid : IsGrid s.grid
  pub air : IsAirMesh s.grid.air
  pub rates : AreRates s.rates
  pub month : IsFrom 1 12 s.month
  pub mid : IsMid s.grid s.mid
  pub heat : (held_within s.grid s.mid quantity.Heat +ℤ sun_of_strength (strength s) s.mid.whole.air_sun) ≤ℤ pos MOST_TOTAL
  pub water : held_within s.grid s.mid quantity.Water ≤ℤ pos MOST_TOTAL
  pub salt : held_within s.grid s.mid quantity.Salt ≤ℤ pos MOST_TOTAL

-- an element of the grid
pub record IsElementOf (grid : Grid) (ref : XRef) (k : ℕ) : Type 0 where
  pub row : ref.row < length (rows_of grid.xgrid ref.list)
  pub part : k < element_count grid ref.list

-- the areas of an element: in its cell of the air it comes behind those before it, and it lies in its part
pub record IsPlaced (s : Before) (ref : XRef) (k : ℕ) : Type 0 where
  pub air : air_number s.grid ref < air_cells s.grid
  pub before : pos 0 ≤ℤ area_before s.grid s.mid.whole ref k
  pub within : (area_before s.grid s.mid.whole ref k +ℤ element_area s.grid s.mid.whole ref k) ≤ℤ at s.grid.air.area (air_number s.grid ref)
  pub element : IsElement (air_side s.grid s.mid.whole (air_number s.grid ref))
      (surface_part s.grid s.mid ref.list (surface_number s.grid ref) k) (element_area s.grid s.mid.whole ref k)

-- what a fast step keeps: no number is negative or above the greatest total, what is given is taken, and nothing is made or lost
-- beside the sun that enters and the heat that leaves
pub record KeepsAll (s : Before) : Type 0 where
  pub placed : (ref : XRef) (k : ℕ) → IsElementOf s.grid ref k → IsPlaced s ref k
  pub sun : (n : ℕ) → n < air_cells s.grid → IsAmount (sun_on s n)
  pub heat_before_rain : (n : ℕ) → n < air_cells s.grid → IsAmount (heat_before_rain s n)
  pub vapour_before_rain : (n : ℕ) → n < air_cells s.grid → IsAmount (vapour_before_rain s n)
  pub heat_after_rain : AreAmounts (air_cells s.grid) (for_each (air_cells s.grid) (heat_after_rain s))
  pub vapour_after_rain : AreAmounts (air_cells s.grid) (for_each (air_cells s.grid) (vapour_after_rain s))
  pub land_heat : (n : ℕ) → n < land_cells s.grid → IsAmount (land_after s n).heat
  pub land_water : (n : ℕ) → n < land_cells s.grid → IsAmount (land_after s n).water
  pub skin_heat : (n : ℕ) → n < ocean_cells s.grid → IsAmount (skin_after s n).heat
  pub skin_water : (n : ℕ) → n < ocean_cells s.grid → IsAmount (skin_after s n).water
  pub ice_heat : (n k : ℕ) → n < ocean_cells s.grid → k < categories s.grid → IsAmount (category_heat_after s n k)
  pub sun_entered : IsAmount (entered s)
  pub heat_left : IsAmount (left s)
  pub exchange : gave s ≡ took s
  pub air_heat : AreAmounts (air_cells s.grid) (air_heat_after s)
  pub air_vapour : AreAmounts (air_cells s.grid) (air_vapour_after s)
  pub after : IsMid s.grid (fast_after s)
  pub heat : held_within s.grid (fast_after s) quantity.Heat ≡ held_within s.grid s.mid quantity.Heat +ℤ entered s -ℤ left s
  pub water : held_within s.grid (fast_after s) quantity.Water ≡ held_within s.grid s.mid quantity.Water
  pub salt : held_within s.grid (fast_after s) quantity.Salt ≡ held_within s.grid s.mid quantity.Salt
