-- Tables of a grid and of a state.
use Rattle.std.specs.Prelude.{◌≡◌, ℕ, ◌*◌, ◌<◌, List, length, ℤ}
use Rattle.cpl_fixed.specs.Amounts.{at}
use Rattle.cpl_xgrid.specs.declared.grid.Grid.{Grid}
use Rattle.cpl_xgrid.specs.declared.parts.Surface.{Surface}
use Rattle.cpl_xgrid.specs.Rows.{rows_of}
use Rattle.cpl_state.specs.declared.whole.Whole.{Whole}
use Rattle.cpl_state.specs.States.{air_cells, air_side}
use Rattle.cpl_state.specs.Elements.{element_count, element_area}
use Rattle.cpl_state.specs.FastStep.{Before}
use Rattle.cpl_flux.specs.Temperatures.{weather}
use Rattle.cpl_fast.specs.declared.flows.Sky.{Sky}
use Rattle.cpl_fast.specs.declared.flows.Tables.{Tables}
use Rattle.cpl_fast.specs.Flows.{AreUsed, sky_at}
use Rattle.cpl_fast.specs.Places.{place_in}
use Rattle.cpl_fast.specs.Tables.{AreLinks}

-- the areas of the elements of a list's rows, part by part
pub record AreElementAreas (grid : Grid) (whole : Whole) (list : Surface) (areas : List ℤ) : Type 0 where
  pub count : length areas ≡ length (rows_of grid.xgrid list) * element_count grid list
  pub each : (m k : ℕ) → m < length (rows_of grid.xgrid list) → k < element_count grid list
      → at areas (place_in (length (rows_of grid.xgrid list)) m k) ≡ element_area grid whole (record { list = list; row = m }) k

-- the tables of a list: its links, and the areas of its elements, before a step
pub record AreTables (s : Before) (list : Surface) (tables : Tables) : Type 0 where
  pub width : tables.width ≡ element_count s.grid list
  pub links : AreLinks s.grid list tables.links.items
  pub areas : AreElementAreas s.grid s.mid.whole list tables.areas.items
  pub used : AreUsed tables

-- the skies of all cells of the air before a step
pub record AreSkies (s : Before) (skies : List Sky) : Type 0 where
  pub count : length skies ≡ air_cells s.grid
  pub each : (n : ℕ) → n < air_cells s.grid
      → sky_at skies n ≡ record { air = air_side s.grid s.mid.whole n; weather = weather s.rates (air_side s.grid s.mid.whole n) }
