-- Room for fast steps, and what a fast step goes by.
use Rattle.std.specs.Prelude.{◌≡◌, ℕ, ◌*◌, ◌<◌, List, length, ℤ}
use Rattle.cpl_fixed.specs.Amounts.{at}
use Rattle.cpl_fixed.specs.declared.rates.Rates.{Rates}
use Rattle.cpl_diffusion.specs.Steps.{AreWays, IsRoom}
use Rattle.cpl_mosaic.specs.Contacts.{cells_of}
use Rattle.cpl_xgrid.specs.declared.grid.Grid.{Grid}
use Rattle.cpl_xgrid.specs.declared.parts.Surface.{Surface}
use Rattle.cpl_xgrid.specs.declared.parts.Surface.TheVariants.{Land, Ocean}
use Rattle.cpl_xgrid.specs.Rows.{rows_of}
use Rattle.cpl_state.specs.declared.whole.Whole.{Whole}
use Rattle.cpl_state.specs.declared.whole.Mid.{Mid}
use Rattle.cpl_state.specs.States.{air_cells, land_cells, ocean_cells}
use Rattle.cpl_state.specs.Elements.{element_count, part_area, tiles_of}
use Rattle.cpl_state.specs.FastStep.{Before, absorbed}
use Rattle.cpl_fast.specs.declared.flows.Flow.{Flow}
use Rattle.cpl_fast.specs.declared.flows.Tables.{Tables}
use Rattle.cpl_fast.specs.declared.room.FastRoom.{FastRoom}
use Rattle.cpl_fast.specs.Filled.{AreElementAreas}
use Rattle.cpl_fast.specs.Flows.{AreUsed, flow_at}
use Rattle.cpl_fast.specs.Places.{AreEnds, place_in}
use Rattle.cpl_fast.specs.Sums.{AreClear, AreStill}
use Rattle.cpl_fast.specs.Tables.{AreLinks}

-- what a fast step goes by, from its parts
abbrev pub before_step : Grid → Rates → (month : ℕ) → Mid → Before
before_step grid rates month mid = record { grid = grid; rates = rates; month = month; mid = mid }

-- the tables of a list: its links, and room for the areas of its elements
pub record HasTables (grid : Grid) (list : Surface) (tables : Tables) : Type 0 where
  pub width : tables.width ≡ element_count grid list
  pub links : AreLinks grid list tables.links.items
  pub areas : length tables.areas.items ≡ length (rows_of grid.xgrid list) * element_count grid list
  pub used : AreUsed tables

-- room for the fast steps of a grid: the faces of the air and the links of the rows, and a number for whatever a step writes; nothing
-- flows through elements whose area in the tables is 0
pub record IsFastRoom (grid : Grid) (room : FastRoom) : Type 0 where
  pub ways : AreWays grid.air room.ways
  pub diffusion : IsRoom (air_cells grid) room.diffusion
  pub land : HasTables grid Land room.land
  pub ocean : HasTables grid Ocean room.ocean
  pub land_area : length room.land_area.items ≡ land_cells grid
  pub ocean_area : length room.ocean_area.items ≡ ocean_cells grid * element_count grid Ocean
  pub ocean_used : AreEnds room.ocean_area.items room.ocean_used.items (ocean_cells grid) (element_count grid Ocean)
  pub land_flows : length room.land_flows.items ≡ length (rows_of grid.xgrid Land)
  pub ocean_flows : length room.ocean_flows.items ≡ length (rows_of grid.xgrid Ocean) * element_count grid Ocean
  pub skies : length room.skies.items ≡ air_cells grid
  pub rain : length room.rain.items ≡ air_cells grid
  pub air_heat : length room.air_heat.items ≡ air_cells grid
  pub air_vapour : length room.air_vapour.items ≡ air_cells grid
  pub land_clear : AreClear room.land room.land_flows.items
  pub ocean_clear : AreClear room.ocean room.ocean_flows.items

-- the areas of the parts of a surface, part by part
pub record ArePartAreas (grid : Grid) (whole : Whole) (list : Surface) (areas : List ℤ) : Type 0 where
  pub count : length areas ≡ cells_of (tiles_of grid list) * element_count grid list
  pub each : (n k : ℕ) → n < cells_of (tiles_of grid list) → k < element_count grid list
      → at areas (place_in (cells_of (tiles_of grid list)) n k) ≡ part_area grid whole list n k

-- room in which nothing flows at all
pub record IsStillRoom (grid : Grid) (fast : FastRoom) : Type 0 where
  pub room : IsFastRoom grid fast
  pub land : AreStill fast.land fast.land_flows.items
  pub ocean : AreStill fast.ocean fast.ocean_flows.items

-- room in which the areas of a state's elements and parts stand; they depend on its parts alone
pub record HasAreas (grid : Grid) (whole : Whole) (fast : FastRoom) : Type 0 where
  pub land : AreElementAreas grid whole Land fast.land.areas.items
  pub ocean : AreElementAreas grid whole Ocean fast.ocean.areas.items
  pub land_area : ArePartAreas grid whole Land fast.land_area.items
  pub ocean_area : ArePartAreas grid whole Ocean fast.ocean_area.items

-- the sun that each element of a list absorbs stands in its flow
pub record HaveSuns (s : Before) (list : Surface) (flows : List Flow) : Type 0 where
  pub each : (m k : ℕ) → m < length (rows_of s.grid.xgrid list) → k < element_count s.grid list
      → (flow_at flows (place_in (length (rows_of s.grid.xgrid list)) m k)).sun ≡ absorbed s (record { list = list; row = m }) k

-- room in which the areas of the elements and the parts stand before a step, and the sun that the elements absorb; they depend on the
-- grid, the rates, the month, and of the state on the parts and the air's sun alone
pub record IsDivided (s : Before) (fast : FastRoom) : Type 0 where
  pub room : IsFastRoom s.grid fast
  pub land : AreElementAreas s.grid s.mid.whole Land fast.land.areas.items
  pub ocean : AreElementAreas s.grid s.mid.whole Ocean fast.ocean.areas.items
  pub land_area : ArePartAreas s.grid s.mid.whole Land fast.land_area.items
  pub ocean_area : ArePartAreas s.grid s.mid.whole Ocean fast.ocean_area.items
  pub land_suns : HaveSuns s Land fast.land_flows.items
  pub ocean_suns : HaveSuns s Ocean fast.ocean_flows.items
