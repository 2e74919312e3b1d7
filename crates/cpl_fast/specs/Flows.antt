-- What flows through the elements of a list, by tables: the links of the rows, and the areas of the elements, part by part.
use Rattle.std.specs.Prelude.{◌≡◌, ℕ, ◌≤◌, List, map, length, ℤ, pos, ◌+ℤ◌, ◌≤ℤ◌, ◌<ℤ◌, slice_index_or}
use Rattle.std.specs.List.{range_with_len}
use Rattle.cpl_fixed.specs.Amounts.{IsAmount, at}
use Rattle.cpl_fixed.specs.Ranges.{IsFromℤ}
use Rattle.cpl_fixed.specs.Shares.{part_of}
use Rattle.cpl_fixed.specs.Totals.{total_of}
use Rattle.cpl_fixed.specs.declared.limits.TheConstants.{MOST_AREA}
use Rattle.cpl_fixed.specs.declared.rates.Rates.{Rates}
use Rattle.cpl_flux.specs.declared.parts.Part.{Part}
use Rattle.cpl_flux.specs.Elements.{IsAirSide, IsPart, IsElement, element_between}
use Rattle.cpl_flux.specs.declared.temperatures.TheConstants.{HOTTEST}
use Rattle.cpl_flux.specs.Temperatures.{part_temperature}
use Rattle.cpl_fast.specs.declared.portions.Portions.{Portions}
use Rattle.cpl_fast.specs.declared.flows.Flow.{Flow}
use Rattle.cpl_fast.specs.declared.flows.Link.{Link}
use Rattle.cpl_fast.specs.declared.flows.Sky.{Sky}
use Rattle.cpl_fast.specs.declared.flows.Tables.{Tables}
use Rattle.cpl_fast.specs.declared.part_lists.PartLists.{PartLists}
use Rattle.cpl_fast.specs.PartLists.{part_in}
use Rattle.cpl_fast.specs.Places.{AreEnds, place_in}

-- shares part way: what was given is the part of the weights before
pub record ArePortions (portions : Portions) : Type 0 where
  pub amount : IsAmount portions.amount
  pub from : pos 0 ≤ℤ portions.from
  pub within : portions.from ≤ℤ portions.whole
  pub some : pos 0 <ℤ portions.whole
  pub given : portions.given ≡ part_of portions.amount portions.from portions.whole

-- a cell of the air in range
pub record IsSky (sky : Sky) : Type 0 where
  pub air : IsAirSide sky.air
  pub temperature : sky.weather.temperature ≤ HOTTEST

-- ITEMS OF TABLES, and what would be read past their ends

abbrev pub no_link : Link
no_link = record { air = 0; surface = 0; before = pos 0 }

abbrev pub no_flow : Flow
no_flow = record { heat = pos 0; water = pos 0; sun = pos 0; rain = pos 0 }

abbrev pub no_sky : Sky
no_sky = record { air = record { heat = pos 0; vapour = pos 0; area = pos 0 }; weather = record { temperature = 0; humidity = 0 } }

abbrev pub link_at : List Link → ℕ → Link
link_at links n = slice_index_or links n no_link

abbrev pub flow_at : List Flow → ℕ → Flow
flow_at flows n = slice_index_or flows n no_flow

abbrev pub sky_at : List Sky → ℕ → Sky
sky_at skies n = slice_index_or skies n no_sky

-- ELEMENTS OF TABLES

-- the area of element k of a row
abbrev pub area_in : Tables → (row k : ℕ) → ℤ
area_in tables row k = at tables.areas.items (place_in (length tables.links.items) row k)

-- no element has an area behind those of its row that are looked at
abbrev pub AreUsed : Tables → Type 0
AreUsed tables = AreEnds tables.areas.items tables.used.items (length tables.links.items) tables.width

-- the areas before it in its cell of the air
abbrev pub before_in : Tables → (row k : ℕ) → ℤ
before_in tables row k = (link_at tables.links.items row).before +ℤ total_of (map (area_in tables row) (range_with_len 0 k))

-- its part of the surface, by the lists of the surface's parts
abbrev pub part_of_row : Tables → PartLists → (row k : ℕ) → Part
part_of_row tables parts row k = part_in parts (link_at tables.links.items row).surface k

-- its cell of the air
abbrev pub sky_of : List Sky → Tables → (row : ℕ) → Sky
sky_of skies tables row = sky_at skies (link_at tables.links.items row).air

-- an element lies in its cell of the air, of this area, behind those before it
pub record IsInCell (area : ℤ) (tables : Tables) (row k : ℕ) : Type 0 where
  pub range : IsFromℤ 1 MOST_AREA area
  pub least : pos 0 ≤ℤ area_in tables row k
  pub before : pos 0 ≤ℤ before_in tables row k
  pub within : (before_in tables row k +ℤ area_in tables row k) ≤ℤ area

-- what flows through an element on this part that absorbs this sun, before it rains
abbrev pub flow_through : Rates → Sky → Part → (b sun : ℤ) → Flow
flow_through rates sky part b sun = record {
  heat = (element_between rates sky.air sky.weather part (part_temperature rates part) b).heat;
  water = (element_between rates sky.air sky.weather part (part_temperature rates part) b).water;
  sun = sun;
  rain = pos 0;
}

-- what flows through element k of a row that absorbs this sun
unfoldable pub flow_in : Rates → Sky → Tables → PartLists → (row k : ℕ) → (sun : ℤ) → Flow
flow_in rates sky tables parts row k sun = flow_through rates sky (part_of_row tables parts row k) (area_in tables row k) sun

-- where the sun stands in the flows before
abbrev pub flow_again : Rates → Sky → Tables → PartLists → List Flow → (row k : ℕ) → Flow
flow_again rates sky tables parts flows row k = flow_in rates sky tables parts row k (flow_at flows (place_in (length tables.links.items) row k)).sun

-- all numbers of an element are in range, and it lies in its part
pub record CanFlow (sky : Sky) (tables : Tables) (parts : PartLists) (row k : ℕ) : Type 0 where
  pub seen : IsSky sky
  pub part : IsPart (part_of_row tables parts row k)
  pub element : IsElement sky.air (part_of_row tables parts row k) (area_in tables row k)
