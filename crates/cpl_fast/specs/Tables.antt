-- The tables that flows are looked up in: the links of the rows, the skies, and the areas of elements and of parts.
use Rattle.std.specs.Prelude.{◌≡◌, ℕ, ◌+◌, ◌*◌, ◌<◌, List, map, take, length, ℤ, pos, ◌+ℤ◌, ◌≤ℤ◌, slice_index_or, slice_range, All}
use Rattle.cpl_fixed.specs.Amounts.{at}
use Rattle.cpl_fixed.specs.Totals.{total_of}
use Rattle.cpl_fixed.specs.declared.limits.TheConstants.{MOST_AREA, MOST_TOTAL}
use Rattle.cpl_fixed.specs.declared.rates.Rates.{Rates}
use Rattle.cpl_mosaic.specs.declared.parts.Tile.{Tile}
use Rattle.cpl_mosaic.specs.Contacts.{cells_of}
use Rattle.cpl_mosaic.specs.Cells.{number_of, cell_of}
use Rattle.cpl_flux.specs.declared.parts.AirSide.{AirSide}
use Rattle.cpl_flux.specs.Temperatures.{weather}
use Rattle.cpl_xgrid.specs.declared.grid.Grid.{Grid}
use Rattle.cpl_xgrid.specs.declared.parts.XRow.{XRow}
use Rattle.cpl_xgrid.specs.declared.parts.XRef.{XRef}
use Rattle.cpl_xgrid.specs.declared.parts.Surface.{Surface}
use Rattle.cpl_xgrid.specs.declared.parts.Surface.TheVariants.{Land, Ocean}
use Rattle.cpl_xgrid.specs.Lists.{IsArea, XGridLists}
use Rattle.cpl_xgrid.specs.Rows.{air_cell, other_cell, area_of, refs_of_other, rows_of}
use Rattle.cpl_xgrid.specs.Indexes.{AreCells, no_row}
use Rattle.cpl_state.specs.Elements.{air_number, surface_number, rows_before}
use Rattle.cpl_fast.specs.declared.flows.Link.{Link}
use Rattle.cpl_fast.specs.declared.flows.Sky.{Sky}
use Rattle.cpl_fast.specs.Flows.{link_at}
use Rattle.cpl_fast.specs.Places.{place_in}
use Rattle.cpl_fast.specs.Sums.{reaches}

-- LINKS

abbrev pub row_in : List XRow → ℕ → XRow
row_in rows m = slice_index_or rows m no_row

-- the link of row m, where its cell of the air has this area in exchange cells of other lists before it
abbrev pub link_by : (air tiles : List Tile) → List XRow → (start : ℕ → ℤ) → ℕ → Link
link_by air tiles rows start m = record {
  air = number_of air (row_in rows m).air;
  surface = number_of tiles (row_in rows m).other;
  before = start (number_of air (row_in rows m).air) +ℤ area_of air_cell (row_in rows m).air (take m rows);
}

-- rows in their mosaics, whose areas with those before keep within the greatest area
pub record CanLink (air tiles : List Tile) (rows : List XRow) (areas : List ℤ) : Type 0 where
  pub airs : AreCells air (map air_cell rows)
  pub others : AreCells tiles (map other_cell rows)
  pub ranges : All (λ (row : XRow). IsArea row.area) rows
  pub cells : length areas ≡ cells_of air
  pub least : (c : ℕ) → c < cells_of air → pos 0 ≤ℤ at areas c
  pub most : (c : ℕ) → c < cells_of air → (at areas c +ℤ area_of air_cell (cell_of air c) rows) ≤ℤ pos MOST_AREA

-- the first n rows have their links, and each cell of the air has the areas of its exchange cells so far
pub record AreLinked (air tiles : List Tile) (rows : List XRow) (n : ℕ) (old : List ℤ) (links : List Link) (new : List ℤ) : Type 0 where
  pub count : length links ≡ n
  pub each : (m : ℕ) → m < n → link_at links m ≡ link_by air tiles rows (at old) m
  pub cells : length new ≡ length old
  pub areas : (c : ℕ) → c < cells_of air → at new c ≡ at old c +ℤ area_of air_cell (cell_of air c) (take n rows)

-- the links of a list of a grid
pub record IsLink (grid : Grid) (list : Surface) (m : ℕ) (link : Link) : Type 0 where
  pub air : link.air ≡ air_number grid (record { list = list; row = m })
  pub surface : link.surface ≡ surface_number grid (record { list = list; row = m })
  pub before : link.before ≡ rows_before grid (record { list = list; row = m }) list

pub record AreLinks (grid : Grid) (list : Surface) (links : List Link) : Type 0 where
  pub count : length links ≡ length (rows_of grid.xgrid list)
  pub each : (m : ℕ) → m < length (rows_of grid.xgrid list) → IsLink grid list m (link_at links m)

-- the parts of the cell of the surface that row m is of
abbrev pub parts_of : List Link → (parts : List ℤ) → (width m : ℕ) → List ℤ
parts_of links parts width m = slice_range parts ((link_at links m).surface * width) ((link_at links m).surface * width + width)

-- SKIES

-- a cell of the air by its numbers
abbrev pub side_of : (heat vapour area : List ℤ) → ℕ → AirSide
side_of heat vapour area n = record { heat = at heat n; vapour = at vapour n; area = at area n }

-- its sky
abbrev pub sky_under : Rates → AirSide → Sky
sky_under rates air = record { air = air; weather = weather rates air }

abbrev pub sky_by : Rates → (heat vapour area : List ℤ) → ℕ → Sky
sky_by rates heat vapour area n = sky_under rates (side_of heat vapour area n)

-- AREAS OF PARTS

-- the exchange cells of cell n of a surface
abbrev pub cells_on : XGridLists → Surface → ℕ → List XRef
cells_on xgrid Land n = refs_of_other Land xgrid.land_rows (cell_of xgrid.land n)
cells_on xgrid Ocean n = refs_of_other Ocean xgrid.ocean_rows (cell_of xgrid.ocean n)

-- the area of part k of exchange cells: the sum over its elements, in a list of so many rows
unfoldable pub area_over : List XRef → (areas : List ℤ) → (rows k : ℕ) → ℤ
area_over refs areas rows k = total_of (map (λ (ref : XRef). at areas (place_in rows ref.row k)) refs)

-- exchange cells that have their elements in a table
pub record CanSumAreas (refs : List XRef) (areas : List ℤ) (rows width : ℕ) : Type 0 where
  pub reach : All (reaches rows) refs
  pub long : length areas ≡ rows * width
  pub most : (k : ℕ) → k < width → area_over refs areas rows k ≤ℤ pos MOST_TOTAL
