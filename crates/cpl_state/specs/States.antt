-- The states of a coupled grid: their sizes, when they are lawful, and the numbers of a cell.
use Rattle.std.specs.Prelude.{◌≡◌, ◌≢◌, ◌⊎◌, ℕ, ◌+◌, ◌*◌, ◌<◌, nat_lt, List, map, length, ℤ, pos, ◌≤ℤ◌, neg_ℤ, if◌then◌else◌, All}
use Rattle.std.specs.List.{range_with_len}
use Rattle.cpl_fixed.specs.Amounts.{at}
use Rattle.cpl_fixed.specs.Totals.{total_of}
use Rattle.cpl_fixed.specs.declared.limits.TheConstants.{MOST_CATEGORIES, MOST_FACE, PARTS}
use Rattle.cpl_mosaic.specs.declared.mosaic.Mesh.{Mesh}
use Rattle.cpl_mosaic.specs.Contacts.{cells_of}
use Rattle.cpl_xgrid.specs.declared.grid.Grid.{Grid}
use Rattle.cpl_faces.specs.declared.face.Face.{Face}
use Rattle.cpl_faces.specs.Faces.{faces_of, face_in}
use Rattle.cpl_flux.specs.declared.parts.AirSide.{AirSide}
use Rattle.cpl_land.specs.declared.cell.LandCell.{LandCell}
use Rattle.cpl_ice.specs.declared.cell.IceCell.{IceCell}
use Rattle.cpl_ice.specs.declared.parts.Salty.{Salty}
use Rattle.cpl_ice.specs.declared.parts.ToIce.{ToIce}
use Rattle.cpl_state.specs.Stored.{IsStored}
use Rattle.cpl_state.specs.declared.whole.Whole.{Whole}
use Rattle.cpl_state.specs.declared.whole.Mid.{Mid}

-- SIZES

-- how many cells a mesh has
abbrev pub cells_in : Mesh → ℕ
cells_in mesh = cells_of mesh.mosaic.tiles

abbrev pub air_cells : Grid → ℕ
air_cells grid = cells_in grid.air

abbrev pub land_cells : Grid → ℕ
land_cells grid = cells_in grid.land

abbrev pub ocean_cells : Grid → ℕ
ocean_cells grid = cells_in grid.ocean

-- the faces of the ocean's mosaic, and how many there are
abbrev pub ocean_faces : Grid → List Face
ocean_faces grid = faces_of grid.ocean.mosaic

abbrev pub face_count : Grid → ℕ
face_count grid = length (ocean_faces grid)

abbrev pub layers : Grid → ℕ
layers grid = grid.column.layers

abbrev pub categories : Grid → ℕ
categories grid = grid.column.categories

-- open water and the categories
abbrev pub part_count : Grid → ℕ
part_count grid = categories grid + 1

-- the length of each list of a state
pub record HasLengths (grid : Grid) (whole : Whole) : Type 0 where
  pub air_heat : length whole.air_heat ≡ air_cells grid
  pub air_vapour : length whole.air_vapour ≡ air_cells grid
  pub air_sun : length whole.air_sun ≡ air_cells grid
  pub land_heat : length whole.land_heat ≡ land_cells grid
  pub land_water : length whole.land_water ≡ land_cells grid
  pub parts : length whole.parts ≡ part_count grid * ocean_cells grid
  pub ice : length whole.ice ≡ categories grid * ocean_cells grid
  pub ice_heat : length whole.ice_heat ≡ categories grid * ocean_cells grid
  pub water : length whole.water ≡ layers grid * ocean_cells grid
  pub heat : length whole.heat ≡ layers grid * ocean_cells grid
  pub salt : length whole.salt ≡ layers grid * ocean_cells grid
  pub faces : length whole.faces ≡ layers grid * face_count grid
  pub to_ice : length whole.to_ice ≡ 5 * ocean_cells grid
  pub to_ocean : length whole.to_ocean ≡ 3 * ocean_cells grid

-- NUMBERS OF A CELL

-- number k of cell n, where each cell has this many numbers in turn
abbrev pub of_cell : (width n k : ℕ) → List ℤ → ℤ
of_cell width n k xs = at xs (n * width + k)

-- the number of cell n in a layer, where each layer has this many cells in turn; faces alike
abbrev pub in_layer : (cells layer n : ℕ) → List ℤ → ℤ
in_layer cells layer n xs = at xs (layer * cells + n)

-- the numbers of cell n, where each cell has this many in turn
abbrev pub all_of_cell : (width n : ℕ) → List ℤ → List ℤ
all_of_cell width n xs = map (λ k. of_cell width n k xs) (range_with_len 0 width)

-- the same in a list of this length, filled up with zeros
abbrev pub filled_up : (most width n : ℕ) → List ℤ → List ℤ
filled_up most width n xs = map (λ k. if nat_lt k width then of_cell width n k xs else pos 0) (range_with_len 0 most)

-- the numbers of cell n in all layers, the top one first
abbrev pub column_of : (layers cells n : ℕ) → List ℤ → List ℤ
column_of layers cells n xs = map (λ layer. in_layer cells layer n xs) (range_with_len 0 layers)

-- a cell of the air
abbrev pub air_side : Grid → Whole → ℕ → AirSide
air_side grid whole n = record { heat = at whole.air_heat n; vapour = at whole.air_vapour n; area = at grid.air.area n }

-- a cell of the land
abbrev pub land_cell : Grid → Whole → ℕ → LandCell
land_cell grid whole n = record { heat = at whole.land_heat n; water = at whole.land_water n; area = at grid.land.area n }

-- the skin of a cell
abbrev pub skin_of : Mid → ℕ → Salty
skin_of mid n = record { water = at mid.skin_water n; heat = at mid.skin_heat n; salt = at mid.skin_salt n }

-- a cell of the ice, with its skin and its frazil
abbrev pub ice_cell : Grid → Mid → ℕ → IceCell
ice_cell grid mid n = record {
  area = at grid.ocean.area n;
  categories = categories grid;
  parts = filled_up (MOST_CATEGORIES + 1) (part_count grid) n mid.whole.parts;
  ice = filled_up MOST_CATEGORIES (categories grid) n mid.whole.ice;
  heat = filled_up MOST_CATEGORIES (categories grid) n mid.whole.ice_heat;
  frazil_water = at mid.frazil_water n;
  frazil_heat = at mid.frazil_heat n;
  skin = skin_of mid n;
}

-- a cell of a layer of the ocean
abbrev pub water_cell : Grid → Whole → (layer n : ℕ) → Salty
water_cell grid whole layer n = record {
  water = in_layer (ocean_cells grid) layer n whole.water;
  heat = in_layer (ocean_cells grid) layer n whole.heat;
  salt = in_layer (ocean_cells grid) layer n whole.salt;
}

-- the number of a face of a layer
abbrev pub face_number : Grid → Whole → (layer face : ℕ) → ℤ
face_number grid whole layer face = in_layer (face_count grid) layer face whole.faces

-- what flies to the ice of cell n, and to the ocean
abbrev pub flight_to_ice : Whole → ℕ → ToIce
flight_to_ice whole n = record {
  frazil_water = of_cell 5 n 0 whole.to_ice;
  frazil_heat = of_cell 5 n 1 whole.to_ice;
  skin = record { water = of_cell 5 n 2 whole.to_ice; heat = of_cell 5 n 3 whole.to_ice; salt = of_cell 5 n 4 whole.to_ice };
}

abbrev pub flight_to_ocean : Whole → ℕ → Salty
flight_to_ocean whole n = record { water = of_cell 3 n 0 whole.to_ocean; heat = of_cell 3 n 1 whole.to_ocean; salt = of_cell 3 n 2 whole.to_ocean }

-- LAWFUL STATES

-- a cell of this mesh without an area
abbrev pub IsDry : Mesh → ℕ → Type 0
IsDry mesh n = (n < cells_in mesh) × (at mesh.area n ≡ pos 0)

-- a cell of this mesh with an area
abbrev pub IsWet : Mesh → ℕ → Type 0
IsWet mesh n = (n < cells_in mesh) × (at mesh.area n ≢ pos 0)

-- Each list but that of the faces holds numbers that aren't negative and keep within 64 bits.
pub record AreStored (whole : Whole) : Type 0 where
  pub elapsed : IsStored whole.elapsed
  pub air_heat : All IsStored whole.air_heat
  pub air_vapour : All IsStored whole.air_vapour
  pub air_sun : All IsStored whole.air_sun
  pub land_heat : All IsStored whole.land_heat
  pub land_water : All IsStored whole.land_water
  pub parts : All IsStored whole.parts
  pub ice : All IsStored whole.ice
  pub ice_heat : All IsStored whole.ice_heat
  pub water : All IsStored whole.water
  pub heat : All IsStored whole.heat
  pub salt : All IsStored whole.salt
  pub to_ice : All IsStored whole.to_ice
  pub to_ocean : All IsStored whole.to_ocean

-- the numbers of a cell, of which there are this many in turn, are zeros
abbrev pub HasNone : (width n : ℕ) → List ℤ → Type 0
HasNone width n xs = (k : ℕ) → k < width → of_cell width n k xs ≡ pos 0

-- the numbers of a cell of a layer are zeros
abbrev pub HasNoneInLayers : (layers cells n : ℕ) → List ℤ → Type 0
HasNoneInLayers layers cells n xs = (layer : ℕ) → layer < layers → in_layer cells layer n xs ≡ pos 0

-- nothing is on a cell of the ocean's mosaic: neither parts nor ice nor water nor what flies
pub record IsEmptyColumn (grid : Grid) (whole : Whole) (n : ℕ) : Type 0 where
  pub parts : HasNone (part_count grid) n whole.parts
  pub ice : HasNone (categories grid) n whole.ice
  pub ice_heat : HasNone (categories grid) n whole.ice_heat
  pub water : HasNoneInLayers (layers grid) (ocean_cells grid) n whole.water
  pub heat : HasNoneInLayers (layers grid) (ocean_cells grid) n whole.heat
  pub salt : HasNoneInLayers (layers grid) (ocean_cells grid) n whole.salt
  pub to_ice : HasNone 5 n whole.to_ice
  pub to_ocean : HasNone 3 n whole.to_ocean

-- the face at a place of the list of the ocean's faces
abbrev pub face_at : Grid → ℕ → Face
face_at grid face = face_in (ocean_faces grid) face

-- a face one of whose cells is dry
abbrev pub IsDryFace : Grid → ℕ → Type 0
IsDryFace grid face = IsDry grid.ocean (face_at grid face).first ⊎ IsDry grid.ocean (face_at grid face).second

-- a number that a face may have: -2^40 to 2^40
abbrev pub IsFaceNumber : ℤ → Type 0
IsFaceNumber u = (neg_ℤ MOST_FACE ≤ℤ u) × (u ≤ℤ MOST_FACE)

-- the numbers of the faces are in range, and 0 where a cell is dry
pub record AreFaceNumbers (grid : Grid) (whole : Whole) : Type 0 where
  pub range : (layer face : ℕ) → layer < layers grid → face < face_count grid → IsFaceNumber (face_number grid whole layer face)
  pub dry : (layer face : ℕ) → layer < layers grid → face < face_count grid → IsDryFace grid face → face_number grid whole layer face ≡ pos 0

-- A lawful state of a grid: it has the grid's lengths, no number but a face's is negative, the parts of a cell with water sum to
-- 65536, cells without an area hold nothing, and the faces' numbers are in range.
pub record IsWhole (grid : Grid) (whole : Whole) : Type 0 where
  pub lengths : HasLengths grid whole
  pub stored : AreStored whole
  pub parts : (n : ℕ) → IsWet grid.ocean n → total_of (all_of_cell (part_count grid) n whole.parts) ≡ PARTS
  pub dry_land_heat : (n : ℕ) → IsDry grid.land n → at whole.land_heat n ≡ pos 0
  pub dry_land_water : (n : ℕ) → IsDry grid.land n → at whole.land_water n ≡ pos 0
  pub dry_ocean : (n : ℕ) → IsDry grid.ocean n → IsEmptyColumn grid whole n
  pub faces : AreFaceNumbers grid whole

-- a number for each cell of the ocean's mosaic, none negative, and 0 where the cell is dry
pub record IsOnOcean (grid : Grid) (xs : List ℤ) : Type 0 where
  pub count : length xs ≡ ocean_cells grid
  pub stored : All IsStored xs
  pub dry : (n : ℕ) → IsDry grid.ocean n → at xs n ≡ pos 0

-- a lawful state within a coupling step
pub record IsMid (grid : Grid) (mid : Mid) : Type 0 where
  pub whole : IsWhole grid mid.whole
  pub skin_water : IsOnOcean grid mid.skin_water
  pub skin_heat : IsOnOcean grid mid.skin_heat
  pub skin_salt : IsOnOcean grid mid.skin_salt
  pub frazil_water : IsOnOcean grid mid.frazil_water
  pub frazil_heat : IsOnOcean grid mid.frazil_heat

-- nothing flies: the ice has taken what flew to it, and the ocean added what flew to it
pub record HasNoFlights (whole : Whole) : Type 0 where
  pub to_ice : All (λ x. x ≡ pos 0) whole.to_ice
  pub to_ocean : All (λ x. x ≡ pos 0) whole.to_ocean
