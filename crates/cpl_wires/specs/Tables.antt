-- What the exchanges of a run keep beside the setting: layouts, lists by pairs of pieces, edges, and how long the parts of scripts are.
use Rattle.std.specs.Prelude.{◌≡◌, ℕ, ◌+◌, ◌*◌, ◌<◌, ◌==◌, ◌&&◌, Bool, List, [], ◌∷◌, length, map, take, count_by, Option, Some, None, All, if◌then◌else◌, slice_index}
use Rattle.std.specs.List.{range_with_len}
use Rattle.cpl_fixed.specs.declared.words.Component.{Component}
use Rattle.cpl_fixed.specs.declared.words.Component.TheVariants as component
use Rattle.cpl_mosaic.specs.declared.parts.CellId.{CellId}
use Rattle.cpl_mosaic.specs.declared.parts.Tile.{Tile}
use Rattle.cpl_mosaic.specs.Sides.{IsCellOf}
use Rattle.cpl_layout.specs.Layouts.{Cuts}
use Rattle.cpl_layout.specs.Pieces.{owner_of}
use Rattle.cpl_strip.specs.declared.parts.Strip.{Strip}
use Rattle.cpl_strip.specs.declared.parts.FaceStrip.{FaceStrip}
use Rattle.cpl_strip.specs.Between.{strips_of, face_strips_of}
use Rattle.cpl_group.specs.Parts.{Strips}
use Rattle.cpl_xgrid.specs.declared.parts.Surface.{Surface}
use Rattle.cpl_xgrid.specs.declared.parts.Surface.TheVariants.{Land, Ocean}
use Rattle.cpl_xgrid.specs.declared.parts.XRow.{XRow}
use Rattle.cpl_xgrid.specs.declared.parts.Outlet.{Outlet}
use Rattle.cpl_xgrid.specs.Grids.{IsGrid}
use Rattle.cpl_xgrid.specs.Groups.{by_key}
use Rattle.cpl_wires.specs.declared.parts.Purpose.{Purpose}
use Rattle.cpl_wires.specs.declared.parts.Purpose.TheVariants.{AirHalo, OceanHalo}
use Rattle.cpl_wires.specs.declared.parts.Edge.{Edge}
use Rattle.cpl_wires.specs.Settings.{Setting, IsSetting, mesh_of, layout_of}
use Rattle.cpl_wires.specs.Purposes.{purpose_place}
use Rattle.cpl_wires.specs.Pairs.{some, has_edge, sea_cells, air_halo, ocean_halo, ocean_faces}
use Rattle.cpl_wires.specs.Edges.{edges_of, length_of}

-- PIECES

-- the layouts of all components
pub record ArePieces (setting : Setting) (of_air of_land of_ice of_ocean : Cuts) : Type 0 where
  pub lawful : IsSetting setting
  pub grid : IsGrid setting.grid
  pub air : of_air ≡ layout_of setting component.Atmos
  pub land : of_land ≡ layout_of setting component.Land
  pub ice : of_ice ≡ layout_of setting component.Ice
  pub ocean : of_ocean ≡ layout_of setting component.Ocean

-- LISTS BY PAIRS OF PIECES

-- how many pairs of pieces two components have at most, and the number of a pair
unfoldable pub pairs_most : ℕ
pairs_most = 64 * 64

abbrev pub pair_number : (first second : ℕ) → ℕ
pair_number first second = first * 64 + second

-- two cells, one of either component
abbrev pub Pair : Type 0
Pair = CellId × CellId

-- each cell lies in its mosaic
abbrev pub ArePairs : List Tile → List Tile → List Pair → Type 0
ArePairs ones others pairs = All (λ (pair : Pair). IsCellOf ones pair.0 × IsCellOf others pair.1) pairs

-- the pieces that two cells lie in
abbrev pub pair_key : Cuts → Cuts → Pair → ℕ
pair_key one other pair = pair_number (owner_of one pair.0) (owner_of other pair.1)

-- the numbers of pairs of cells, by the pieces that they lie in
abbrev pub by_pieces : Cuts → Cuts → List Pair → List (List ℕ)
by_pieces one other pairs = by_key pairs_most (map (pair_key one other) pairs)

abbrev pub row_pair : XRow → Pair
row_pair row = (row.air, row.other)

abbrev pub outlet_pair : Outlet → Pair
outlet_pair outlet = (outlet.land, outlet.ocean)

abbrev pub same_pair : CellId → Pair
same_pair cell = (cell, cell)

-- the exchange cells of a list, by the pieces of the air and of its surface
abbrev pub rows_by_pieces : Setting → Surface → List (List ℕ)
rows_by_pieces setting Land = by_pieces (layout_of setting component.Atmos) (layout_of setting component.Land) (map row_pair setting.grid.xgrid.land_rows)
rows_by_pieces setting Ocean = by_pieces (layout_of setting component.Atmos) (layout_of setting component.Ice) (map row_pair setting.grid.xgrid.ocean_rows)

-- the outlets, by the pieces of the land and of the ice
abbrev pub outlets_by_pieces : Setting → List (List ℕ)
outlets_by_pieces setting = by_pieces (layout_of setting component.Land) (layout_of setting component.Ice) (map outlet_pair setting.grid.xgrid.outlets)

-- the cells of the ocean's mosaic, by the pieces of the ice and of the ocean
abbrev pub cells_by_pieces : Setting → List (List ℕ)
cells_by_pieces setting = by_pieces (layout_of setting component.Ice) (layout_of setting component.Ocean) (map same_pair (sea_cells setting))

-- the pieces of strips, and of face strips, are among 64
abbrev pub HavePieces : List Strip → Type 0
HavePieces strips = All (λ (strip : Strip). (strip.from < 64) × (strip.to < 64)) strips

abbrev pub HaveFacePieces : List FaceStrip → Type 0
HaveFacePieces strips = All (λ (strip : FaceStrip). (strip.from < 64) × (strip.to < 64)) strips

-- the numbers of strips, and of face strips, by their pieces
abbrev pub strip_key : Strip → ℕ
strip_key strip = pair_number strip.from strip.to

abbrev pub face_strip_key : FaceStrip → ℕ
face_strip_key strip = pair_number strip.from strip.to

abbrev pub strips_by_pieces : List Strip → List (List ℕ)
strips_by_pieces strips = by_key pairs_most (map strip_key strips)

abbrev pub face_strips_by_pieces : List FaceStrip → List (List ℕ)
face_strips_by_pieces strips = by_key pairs_most (map face_strip_key strips)

-- strips with their numbers by their pieces
pub record AreFound (strips : List Strip) (numbers : List (List ℕ)) : Type 0 where
  pub pieces : HavePieces strips
  pub numbers_are : numbers ≡ strips_by_pieces strips

pub record AreFacesFound (strips : List FaceStrip) (numbers : List (List ℕ)) : Type 0 where
  pub pieces : HaveFacePieces strips
  pub numbers_are : numbers ≡ face_strips_by_pieces strips

-- the first item that passes a test, if one does
abbrev pub first_that : {T : Type 0} → (T → Bool) → List T → Option T
first_that passes [] = None
first_that passes (item ∷ items) = if passes item then Some item else first_that passes items

-- the strip of two pieces, and the face strip, if there is one
abbrev pub strip_with : List Strip → (from to : ℕ) → Option Strip
strip_with strips from to = first_that (λ (strip : Strip). (strip.from == from) && (strip.to == to)) strips

abbrev pub face_strip_with : List FaceStrip → (from to : ℕ) → Option FaceStrip
face_strip_with strips from to = first_that (λ (strip : FaceStrip). (strip.from == from) && (strip.to == to)) strips

-- how many places a strip has, if there is one
abbrev pub strip_size : Option Strip → ℕ
strip_size None = 0
strip_size (Some strip) = length strip.places

-- the strips of a component's layout, for halos of a width
abbrev pub halo_strips : Setting → Component → ℕ → List Strip
halo_strips setting component width = strips_of (mesh_of setting.grid component).mosaic (layout_of setting component) width

abbrev pub sea_faces : Setting → List FaceStrip
sea_faces setting = face_strips_of (mesh_of setting.grid component.Ocean).mosaic (layout_of setting component.Ocean)

-- exchange cells, outlets and cells by pairs of pieces
pub record AreRowsOf (setting : Setting) (by_land by_sea by_outlet by_cell : List (List ℕ)) : Type 0 where
  pub land_rows : by_land ≡ rows_by_pieces setting Land
  pub ocean_rows : by_sea ≡ rows_by_pieces setting Ocean
  pub outlets : by_outlet ≡ outlets_by_pieces setting
  pub cells : by_cell ≡ cells_by_pieces setting

-- the strips of the air and the ocean, for two fields and for three in each layer, and the ocean's face strips
pub record AreHalosOf (setting : Setting) (of_air of_ocean : Strips) (of_faces : List FaceStrip) : Type 0 where
  pub air : of_air.strips ≡ halo_strips setting component.Atmos 1
  pub air_fields : of_air.fields ≡ 2
  pub ocean : of_ocean.strips ≡ halo_strips setting component.Ocean 2
  pub ocean_fields : of_ocean.fields ≡ 3 * setting.grid.column.layers
  pub seams : of_faces ≡ sea_faces setting

-- what pieces share
pub record IsShared (setting : Setting) (by_land by_sea by_outlet by_cell : List (List ℕ)) (of_air of_ocean : Strips) (of_faces : List FaceStrip) : Type 0 where
  pub lawful : IsSetting setting
  pub grid : IsGrid setting.grid
  pub rows : AreRowsOf setting by_land by_sea by_outlet by_cell
  pub halos : AreHalosOf setting of_air of_ocean of_faces

-- WHAT AN EDGE CARRIES BY STRIPS

-- the strip of a halo's edge, and the face strip, where they have something
abbrev pub strip_if : Strip → Option Strip
strip_if strip = if some strip.places then Some strip else None

abbrev pub face_strip_if : FaceStrip → Option FaceStrip
face_strip_if strip = if some strip.sources then Some strip else None

abbrev pub strip_for : Setting → Purpose → (from to : ℕ) → Option Strip
strip_for setting AirHalo from to = strip_if (air_halo setting from to)
strip_for setting OceanHalo from to = strip_if (ocean_halo setting from to)
strip_for setting _ from to = None

abbrev pub face_strip_for : Setting → Purpose → (from to : ℕ) → Option FaceStrip
face_strip_for setting OceanHalo from to = face_strip_if (ocean_faces setting from to)
face_strip_for setting _ from to = None

unfoldable pub strip_of : Setting → Edge → Option Strip
strip_of setting edge = strip_for setting edge.purpose edge.from edge.to

unfoldable pub face_strip_of : Setting → Edge → Option FaceStrip
face_strip_of setting edge = face_strip_for setting edge.purpose edge.from edge.to

-- EDGES

-- the edge between two pieces, if there is one
abbrev pub edge_if : Setting → Purpose → (from to : ℕ) → List Edge
edge_if setting purpose from to = if has_edge setting purpose from to then record { purpose = purpose; from = from; to = to } ∷ [] else []

abbrev pub poster : Edge → ℕ
poster edge = edge.from

abbrev pub taker : Edge → ℕ
taker edge = edge.to

-- how many pieces with purposes there are at most, and the number of a piece with a purpose
unfoldable pub ends_most : ℕ
ends_most = 256 * 16

abbrev pub end_number : ℕ → Purpose → ℕ
end_number piece purpose = piece * 16 + purpose_place purpose

abbrev pub poster_key : Edge → ℕ
poster_key edge = end_number edge.from edge.purpose

abbrev pub taker_key : Edge → ℕ
taker_key edge = end_number edge.to edge.purpose

-- the pieces of edges are among 256
abbrev pub HaveEnds : List Edge → Type 0
HaveEnds list = All (λ (edge : Edge). (edge.from < 256) × (edge.to < 256)) list

-- how often the key of a place is there before that place
abbrev pub slot_in : List ℕ → ℕ → ℕ
slot_in keys place = count_by (λ key. key == slice_index keys place) (take place keys)

-- all edges, their lengths, those of each piece and purpose, and their slots
pub record AreMade (setting : Setting) (list : List Edge) (sizes : List ℕ) (posts takes : List (List ℕ)) (posting taking : List ℕ) : Type 0 where
  pub lawful : IsSetting setting
  pub edges : list ≡ edges_of setting
  pub lens : sizes ≡ map (length_of setting) (edges_of setting)
  pub posted : posts ≡ by_key ends_most (map poster_key (edges_of setting))
  pub taken : takes ≡ by_key ends_most (map taker_key (edges_of setting))
  pub post_slots : posting ≡ map (slot_in (map poster (edges_of setting))) (range_with_len 0 (length (map poster (edges_of setting))))
  pub take_slots : taking ≡ map (slot_in (map taker (edges_of setting))) (range_with_len 0 (length (map taker (edges_of setting))))
