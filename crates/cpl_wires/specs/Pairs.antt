-- What two pieces share: exchange cells, outlets, cells, and halos.
use Rattle.std.specs.Prelude.{ℕ, ◌-◌, ◌&&◌, ◌||◌, ◌==◌, nat_lt, Bool, true, List, [], length, map}
use Rattle.std.specs.List.{range_with_len}
use Rattle.cpl_fixed.specs.declared.words.Component.{Component}
use Rattle.cpl_fixed.specs.declared.words.Component.TheVariants.{Atmos, Land, Ice, Ocean}
use Rattle.cpl_mosaic.specs.declared.parts.CellId.{CellId}
use Rattle.cpl_mosaic.specs.Contacts.{cells_of}
use Rattle.cpl_mosaic.specs.Cells.{cell_of}
use Rattle.cpl_strip.specs.declared.parts.Strip.{Strip}
use Rattle.cpl_strip.specs.declared.parts.FaceStrip.{FaceStrip}
use Rattle.cpl_strip.specs.Tables.{gifts}
use Rattle.cpl_strip.specs.Taken.{hole_takes, side_takes, holes_in, strip_made, face_strip_made}
use Rattle.cpl_xgrid.specs.declared.parts.XRow.{XRow}
use Rattle.cpl_xgrid.specs.declared.parts.Outlet.{Outlet}
use Rattle.cpl_xgrid.specs.Groups.{numbers_from}
use Rattle.cpl_wires.specs.declared.parts.Purpose.{Purpose}
use Rattle.cpl_wires.specs.declared.parts.Purpose.TheVariants.{AirHalo, LandToAir, IceToAir, AirToLand, AirToIce, LandToIce, IceToOcean, OceanToIce, OceanHalo, Sums}
use Rattle.cpl_wires.specs.Settings.{Setting, mesh_of, layout_of, base_of, piece_with}

-- whether one cell lies in one piece, and another in another
abbrev pub is_between : Setting → (ℕ × Component × CellId) → (ℕ × Component × CellId) → Bool
is_between setting a b = (piece_with setting a.1 a.2 == a.0) && (piece_with setting b.1 b.2 == b.0)

-- the exchange cells between a piece of the air and one of the land, in the order of the file
unfoldable pub land_rows_between : Setting → (air land : ℕ) → List ℕ
land_rows_between setting air land =
    numbers_from (λ (row : XRow). is_between setting (air, Atmos, row.air) (land, Land, row.other)) 0 setting.grid.xgrid.land_rows

-- the exchange cells between a piece of the air and one of the ice, in the order of the file
unfoldable pub ice_rows_between : Setting → (air ice : ℕ) → List ℕ
ice_rows_between setting air ice =
    numbers_from (λ (row : XRow). is_between setting (air, Atmos, row.air) (ice, Ice, row.other)) 0 setting.grid.xgrid.ocean_rows

-- the outlets from a piece of the land to one of the ice, in the order of the file
unfoldable pub outlets_between : Setting → (land ice : ℕ) → List ℕ
outlets_between setting land ice =
    numbers_from (λ (outlet : Outlet). is_between setting (land, Land, outlet.land) (ice, Ice, outlet.ocean)) 0 setting.grid.xgrid.outlets

-- all cells of the ocean's mosaic, in whole order
abbrev pub sea_cells : Setting → List CellId
sea_cells setting =
    let tiles = (mesh_of setting.grid Ocean).mosaic.tiles in map (cell_of tiles) (range_with_len 0 (cells_of tiles))

-- the cells that a piece of the ice and one of the ocean both have, in whole order
unfoldable pub cells_between : Setting → (ice ocean : ℕ) → List ℕ
cells_between setting ice ocean = numbers_from (λ cell. is_between setting (ice, Ice, cell) (ocean, Ocean, cell)) 0 (sea_cells setting)

-- The strip from a piece of a component to another, or to itself, for halos of a width: the holes of the one that take the numbers of
-- cells of the other, each beside the place of its cell there. Strips count the pieces of their component alone.
unfoldable pub strip_between : Setting → Component → (width : ℕ) → (from to : ℕ) → Strip
strip_between setting component width from to =
    let layout = layout_of setting component in
    let giver = from - base_of setting component in
    let taker = to - base_of setting component in
    strip_made giver taker (gifts (hole_takes (mesh_of setting.grid component).mosaic layout) giver taker (holes_in layout width taker))

-- the face strip from a piece of a component to another, or to itself: the faces along the edges of the one whose first sides are of the
-- other
unfoldable pub face_strip_between : Setting → Component → (from to : ℕ) → FaceStrip
face_strip_between setting component from to =
    let layout = layout_of setting component in
    let giver = from - base_of setting component in
    let taker = to - base_of setting component in
    face_strip_made giver taker (gifts (side_takes (mesh_of setting.grid component).mosaic layout) giver taker (holes_in layout 1 taker))

-- halos of the air are one cell wide, those of the ocean two
abbrev pub air_halo : Setting → (from to : ℕ) → Strip
air_halo setting from to = strip_between setting Atmos 1 from to

abbrev pub ocean_halo : Setting → (from to : ℕ) → Strip
ocean_halo setting from to = strip_between setting Ocean 2 from to

abbrev pub ocean_faces : Setting → (from to : ℕ) → FaceStrip
ocean_faces setting from to = face_strip_between setting Ocean from to

-- the exchange cells, outlets or cells that an edge carries numbers of; none for halos and sums
abbrev pub carried : Setting → Purpose → (from to : ℕ) → List ℕ
carried setting AirHalo from to = []
carried setting LandToAir from to = land_rows_between setting to from
carried setting IceToAir from to = ice_rows_between setting to from
carried setting AirToLand from to = land_rows_between setting from to
carried setting AirToIce from to = ice_rows_between setting from to
carried setting LandToIce from to = outlets_between setting from to
carried setting IceToOcean from to = cells_between setting from to
carried setting OceanToIce from to = cells_between setting to from
carried setting OceanHalo from to = []
carried setting Sums from to = []

abbrev pub some : {T : Type 0} → List T → Bool
some items = nat_lt 0 (length items)

-- Whether there is an edge between two pieces that may post and take: they share something. The ocean's halo has an edge where cells
-- or faces are beside each other; sums are always handed over.
unfoldable pub has_edge : Setting → Purpose → (from to : ℕ) → Bool
has_edge setting AirHalo from to = some (air_halo setting from to).places
has_edge setting OceanHalo from to = some (ocean_halo setting from to).places || some (ocean_faces setting from to).sources
has_edge setting Sums from to = true
has_edge setting purpose from to = some (carried setting purpose from to)
