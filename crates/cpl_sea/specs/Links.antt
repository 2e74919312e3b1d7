-- What a step looks up: the cells beside each face and behind them, and where each side of a cell has its face.
use Rattle.std.specs.Prelude.{ℕ, ℤ, List, map, Option, Some, None, if◌then◌else◌}
use Rattle.std.specs.List.{position, range_with_len}
use Rattle.cpl_fixed.specs.declared.rates.Rates.{Rates}
use Rattle.cpl_mosaic.specs.declared.mosaic.Mesh.{Mesh}
use Rattle.cpl_mosaic.specs.declared.parts.Side.{Side}
use Rattle.cpl_mosaic.specs.declared.parts.Side.TheVariants.{W, E, S, N}
use Rattle.cpl_mosaic.specs.Lists.{MosaicLists}
use Rattle.cpl_faces.specs.declared.face.Face.{Face}
use Rattle.cpl_faces.specs.Faces.{faces_of}
use Rattle.cpl_ice.specs.declared.parts.Salty.{Salty}
use Rattle.cpl_transport.specs.Moves.{through}
use Rattle.cpl_transport.specs.Salts.{nothing, turned}
use Rattle.cpl_state.specs.Diffusion.{cell_count}
use Rattle.cpl_state.specs.Transport.{Sea, behind, cell_in, face_at, is_first, is_open, is_second, next_number}
use Rattle.cpl_sea.specs.declared.links.Link.{Link}
use Rattle.cpl_sea.specs.declared.links.SideFace.{SideFace}
use Rattle.cpl_sea.specs.declared.links.SideFace.TheVariants.{Alone, First, Second}
use Rattle.cpl_sea.specs.declared.links.CellFaces.{CellFaces}

-- a face with what lies beside it and behind
abbrev pub link_of : Mesh → Face → Link
link_of mesh face = record {
  first = face.first;
  second = face.second;
  behind_first = behind mesh face.first face.first_side;
  behind_second = behind mesh face.second face.second_side;
  is_open = is_open mesh face.first face.second;
}

-- those of all faces
unfoldable pub links_of : Mesh → List Link
links_of mesh = map (link_of mesh) (faces_of mesh.mosaic)

-- a side that is the first of a face, or the second
abbrev pub side_face_by : (as_first as_second : Option ℕ) → SideFace
side_face_by (Some f) as_second = First f
side_face_by None (Some f) = Second f
side_face_by None None = Alone

abbrev pub side_face : MosaicLists → ℕ → Side → SideFace
side_face mosaic n side =
    side_face_by (position (is_first n side) (faces_of mosaic)) (position (is_second n side) (faces_of mosaic))

abbrev pub cell_faces : MosaicLists → ℕ → CellFaces
cell_faces mosaic n = record {
  west = side_face mosaic n W;
  east = side_face mosaic n E;
  south = side_face mosaic n S;
  north = side_face mosaic n N;
}

-- those of all cells
unfoldable pub all_cell_faces : Mesh → List CellFaces
all_cell_faces mesh = map (cell_faces mesh.mosaic) (range_with_len 0 (cell_count mesh))

-- what moves through a face with this number in a layer, out of its first cell: nothing at a wall
abbrev pub link_flow : Mesh → Sea → (u : ℤ) → (layer : ℕ) → Link → Salty
link_flow mesh sea u layer link =
    if link.is_open
    then through u (cell_in mesh sea layer link.behind_first) (cell_in mesh sea layer link.first) (cell_in mesh sea layer link.second) (cell_in mesh sea layer link.behind_second)
    else nothing

unfoldable pub face_flow : Mesh → (layers : ℕ) → Rates → Sea → (layer f : ℕ) → Salty
face_flow mesh layers rates sea layer f =
    link_flow mesh sea (next_number mesh layers rates sea layer f) layer (link_of mesh (face_at mesh f))

-- what a side sees of what moves through the faces
abbrev pub seen_flow : (flows : ℕ → Salty) → SideFace → Salty
seen_flow flows Alone = nothing
seen_flow flows (First f) = flows f
seen_flow flows (Second f) = turned (flows f)
