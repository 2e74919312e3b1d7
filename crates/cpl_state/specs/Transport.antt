-- The ocean step on the whole: transport through all faces at once, and then vertical exchange. The layers lie one after the other,
-- the top one first, each with its cells in whole order and its faces by their first sides.
use Rattle.std.specs.Prelude.{ℕ, zero, suc, ◌+◌, ◌*◌, ◌/◌, ◌%◌, ◌==◌, ◌&&◌, nat_lt, Bool, List, length, map, ℤ, pos, neg_ℤ, Option, Some, None, slice_index_or, if◌then◌else◌}
use Rattle.std.specs.List.{position, range_with_len}
use Rattle.cpl_fixed.specs.Amounts.{amount, at}
use Rattle.cpl_fixed.specs.declared.rates.Rates.{Rates}
use Rattle.cpl_mosaic.specs.declared.parts.Side.{Side}
use Rattle.cpl_mosaic.specs.declared.parts.Side.TheVariants.{W, E, S, N}
use Rattle.cpl_mosaic.specs.declared.mosaic.Mesh.{Mesh}
use Rattle.cpl_mosaic.specs.Lists.{MosaicLists}
use Rattle.cpl_mosaic.specs.Sides.{CellSide, opposite, is_same_direction}
use Rattle.cpl_mosaic.specs.Cells.{cell_of}
use Rattle.cpl_mosaic.specs.Mates.{mate_of}
use Rattle.cpl_faces.specs.declared.face.Face.{Face}
use Rattle.cpl_faces.specs.Faces.{faces_of}
use Rattle.cpl_ice.specs.declared.parts.Salty.{Salty}
use Rattle.cpl_transport.specs.Heights.{height_of, next_face}
use Rattle.cpl_transport.specs.Mixing.{mixed, sum_of}
use Rattle.cpl_transport.specs.Moves.{through}
use Rattle.cpl_transport.specs.Salts.{joined, nothing, without}
use Rattle.cpl_state.specs.Diffusion.{cell_count, cell_number}

-- the ocean's part of a state: water, heat and salt by layers and cells, and the numbers by layers and faces
pub record Sea : Type 0 where
  pub water : List ℤ
  pub heat : List ℤ
  pub salt : List ℤ
  pub faces : List ℤ

-- as many numbers for each layer, one layer after the other
abbrev pub layered : (layers count : ℕ) → (ℕ → ℕ → ℤ) → List ℤ
layered layers count number = map (λ place. number (place / count) (place % count)) (range_with_len 0 (layers * count))

-- a cell of a layer
abbrev pub cell_in : Mesh → Sea → (layer n : ℕ) → Salty
cell_in mesh sea layer n = record {
  water = at sea.water (layer * cell_count mesh + n);
  heat = at sea.heat (layer * cell_count mesh + n);
  salt = at sea.salt (layer * cell_count mesh + n);
}

-- the water of a column, and its height
abbrev pub column_water : Mesh → (layers : ℕ) → Sea → ℕ → ℤ
column_water mesh layers sea n = sum_of layers (λ layer. (cell_in mesh sea layer n).water)

abbrev pub height_at : Mesh → (layers : ℕ) → Sea → ℕ → ℤ
height_at mesh layers sea n = height_of (column_water mesh layers sea n) (at mesh.area n)

-- a cell is wet where it has an area
abbrev pub is_wet : Mesh → ℕ → Bool
is_wet mesh n = nat_lt 0 (amount (at mesh.area n))

-- between two wet cells there is no wall
abbrev pub is_open : Mesh → (n other : ℕ) → Bool
is_open mesh n other = is_wet mesh n && is_wet mesh other

abbrev pub face_count : Mesh → ℕ
face_count mesh = length (faces_of mesh.mosaic)

-- what a read past the faces would give
abbrev pub no_face : Face
no_face = record { first = 0; first_side = W; second = 0; second_side = W }

abbrev pub face_at : Mesh → ℕ → Face
face_at mesh f = slice_index_or (faces_of mesh.mosaic) f no_face

-- the number of a face after the step: a wall keeps 0
abbrev pub driven : Mesh → (layers : ℕ) → Rates → Sea → (layer f : ℕ) → Face → ℤ
driven mesh layers rates sea layer f face =
    if is_open mesh face.first face.second
    then next_face rates.slope (at sea.faces (layer * face_count mesh + f)) (height_at mesh layers sea face.first) (height_at mesh layers sea face.second)
    else pos 0

unfoldable pub next_number : Mesh → (layers : ℕ) → Rates → Sea → (layer f : ℕ) → ℤ
next_number mesh layers rates sea layer f = driven mesh layers rates sea layer f (face_at mesh f)

-- whether a side is the first of a face, or the second
abbrev pub is_first : ℕ → Side → Face → Bool
is_first n side face = (face.first == n) && is_same_direction face.first_side side

abbrev pub is_second : ℕ → Side → Face → Bool
is_second n side face = (face.second == n) && is_same_direction face.second_side side

-- the number of a face, as a side sees it that is its first, or its second: nothing where it is of none
abbrev pub seen : (numbers : ℕ → ℤ) → (as_first as_second : Option ℕ) → ℤ
seen numbers (Some f) as_second = numbers f
seen numbers None (Some f) = neg_ℤ (numbers f)
seen numbers None None = pos 0

-- the number of its face outward through a side of cell n
unfoldable pub outward : MosaicLists → (numbers : ℕ → ℤ) → ℕ → Side → ℤ
outward mosaic numbers n side =
    seen numbers (position (is_first n side) (faces_of mosaic)) (position (is_second n side) (faces_of mosaic))

-- the cell across a side that meets this one, where there is no wall between them; else the cell itself
abbrev pub open_or : Mesh → ℕ → Option CellSide → ℕ
open_or mesh n None = n
open_or mesh n (Some mate) = if is_open mesh n (cell_number mesh mate) then cell_number mesh mate else n

-- the cell behind cell n, opposite this side of it
unfoldable pub behind : Mesh → ℕ → Side → ℕ
behind mesh n side = open_or mesh n (mate_of mesh.mosaic (cell_of mesh.mosaic.tiles n, opposite side))

-- What moves outward through a side of cell n that meets this one, where the face's number is u: between the cell behind, the
-- cell itself, the cell across the side, and the one behind that. Nothing where the side meets none.
abbrev pub flow_to : Mesh → Sea → (u : ℤ) → (layer n : ℕ) → Side → Option CellSide → Salty
flow_to mesh sea u layer n side None = nothing
flow_to mesh sea u layer n side (Some mate) =
    through u
    (cell_in mesh sea layer (behind mesh n side))
    (cell_in mesh sea layer n)
    (cell_in mesh sea layer (cell_number mesh mate))
    (cell_in mesh sea layer (behind mesh (cell_number mesh mate) mate.1))

-- what moves outward through a side of a cell, by the next number of its face
unfoldable pub flow_through : Mesh → (layers : ℕ) → Rates → Sea → (layer n : ℕ) → Side → Salty
flow_through mesh layers rates sea layer n side =
    flow_to mesh sea (outward mesh.mosaic (next_number mesh layers rates sea layer) n side) layer n side
    (mate_of mesh.mosaic (cell_of mesh.mosaic.tiles n, side))

-- what moves out of a cell of a layer, through its four sides
abbrev pub moved_out : Mesh → (layers : ℕ) → Rates → Sea → (layer n : ℕ) → Salty
moved_out mesh layers rates sea layer n =
    joined (joined (flow_through mesh layers rates sea layer n W) (flow_through mesh layers rates sea layer n E))
    (joined (flow_through mesh layers rates sea layer n S) (flow_through mesh layers rates sea layer n N))

-- a cell of a layer after the transport, before the vertical exchange
unfoldable pub transported : Mesh → (layers : ℕ) → Rates → Sea → (layer n : ℕ) → Salty
transported mesh layers rates sea layer n = without (cell_in mesh sea layer n) (moved_out mesh layers rates sea layer n)

-- the ocean after a step: each column exchanges what the transport left in it
unfoldable pub stepped : Mesh → (layers : ℕ) → Rates → Sea → Sea
stepped mesh layers rates sea = record {
  water = layered layers (cell_count mesh) (λ layer n. mixed rates.mix layers (λ l. (transported mesh layers rates sea l n).water) layer);
  heat = layered layers (cell_count mesh) (λ layer n. mixed rates.mix layers (λ l. (transported mesh layers rates sea l n).heat) layer);
  salt = layered layers (cell_count mesh) (λ layer n. mixed rates.mix layers (λ l. (transported mesh layers rates sea l n).salt) layer);
  faces = layered layers (face_count mesh) (next_number mesh layers rates sea);
}

-- the ocean after this many steps
abbrev pub stepped_by : ℕ → Mesh → (layers : ℕ) → Rates → Sea → Sea
stepped_by zero mesh layers rates sea = sea
stepped_by (suc n) mesh layers rates sea = stepped mesh layers rates (stepped_by n mesh layers rates sea)
