-- The faces of a mosaic.
use Rattle.std.specs.Prelude.{◌≡◌, ℕ, ◌*◌, ◌<◌, ◌≤◌, nat_lt, Bool, List, [], ◌∷◌, length, Option, Some, None, if◌then◌else◌, slice_index_or, Contains, AllPairs}
use Rattle.std.specs.List.{filter_map, flat_map, range_with_len}
use Rattle.cpl_mosaic.specs.declared.parts.Side.{Side}
use Rattle.cpl_mosaic.specs.declared.parts.Side.TheVariants.{W, E, S, N}
use Rattle.cpl_mosaic.specs.Lists.{MosaicLists}
use Rattle.cpl_mosaic.specs.Sides.{CellSide, IsCellOf}
use Rattle.cpl_mosaic.specs.Contacts.{cells_of}
use Rattle.cpl_mosaic.specs.Cells.{number_of, cell_of}
use Rattle.cpl_mosaic.specs.Mates.{mate_of}
use Rattle.cpl_faces.specs.Orders.{LessThen, less_then}
use Rattle.cpl_faces.specs.declared.face.Face.{Face}

-- the sides of a cell in their order: W, E, S, N
abbrev pub rank : Side → ℕ
rank W = 0
rank E = 1
rank S = 2
rank N = 3

-- one side comes before another: by tile, then row, then column, then W, E, S, N
abbrev pub Comes : CellSide → CellSide → Type 0
Comes a b = LessThen a.0.tile b.0.tile (LessThen a.0.j b.0.j (LessThen a.0.i b.0.i (rank a.1 < rank b.1)))

-- a face of a mosaic: two sides that meet, of which one comes first
pub record IsFace (mosaic : MosaicLists) (first second : CellSide) : Type 0 where
  pub cell : IsCellOf mosaic.tiles first.0
  pub mate : mate_of mosaic first ≡ Some second
  pub order : Comes first second

-- two sides by the numbers of their cells
abbrev pub face_of : MosaicLists → CellSide → CellSide → Face
face_of mosaic first second = record {
  first = number_of mosaic.tiles first.0;
  first_side = first.1;
  second = number_of mosaic.tiles second.0;
  second_side = second.1;
}

-- whether the first side of two comes first
abbrev pub is_in_order : Face → Bool
is_in_order face = less_then face.first face.second (nat_lt (rank face.first_side) (rank face.second_side))

abbrev pub if_in_order : Face → Option Face
if_in_order face = if is_in_order face then Some face else None

-- a side and what it meets, as a face where the side comes first
abbrev pub face_to : MosaicLists → CellSide → Option CellSide → Option Face
face_to mosaic first None = None
face_to mosaic first (Some second) = if_in_order (face_of mosaic first second)

-- the face whose first side this is
abbrev pub face_from : MosaicLists → ℕ → Side → Option Face
face_from mosaic n side = face_to mosaic (cell_of mosaic.tiles n, side) (mate_of mosaic (cell_of mosaic.tiles n, side))

-- the faces whose first sides are of cell n
abbrev pub faces_from : MosaicLists → ℕ → List Face
faces_from mosaic n = filter_map (face_from mosaic n) (W ∷ E ∷ S ∷ N ∷ [])

-- the faces of a mosaic by their first sides, in whole order, then W, E, S, N
unfoldable pub faces_of : MosaicLists → List Face
faces_of mosaic = flat_map (faces_from mosaic) (range_with_len 0 (cells_of mosaic.tiles))

-- the face at a place of a list
abbrev pub face_in : List Face → ℕ → Face
face_in faces n = slice_index_or faces n (record { first = 0; first_side = W; second = 0; second_side = W })

-- one face comes before another: by their first sides
abbrev pub Precedes : Face → Face → Type 0
Precedes a b = LessThen a.first b.first (rank a.first_side < rank b.first_side)

-- These are the faces of a mosaic. Each stands there once, since they are sorted, and nothing else does. They are at most four
-- for each cell.
pub record AreFaces (mosaic : MosaicLists) (faces : List Face) : Type 0 where
  pub each : (first second : CellSide) → IsFace mosaic first second → Contains faces (face_of mosaic first second)
  pub only : (face : Face) → Contains faces face → (first : CellSide) × (second : CellSide) × IsFace mosaic first second × (face ≡ face_of mosaic first second)
  pub sorted : AllPairs Precedes faces
  pub few : length faces ≤ 4 * cells_of mosaic.tiles

-- Each side is of one face at most, and as its first side or as its second, not as both.
pub record AreApart (faces : List Face) : Type 0 where
  pub firsts : (i j : ℕ) → i < length faces → j < length faces → (face_in faces i).first ≡ (face_in faces j).first → (face_in faces i).first_side ≡ (face_in faces j).first_side → i ≡ j
  pub seconds : (i j : ℕ) → i < length faces → j < length faces → (face_in faces i).second ≡ (face_in faces j).second → (face_in faces i).second_side ≡ (face_in faces j).second_side → i ≡ j
  pub apart : (i j : ℕ) → i < length faces → j < length faces → (face_in faces i).first ≡ (face_in faces j).second → (face_in faces i).first_side ≡ (face_in faces j).second_side → ⊥
