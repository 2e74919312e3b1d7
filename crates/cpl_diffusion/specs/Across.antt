-- The cells across the sides of a mesh's cells, and the faces between them.
use Rattle.std.specs.Prelude.{◌≡◌, ℕ, ◌+◌, nat_lt, nat_eq, ◌&&◌, if◌then◌else◌, slice_index_or, List, Option, Some, None, map}
use Rattle.std.specs.List.{range_with_len}
use Rattle.cpl_fixed.specs.Flows.{face_divisor}
use Rattle.cpl_mosaic.specs.declared.parts.Tile.{Tile}
use Rattle.cpl_mosaic.specs.declared.parts.Side.{Side}
use Rattle.cpl_mosaic.specs.Lists.{MosaicLists}
use Rattle.cpl_mosaic.specs.Sides.{CellSide}
use Rattle.cpl_mosaic.specs.Mates.{mate_of, MatesAgree}
use Rattle.cpl_mosaic.specs.Cells.{number_of, cell_of, NumbersAgree}
use Rattle.cpl_mosaic.specs.declared.mosaic.Mesh.{Mesh}
use Rattle.cpl_state.specs.Diffusion.{IsAirMesh, at, cell_count}
use Rattle.cpl_diffusion.specs.declared.faces.Faces.{Faces}

-- the number of the cell that has this side, or else n
abbrev pub number_or : List Tile → ℕ → Option CellSide → ℕ
number_or tiles n None = n
number_or tiles n (Some mate) = number_of tiles mate.0

-- the cell across a side; at a wall the cell itself
abbrev pub across_of : MosaicLists → ℕ → Side → ℕ
across_of mosaic n side = number_or mosaic.tiles n (mate_of mosaic (cell_of mosaic.tiles n, side))

-- what a read past the faces would give
abbrev pub no_faces : Faces
no_faces = record { next = 0; previous = 0; divisor = record { reciprocal = 0 } }

abbrev pub faces_at : List Faces → ℕ → Faces
faces_at faces n = slice_index_or faces n no_faces

abbrev pub next_at : List Faces → ℕ → ℕ
next_at faces n = (faces_at faces n).next

-- how the faces of cell n have the previous cell, whose next this is: above all cells where the flow between them isn't taken before
abbrev pub previous_by : (cells n cell next : ℕ) → ℕ
previous_by cells n cell next = if nat_lt cell n && nat_eq next n then cell else cells + cell

-- the faces of a cell along a way
abbrev pub face_along : Mesh → (ahead back : Side) → ℕ → Faces
face_along mesh ahead back n = record {
  next = across_of mesh.mosaic n ahead;
  previous = previous_by (cell_count mesh) n (across_of mesh.mosaic n back) (across_of mesh.mosaic (across_of mesh.mosaic n back) ahead);
  divisor = face_divisor (at mesh.area n) (at mesh.area (across_of mesh.mosaic n ahead));
}

-- those of the first cells
unfoldable pub faces_to : Mesh → (ahead back : Side) → ℕ → List Faces
faces_to mesh ahead back n = map (face_along mesh ahead back) (range_with_len 0 n)

-- the faces of an air mesh whose mates and numbers agree
pub record AreFacesAlong (mesh : Mesh) (ahead back : Side) (faces : List Faces) : Type 0 where
  pub air : IsAirMesh mesh
  pub mates : MatesAgree mesh.mosaic
  pub numbers : NumbersAgree mesh.mosaic.tiles
  pub looked_up : faces ≡ faces_to mesh ahead back (cell_count mesh)
