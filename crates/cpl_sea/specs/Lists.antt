-- The faces of cells, as they are looked up one after another.
use Rattle.std.specs.Prelude.{◌≡◌, ℕ, ◌<◌, List, length, None}
use Rattle.std.specs.List.{position}
use Rattle.cpl_mosaic.specs.declared.parts.Side.{Side}
use Rattle.cpl_mosaic.specs.declared.parts.Side.TheVariants.{W, E, S, N}
use Rattle.cpl_faces.specs.declared.face.Face.{Face}
use Rattle.cpl_state.specs.Transport.{is_first, is_second}
use Rattle.cpl_sea.specs.declared.links.SideFace.{SideFace}
use Rattle.cpl_sea.specs.declared.links.SideFace.TheVariants.{Alone, First, Second}
use Rattle.cpl_sea.specs.declared.links.CellFaces.{CellFaces}
use Rattle.cpl_sea.specs.Links.{side_face_by}
use Rattle.cpl_sea.specs.Passes.{cell_faces_at}

-- what a side has, or else what is found now
abbrev pub or_else : SideFace → SideFace → SideFace
or_else Alone other = other
or_else (First f) other = First f
or_else (Second f) other = Second f

abbrev pub at_side : CellFaces → Side → SideFace
at_side faces W = faces.west
at_side faces E = faces.east
at_side faces S = faces.south
at_side faces N = faces.north

abbrev pub with_side : CellFaces → Side → SideFace → CellFaces
with_side faces W face = record faces { west = or_else faces.west face }
with_side faces E face = record faces { east = or_else faces.east face }
with_side faces S face = record faces { south = or_else faces.south face }
with_side faces N face = record faces { north = or_else faces.north face }

-- each of so many cells has at each side what is told of the cell and the side
pub record HasSides (cells : List CellFaces) (count : ℕ) (told : ℕ → Side → SideFace) : Type 0 where
  pub size : length cells ≡ count
  pub each : (n : ℕ) (side : Side) → n < count → at_side (cell_faces_at cells n) side ≡ told n side

-- where the sides have their faces of these, by first sides alone, and by both
abbrev pub by_firsts : List Face → ℕ → Side → SideFace
by_firsts faces n side = side_face_by (position (is_first n side) faces) None

abbrev pub by_both : (firsts seconds : List Face) → ℕ → Side → SideFace
by_both firsts seconds n side = side_face_by (position (is_first n side) firsts) (position (is_second n side) seconds)
