-- What the holes and the sides along the edges of a piece take, and from which piece.
use Rattle.std.specs.Prelude.{ℕ, nat_lt, Bool, List, map, Option, Some, None, if◌then◌else◌}
use Rattle.std.specs.Option.{option_map}
use Rattle.cpl_mosaic.specs.Lists.{MosaicLists}
use Rattle.cpl_mosaic.specs.Sides.{CellSide}
use Rattle.cpl_mosaic.specs.Mates.{mate_of}
use Rattle.cpl_layout.specs.declared.piece.Piece.{Piece}
use Rattle.cpl_layout.specs.Layouts.{Cuts}
use Rattle.cpl_layout.specs.Pieces.{piece_of, owner_of}
use Rattle.cpl_layout.specs.Owners.{place_in}
use Rattle.cpl_strip.specs.declared.parts.Hole.{Hole}
use Rattle.cpl_strip.specs.declared.parts.Strip.{Strip}
use Rattle.cpl_strip.specs.declared.parts.FaceStrip.{FaceStrip}
use Rattle.cpl_strip.specs.declared.halos.Beside.{Beside}
use Rattle.cpl_strip.specs.declared.faces.Across.{Across}
use Rattle.cpl_faces.specs.Orders.{less_then}
use Rattle.cpl_strip.specs.Holes.{side_at, walk_to}
use Rattle.cpl_faces.specs.Faces.{rank}
use Rattle.cpl_strip.specs.Faces.{spot_of}
use Rattle.cpl_strip.specs.Rounds.{nth_hole, hole_count}

-- a hole of a piece beside the place of a cell, with the piece that has the cell
abbrev pub beside : Cuts → Hole → CellSide → ℕ × Beside
beside layout hole entered = (owner_of layout entered.0, record { place = place_in (piece_of layout (owner_of layout entered.0)) entered.0; hole = hole })

-- what a hole of a piece takes
abbrev pub taken_by : MosaicLists → Cuts → Piece → Hole → Option (ℕ × Beside)
taken_by mosaic layout piece hole = option_map (beside layout hole) (walk_to mosaic piece hole)

-- what the m-th hole of a piece takes
abbrev pub hole_takes : MosaicLists → Cuts → ℕ → ℕ → Option (ℕ × Beside)
hole_takes mosaic layout to m = taken_by mosaic layout (piece_of layout to) (nth_hole (piece_of layout to) m)

-- how many holes a piece of a layout has
abbrev pub holes_in : Cuts → ℕ → ℕ → ℕ
holes_in layout width to = hole_count width (piece_of layout to)

abbrev pub strip_made : ℕ → ℕ → List Beside → Strip
strip_made from to links = record { from = from; to = to; places = map (λ link. link.place) links; holes = map (λ link. link.hole) links }

-- whether one side comes before another: by tile, then row, then column, then W, E, S, N
abbrev pub comes : CellSide → CellSide → Bool
comes a b = less_then a.0.tile b.0.tile (less_then a.0.j b.0.j (less_then a.0.i b.0.i (nat_lt (rank a.1) (rank b.1))))

-- the face of a second side and its first side, where the one that it meets comes first
abbrev pub if_second : Cuts → CellSide → Option CellSide → Option (ℕ × Across)
if_second layout second None = None
if_second layout second (Some first) =
    if comes first second then Some (owner_of layout first.0, record { source = spot_of layout first; target = spot_of layout second }) else None

-- what a side takes: the face of which it is the second side
abbrev pub face_taken : MosaicLists → Cuts → CellSide → Option (ℕ × Across)
face_taken mosaic layout side = if_second layout side (mate_of mosaic side)

-- what the m-th side along the edges of a piece takes
abbrev pub side_takes : MosaicLists → Cuts → ℕ → ℕ → Option (ℕ × Across)
side_takes mosaic layout to m = face_taken mosaic layout (side_at (piece_of layout to) (nth_hole (piece_of layout to) m))

abbrev pub face_strip_made : ℕ → ℕ → List Across → FaceStrip
face_strip_made from to links = record { from = from; to = to; sources = map (λ link. link.source) links; targets = map (λ link. link.target) links }
