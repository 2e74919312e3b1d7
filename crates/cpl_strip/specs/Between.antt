-- Strips and face strips as lists: pair by pair of pieces, and in each what the one gives to the other, in order.
use Rattle.std.specs.Prelude.{◌≡◌, ℕ, ◌<◌, ◌≤◌, List, length, Option}
use Rattle.cpl_mosaic.specs.Lists.{MosaicLists}
use Rattle.cpl_layout.specs.Layouts.{Cuts}
use Rattle.cpl_layout.specs.Pieces.{pieces_of}
use Rattle.cpl_strip.specs.declared.parts.Strip.{Strip}
use Rattle.cpl_strip.specs.declared.parts.FaceStrip.{FaceStrip}
use Rattle.cpl_strip.specs.declared.halos.Beside.{Beside}
use Rattle.cpl_strip.specs.declared.faces.Across.{Across}
use Rattle.cpl_strip.specs.Strips.{strip_at, AreStrips}
use Rattle.cpl_strip.specs.Faces.{face_strip_at, AreFaceStrips}
use Rattle.cpl_strip.specs.Tables.{for_pairs, gifts, if_some}
use Rattle.cpl_strip.specs.Taken.{hole_takes, side_takes, holes_in, strip_made, face_strip_made}

-- the holes of piece `to` that take from piece `from`, in their order, each beside the place that it takes from
abbrev pub halo_between : MosaicLists → Cuts → ℕ → ℕ → ℕ → List Beside
halo_between mosaic layout width from to = gifts (hole_takes mosaic layout) from to (holes_in layout width to)

-- the strip of two pieces, where a hole takes
abbrev pub strip_between : MosaicLists → Cuts → ℕ → ℕ → ℕ → Option Strip
strip_between mosaic layout width from to = if_some (strip_made from to) (halo_between mosaic layout width from to)

-- the strips of a layout of a mosaic, for halos of a width
unfoldable pub strips_of : MosaicLists → Cuts → ℕ → List Strip
strips_of mosaic layout width = for_pairs (pieces_of layout) (strip_between mosaic layout width)

-- the sides along the edges of piece `to` that are second sides of faces, in their order, where the first side is of piece
-- `from`: each with this first side
abbrev pub faces_between : MosaicLists → Cuts → ℕ → ℕ → List Across
faces_between mosaic layout from to = gifts (side_takes mosaic layout) from to (holes_in layout 1 to)

-- the face strip of two pieces, where there is such a face
abbrev pub face_strip_between : MosaicLists → Cuts → ℕ → ℕ → Option FaceStrip
face_strip_between mosaic layout from to = if_some (face_strip_made from to) (faces_between mosaic layout from to)

-- the face strips of a layout of a mosaic
unfoldable pub face_strips_of : MosaicLists → Cuts → List FaceStrip
face_strips_of mosaic layout = for_pairs (pieces_of layout) (face_strip_between mosaic layout)

-- The list of strips is that of the layout's strips. Each strip has all that the holes of its pair take, in their order, and
-- two pieces of which the one gives to the other have a strip.
pub record StripsAgree (mosaic : MosaicLists) (layout : Cuts) (width : ℕ) : Type 0 where
  pub links : AreStrips mosaic layout width (strips_of mosaic layout width)
  pub whole : (n : ℕ) → n < length (strips_of mosaic layout width) → let strip = strip_at (strips_of mosaic layout width) n in strip ≡ strip_made strip.from strip.to (halo_between mosaic layout width strip.from strip.to)
  pub found : (from to : ℕ) → from < pieces_of layout → to < pieces_of layout → 1 ≤ length (halo_between mosaic layout width from to) → (n : ℕ) × (n < length (strips_of mosaic layout width)) × (strip_at (strips_of mosaic layout width) n ≡ strip_made from to (halo_between mosaic layout width from to))

-- The same of face strips.
pub record FaceStripsAgree (mosaic : MosaicLists) (layout : Cuts) : Type 0 where
  pub links : AreFaceStrips mosaic layout (face_strips_of mosaic layout)
  pub whole : (n : ℕ) → n < length (face_strips_of mosaic layout) → let strip = face_strip_at (face_strips_of mosaic layout) n in strip ≡ face_strip_made strip.from strip.to (faces_between mosaic layout strip.from strip.to)
  pub found : (from to : ℕ) → from < pieces_of layout → to < pieces_of layout → 1 ≤ length (faces_between mosaic layout from to) → (n : ℕ) × (n < length (face_strips_of mosaic layout)) × (face_strip_at (face_strips_of mosaic layout) n ≡ face_strip_made from to (faces_between mosaic layout from to))
