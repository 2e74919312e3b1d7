-- Which face strips there are.
use Rattle.std.specs.Prelude.{◌≡◌, ◌≢◌, ℕ, ◌+◌, ◌<◌, ◌≤◌, ◌⊎◌, List, [], length, slice_index_or}
use Rattle.cpl_mosaic.specs.declared.parts.Side.{Side}
use Rattle.cpl_mosaic.specs.declared.parts.Side.TheVariants.{W, E, S, N}
use Rattle.cpl_mosaic.specs.Lists.{MosaicLists}
use Rattle.cpl_mosaic.specs.Sides.{CellSide}
use Rattle.cpl_faces.specs.Orders.{LessThen}
use Rattle.cpl_faces.specs.Faces.{IsFace}
use Rattle.cpl_layout.specs.declared.piece.Piece.{Piece}
use Rattle.cpl_layout.specs.Layouts.{Cuts}
use Rattle.cpl_layout.specs.Pieces.{pieces_of, piece_of, owner_of}
use Rattle.cpl_layout.specs.Owners.{place_in, IsPlaceOf}
use Rattle.cpl_strip.specs.declared.parts.FaceStrip.{FaceStrip}

-- a side of a cell of a piece which lies along the piece's edge
abbrev pub IsAlong : Piece → CellSide → Type 0
IsAlong piece (cell, W) = cell.i ≡ piece.i0
IsAlong piece (cell, E) = cell.i + 1 ≡ piece.i0 + piece.nx
IsAlong piece (cell, S) = cell.j ≡ piece.j0
IsAlong piece (cell, N) = cell.j + 1 ≡ piece.j0 + piece.ny

-- a face whose sides are of two pieces, or both lie along the edge of one
abbrev pub IsCrossed : Cuts → CellSide → CellSide → Type 0
IsCrossed layout first second =
    (owner_of layout first.0 ≢ owner_of layout second.0)
    ⊎ (IsAlong (piece_of layout (owner_of layout first.0)) first × IsAlong (piece_of layout (owner_of layout second.0)) second)

-- a place of a piece with a side there: column, row, side
abbrev pub Spot : Type 0
Spot = ℕ × ℕ × Side

-- the spot of a side in its cell's piece
abbrev pub spot_of : Cuts → CellSide → Spot
spot_of layout a =
    let place = place_in (piece_of layout (owner_of layout a.0)) a.0 in (place.0, place.1, a.1)

-- the sides of a face, as a face strip has them
pub record FaceLink : Type 0 where
  pub from : ℕ
  pub to : ℕ
  pub source : Spot
  pub target : Spot

-- a face as a face strip has it: its first side is the source
abbrev pub face_link : Cuts → CellSide → CellSide → FaceLink
face_link layout first second = record {
  from = owner_of layout first.0;
  to = owner_of layout second.0;
  source = spot_of layout first;
  target = spot_of layout second;
}

abbrev pub face_strip_at : List FaceStrip → ℕ → FaceStrip
face_strip_at strips n = slice_index_or strips n (record { from = 0; to = 0; sources = []; targets = [] })

abbrev pub spot_at : List Spot → ℕ → Spot
spot_at spots k = slice_index_or spots k (0, 0, W)

-- what stands at number k of a face strip
abbrev pub face_link_at : FaceStrip → ℕ → FaceLink
face_link_at strip k = record { from = strip.from; to = strip.to; source = spot_at strip.sources k; target = spot_at strip.targets k }

-- a face stands at number k of the n-th face strip
pub record FaceStandsAt (strips : List FaceStrip) (n k : ℕ) (link : FaceLink) : Type 0 where
  pub strip : n < length strips
  pub within : k < length (face_strip_at strips n).sources
  pub is : face_link_at (face_strip_at strips n) k ≡ link

-- the pieces of a face are of the layout, and its spots are of them
pub record FaceIsWithin (layout : Cuts) (link : FaceLink) : Type 0 where
  pub from : link.from < pieces_of layout
  pub to : link.to < pieces_of layout
  pub source : IsPlaceOf (piece_of layout link.from) (link.source.0, link.source.1)
  pub target : IsPlaceOf (piece_of layout link.to) (link.target.0, link.target.1)

-- one face strip comes before another: by from, then to
abbrev pub FacePrecedes : FaceStrip → FaceStrip → Type 0
FacePrecedes s t = LessThen s.from t.from (s.to < t.to)

-- The face strips between the pieces of a layout of a mosaic: sorted, so that two pieces have at most one in each direction.
-- Each face whose sides are of two pieces, or both along the edge of one, stands in exactly one, with its first side as the
-- source and its second side as the target at the same number. Nothing else stands in any.
pub record AreFaceStrips (mosaic : MosaicLists) (layout : Cuts) (strips : List FaceStrip) : Type 0 where
  pub sorted : (m n : ℕ) → m < n → n < length strips → FacePrecedes (face_strip_at strips m) (face_strip_at strips n)
  pub even : (n : ℕ) → n < length strips → length (face_strip_at strips n).targets ≡ length (face_strip_at strips n).sources
  pub some : (n : ℕ) → n < length strips → 1 ≤ length (face_strip_at strips n).sources
  pub each : (first second : CellSide) → IsFace mosaic first second → IsCrossed layout first second → (n : ℕ) × (k : ℕ) × FaceStandsAt strips n k (face_link layout first second)
  pub only : (n k : ℕ) (link : FaceLink) → FaceStandsAt strips n k link → (first : CellSide) × (second : CellSide) × IsFace mosaic first second × IsCrossed layout first second × (link ≡ face_link layout first second)
  pub within : (n k : ℕ) (link : FaceLink) → FaceStandsAt strips n k link → FaceIsWithin layout link
  pub once : (n m k l : ℕ) (link : FaceLink) → FaceStandsAt strips n k link → FaceStandsAt strips m l link → (n ≡ m) × (k ≡ l)
