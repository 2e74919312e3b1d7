-- Which strips there are.
use Rattle.std.specs.Prelude.{◌≡◌, ℕ, ◌<◌, ◌≤◌, List, [], length, Some, slice_index_or}
use Rattle.cpl_mosaic.specs.declared.parts.Side.TheVariants.{W}
use Rattle.cpl_mosaic.specs.Lists.{MosaicLists}
use Rattle.cpl_mosaic.specs.Sides.{CellSide}
use Rattle.cpl_layout.specs.Layouts.{Cuts}
use Rattle.cpl_layout.specs.Pieces.{pieces_of, piece_of, owner_of}
use Rattle.cpl_layout.specs.Owners.{place_in, IsPlaceOf}
use Rattle.cpl_strip.specs.declared.parts.Hole.{Hole}
use Rattle.cpl_strip.specs.declared.parts.Strip.{Strip}
use Rattle.cpl_faces.specs.Orders.{LessThen}
use Rattle.cpl_strip.specs.Holes.{IsHoleOf, walk_to}

-- a place of one piece beside a hole of another, or of the same
pub record Link : Type 0 where
  pub from : ℕ
  pub to : ℕ
  pub place : ℕ × ℕ
  pub hole : Hole

-- The hole takes the number of the cell that its walk leads to: at the place of this cell in the piece that owns it. A hole
-- without a walk takes none.
pub record IsLink (mosaic : MosaicLists) (layout : Cuts) (width : ℕ) (link : Link) (entered : CellSide) : Type 0 where
  pub to : link.to < pieces_of layout
  pub hole : IsHoleOf (piece_of layout link.to) width link.hole
  pub walk : walk_to mosaic (piece_of layout link.to) link.hole ≡ Some entered
  pub from : link.from ≡ owner_of layout entered.0
  pub place : link.place ≡ place_in (piece_of layout link.from) entered.0

abbrev pub strip_at : List Strip → ℕ → Strip
strip_at strips n = slice_index_or strips n (record { from = 0; to = 0; places = []; holes = [] })

abbrev pub place_at : Strip → ℕ → ℕ × ℕ
place_at strip k = slice_index_or strip.places k (0, 0)

abbrev pub hole_at : Strip → ℕ → Hole
hole_at strip k = slice_index_or strip.holes k (record { side = W; at = 0; depth = 0 })

-- what stands at number k of a strip
abbrev pub link_at : Strip → ℕ → Link
link_at strip k = record { from = strip.from; to = strip.to; place = place_at strip k; hole = hole_at strip k }

-- a link stands at number k of the n-th strip
pub record StandsAt (strips : List Strip) (n k : ℕ) (link : Link) : Type 0 where
  pub strip : n < length strips
  pub within : k < length (strip_at strips n).holes
  pub is : link_at (strip_at strips n) k ≡ link

-- the pieces of a link are of the layout, and its place is one of the piece that gives
pub record IsWithin (layout : Cuts) (link : Link) : Type 0 where
  pub from : link.from < pieces_of layout
  pub to : link.to < pieces_of layout
  pub place : IsPlaceOf (piece_of layout link.from) link.place

-- one strip comes before another: by from, then to
abbrev pub Precedes : Strip → Strip → Type 0
Precedes s t = LessThen s.from t.from (s.to < t.to)

-- The strips between the pieces of a layout of a mosaic, for halos of a width: sorted, so that two pieces have at most one.
-- Each hole with a walk stands in exactly one, beside the place of the walk's cell, and nothing else stands in any.
pub record AreStrips (mosaic : MosaicLists) (layout : Cuts) (width : ℕ) (strips : List Strip) : Type 0 where
  pub sorted : (m n : ℕ) → m < n → n < length strips → Precedes (strip_at strips m) (strip_at strips n)
  pub even : (n : ℕ) → n < length strips → length (strip_at strips n).places ≡ length (strip_at strips n).holes
  pub some : (n : ℕ) → n < length strips → 1 ≤ length (strip_at strips n).holes
  pub each : (link : Link) (entered : CellSide) → IsLink mosaic layout width link entered → (n : ℕ) × (k : ℕ) × StandsAt strips n k link
  pub only : (n k : ℕ) (link : Link) → StandsAt strips n k link → (entered : CellSide) × IsLink mosaic layout width link entered
  pub within : (n k : ℕ) (link : Link) → StandsAt strips n k link → IsWithin layout link
  pub once : (n m k l : ℕ) (a b : Link) → StandsAt strips n k a → StandsAt strips m l b → a.to ≡ b.to → a.hole ≡ b.hole → (n ≡ m) × (k ≡ l)
