-- Whole lists in the fields of pieces.
use Rattle.std.specs.Prelude.{◌≡◌, ℕ, ◌<◌, List, length, ℤ, pos, Option, Some, None}
use Rattle.cpl_mosaic.specs.declared.parts.Side.{Side}
use Rattle.cpl_mosaic.specs.declared.parts.Tile.{Tile}
use Rattle.cpl_mosaic.specs.declared.mosaic.Mesh.{Mesh}
use Rattle.cpl_mosaic.specs.declared.parts.CellId.{CellId}
use Rattle.cpl_mosaic.specs.Contacts.{cells_of}
use Rattle.cpl_mosaic.specs.Lists.{MosaicLists}
use Rattle.cpl_mosaic.specs.Sides.{CellSide}
use Rattle.cpl_mosaic.specs.Cells.{number_of, cell_of}
use Rattle.cpl_layout.specs.declared.piece.Piece.{Piece}
use Rattle.cpl_layout.specs.Layouts.{Cuts}
use Rattle.cpl_layout.specs.Pieces.{pieces_of, piece_of, owner_of}
use Rattle.cpl_layout.specs.Owners.{IsPlaceOf, cell_in, place_in}
use Rattle.cpl_strip.specs.declared.parts.Hole.{Hole}
use Rattle.cpl_strip.specs.Holes.{edge_of, walk_to}
use Rattle.cpl_field.specs.Spots.{FieldNumbers, CellAt, HoleAt, number_at}
use Rattle.cpl_atmos.specs.Sweeps.{AirNumbers}
use Rattle.cpl_state.specs.Diffusion.{at}
use Rattle.cpl_divided.specs.Fields.{field_at}
use Rattle.cpl_divided.specs.Steps.{area_of}

-- the field of a piece, with a halo one cell wide
pub record IsFieldOf (piece : Piece) (field : FieldNumbers) : Type 0 where
  pub nx : field.nx ≡ piece.nx
  pub ny : field.ny ≡ piece.ny
  pub width : field.width ≡ 1

-- a field for each piece
pub record AreFields (layout : Cuts) (fields : List FieldNumbers) : Type 0 where
  pub count : length fields ≡ pieces_of layout
  pub each : (p : ℕ) → p < pieces_of layout → IsFieldOf (piece_of layout p) (field_at fields p)

-- the hole at one place along a side of a piece
abbrev pub hole_beside : Side → ℕ → Hole
hole_beside side k = record { side = side; at = k; depth = 1 }

-- the number of the cell that has this side, or 0 where there is none
abbrev pub beyond : List Tile → List ℤ → Option CellSide → ℤ
beyond tiles xs None = pos 0
beyond tiles xs (Some entered) = at xs (number_of tiles entered.0)

-- a field has the numbers of its piece's cells
abbrev pub HasCells : List Tile → List ℤ → Piece → FieldNumbers → Type 0
HasCells tiles xs piece field =
    (i j : ℕ) → IsPlaceOf piece (i, j) → number_at field (CellAt i j) ≡ at xs (number_of tiles (cell_in piece (i, j)))

-- a field has 0 in each hole that no walk leads to
abbrev pub HasEmpty : MosaicLists → Piece → FieldNumbers → Type 0
HasEmpty mosaic piece field =
    (side : Side) (k : ℕ) → k < edge_of piece side → walk_to mosaic piece (hole_beside side k) ≡ None → number_at field (HoleAt side k 1) ≡ pos 0

-- a field has in each hole the number of the cell that its walk leads to
abbrev pub HasHoles : MosaicLists → List ℤ → Piece → FieldNumbers → Type 0
HasHoles mosaic xs piece field =
    (side : Side) (k : ℕ) → k < edge_of piece side → number_at field (HoleAt side k 1) ≡ beyond mosaic.tiles xs (walk_to mosaic piece (hole_beside side k))

-- the fields have the numbers of a whole list at their cells, and their holes wait to be filled
pub record HoldWhole (mosaic : MosaicLists) (layout : Cuts) (xs : List ℤ) (fields : List FieldNumbers) : Type 0 where
  pub sized : AreFields layout fields
  pub cells : (p : ℕ) → p < pieces_of layout → HasCells mosaic.tiles xs (piece_of layout p) (field_at fields p)
  pub empty : (p : ℕ) → p < pieces_of layout → HasEmpty mosaic (piece_of layout p) (field_at fields p)

-- the areas of the pieces, with their holes filled
pub record HaveAreas (mesh : Mesh) (layout : Cuts) (airs : List AirNumbers) : Type 0 where
  pub count : length airs ≡ pieces_of layout
  pub each : (p : ℕ) → p < pieces_of layout → IsFieldOf (piece_of layout p) (area_of airs p)
  pub cells : (p : ℕ) → p < pieces_of layout → HasCells mesh.mosaic.tiles mesh.area (piece_of layout p) (area_of airs p)
  pub holes : (p : ℕ) → p < pieces_of layout → HasHoles mesh.mosaic mesh.area (piece_of layout p) (area_of airs p)

-- the number that the fields have for a cell
abbrev pub number_in : Cuts → List FieldNumbers → CellId → ℤ
number_in layout fields cell =
    let piece = piece_of layout (owner_of layout cell) in
    number_at (field_at fields (owner_of layout cell)) (CellAt (place_in piece cell).0 (place_in piece cell).1)

-- a whole list of what the fields have for each cell
pub record Gathers (tiles : List Tile) (layout : Cuts) (fields : List FieldNumbers) (xs : List ℤ) : Type 0 where
  pub count : length xs ≡ cells_of tiles
  pub each : (n : ℕ) → n < cells_of tiles → at xs n ≡ number_in layout fields (cell_of tiles n)
