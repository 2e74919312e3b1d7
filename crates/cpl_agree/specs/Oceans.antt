-- Pieces of the ocean that hold the numbers of a whole ocean.
use Rattle.std.specs.Prelude.{◌≡◌, ℕ, ◌<◌, length, Option, Some, None}
use Rattle.cpl_fixed.specs.Amounts.{at}
use Rattle.cpl_mosaic.specs.declared.mosaic.Mesh.{Mesh}
use Rattle.cpl_mosaic.specs.declared.parts.Side.{Side}
use Rattle.cpl_mosaic.specs.Sides.{CellSide}
use Rattle.cpl_layout.specs.declared.piece.Piece.{Piece}
use Rattle.cpl_layout.specs.Owners.{IsPlaceOf}
use Rattle.cpl_strip.specs.Holes.{walk_to}
use Rattle.cpl_field.specs.Crossings.{outward}
use Rattle.cpl_field.specs.Spots.{FieldNumbers, CellAt, HoleAt, IsSpot, out_from}
use Rattle.cpl_ice.specs.declared.parts.Salty.{Salty}
use Rattle.cpl_ocean.specs.Columns.{IsCell}
use Rattle.cpl_ocean.specs.Layers.{salty_at}
use Rattle.cpl_ocean.specs.Pieces.{OceanNumbers, fields_at}
use Rattle.cpl_rounds.specs.Rounds.{outward_in}
use Rattle.cpl_state.specs.Diffusion.{cell_number}
use Rattle.cpl_state.specs.Transport.{Sea, cell_in}
use Rattle.cpl_transport.specs.Salts.{nothing}
use Rattle.cpl_agree.specs.Fields.{HasCells, HasHoles, IsFieldOf, whole_number}

-- the areas of a piece, with a halo of two cells: none where a hole stands for no cell
pub record HasAreas (mesh : Mesh) (piece : Piece) (area : FieldNumbers) : Type 0 where
  pub shape : IsFieldOf piece 2 area
  pub cells : HasCells mesh.mosaic.tiles (at mesh.area) piece area
  pub holes : HasHoles mesh.mosaic (at mesh.area) piece area

-- what a layer has in the cell that a walk leads to: nothing where it leads to none
abbrev pub layer_beyond : Mesh → Sea → (layer : ℕ) → Option CellSide → Salty
layer_beyond mesh sea layer None = nothing
layer_beyond mesh sea layer (Some entered) = cell_in mesh sea layer (cell_number mesh entered)

-- the cells of a piece hold what the whole ocean has there
pub record HoldsCells (mesh : Mesh) (layers : ℕ) (sea : Sea) (piece : Piece) (ocean : OceanNumbers) : Type 0 where
  pub areas : HasAreas mesh piece ocean.area
  pub count : length ocean.layers ≡ layers
  pub cells : (l i j : ℕ) → l < layers → IsPlaceOf piece (i, j) → salty_at (fields_at ocean l) (CellAt i j) ≡ cell_in mesh sea l (whole_number mesh.mosaic.tiles piece i j)

-- the holes of a piece hold what the whole ocean has in the cells that they stand for
abbrev pub HoldsHoles : Mesh → (layers : ℕ) → Sea → Piece → OceanNumbers → Type 0
HoldsHoles mesh layers sea piece ocean =
    (l : ℕ) (side : Side) (k depth : ℕ) → l < layers → IsSpot ocean.area (HoleAt side k depth)
    → salty_at (fields_at ocean l) (HoleAt side k depth) ≡ layer_beyond mesh sea l (walk_to mesh.mosaic piece (record { side = side; at = k; depth = depth }))

-- the sides that are meant see the numbers of their faces in the whole ocean, outward
abbrev pub HoldsFaces : Mesh → (layers : ℕ) → Sea → Piece → (IsMeant : ℕ → ℕ → Side → Type 0) → OceanNumbers → Type 0
HoldsFaces mesh layers sea piece IsMeant ocean =
    (l i j : ℕ) (side : Side) → l < layers → IsPlaceOf piece (i, j) → IsMeant i j side
    → outward (fields_at ocean l).faces i j side ≡ outward_in mesh sea l (whole_number mesh.mosaic.tiles piece i j) side

-- a side between two cells of the piece
abbrev pub IsWithin : FieldNumbers → (i j : ℕ) → Side → Type 0
IsWithin area i j side = IsCell (out_from area i j side 1)

-- any side
abbrev pub IsAny : (i j : ℕ) → Side → Type 0
IsAny i j side = Unit {0}
