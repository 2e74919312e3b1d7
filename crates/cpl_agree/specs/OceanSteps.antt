-- A step of a piece of the ocean, and the step of the whole ocean.
use Rattle.std.specs.Prelude.{◌≡◌, ℕ, ◌<◌, length}
use Rattle.cpl_fixed.specs.declared.rates.Rates.{Rates}
use Rattle.cpl_mosaic.specs.declared.mosaic.Mesh.{Mesh}
use Rattle.cpl_mosaic.specs.declared.parts.Side.{Side}
use Rattle.cpl_layout.specs.declared.piece.Piece.{Piece}
use Rattle.cpl_layout.specs.Owners.{IsPlaceOf}
use Rattle.cpl_field.specs.Spots.{CellAt, IsSpot}
use Rattle.cpl_ocean.specs.Columns.{height_at}
use Rattle.cpl_ocean.specs.Flows.{next_number}
use Rattle.cpl_ocean.specs.Layers.{AreLayersOf, layer_at, salty_at}
use Rattle.cpl_ocean.specs.Pieces.{Finishes, OceanNumbers, Transports, fields_at, transported_at}
use Rattle.cpl_ocean.specs.Sweeps.{IsInner, IsRim}
use Rattle.cpl_state.specs.Transport.{Sea, outward, next_number as next_of_face, stepped, transported}
use Rattle.cpl_agree.specs.Fields.{whole_number}
use Rattle.cpl_agree.specs.Oceans.{HoldsCells, HoldsFaces, HoldsHoles, IsAny, IsWithin}

-- a piece takes the numbers of its holes and of the faces along its edges, and keeps its cells and what is computed beside them
pub record TakesHalo (mesh : Mesh) (layers : ℕ) (sea : Sea) (piece : Piece) (old new : OceanNumbers) : Type 0 where
  pub area : new.area ≡ old.area
  pub count : length new.layers ≡ length old.layers
  pub shapes : AreLayersOf new.area new.layers
  pub cells : (l i j : ℕ) → l < length old.layers → IsSpot old.area (CellAt i j) → salty_at (fields_at new l) (CellAt i j) ≡ salty_at (fields_at old l) (CellAt i j)
  pub left : (l : ℕ) → l < length old.layers → (layer_at new.layers l).left ≡ (layer_at old.layers l).left
  pub holes : HoldsHoles mesh layers sea piece new
  pub faces : HoldsFaces mesh layers sea piece IsAny new

-- a step of a piece: the inner cells, which need no hole, then the holes and faces that are taken, the rim, and the end
pub record Steps (mesh : Mesh) (layers : ℕ) (rates : Rates) (sea : Sea) (piece : Piece) (first last : OceanNumbers) : Type 0 where
  pub swept : OceanNumbers
  pub taken : OceanNumbers
  pub whole : OceanNumbers
  pub interior : Transports rates.slope (IsInner first.area) first swept
  pub takes : TakesHalo mesh layers sea piece swept taken
  pub rim : Transports rates.slope (IsRim taken.area) taken whole
  pub finish : Finishes rates.slope rates.mix whole last

-- The formulas of a piece of the ocean are those of the whole. Where its cells hold what the whole ocean has there, the transport
-- leaves in its inner cells what it leaves in the whole; with its holes, in all its cells, and each side sees the next number of
-- its face, with the sign of that side. So a step of the piece ends with what a step of the whole ocean leaves in its cells and on
-- their faces.
pub record OceanAgrees (mesh : Mesh) (layers : ℕ) (rates : Rates) (sea : Sea) (piece : Piece) : Type 0 where
  pub inner : (ocean : OceanNumbers) → AreLayersOf ocean.area ocean.layers → HoldsCells mesh layers sea piece ocean → HoldsFaces mesh layers sea piece (IsWithin ocean.area) ocean
      → (l i j : ℕ) → l < layers → IsPlaceOf piece (i, j) → IsInner ocean.area i j
      → transported_at ocean rates.slope l i j ≡ transported mesh layers rates sea l (whole_number mesh.mosaic.tiles piece i j)
  pub each : (ocean : OceanNumbers) → AreLayersOf ocean.area ocean.layers → HoldsCells mesh layers sea piece ocean → HoldsHoles mesh layers sea piece ocean → HoldsFaces mesh layers sea piece IsAny ocean
      → (l i j : ℕ) → l < layers → IsPlaceOf piece (i, j)
      → transported_at ocean rates.slope l i j ≡ transported mesh layers rates sea l (whole_number mesh.mosaic.tiles piece i j)
  pub faces : (ocean : OceanNumbers) → AreLayersOf ocean.area ocean.layers → HoldsCells mesh layers sea piece ocean → HoldsHoles mesh layers sea piece ocean → HoldsFaces mesh layers sea piece IsAny ocean
      → (l i j : ℕ) (side : Side) → l < layers → IsPlaceOf piece (i, j)
      → next_number ocean.area (height_at ocean.area ocean.layers) rates.slope (fields_at ocean l).faces i j side
      ≡ outward mesh.mosaic (next_of_face mesh layers rates sea l) (whole_number mesh.mosaic.tiles piece i j) side
  pub step : (first last : OceanNumbers) → AreLayersOf first.area first.layers → HoldsCells mesh layers sea piece first → HoldsFaces mesh layers sea piece (IsWithin first.area) first
      → Steps mesh layers rates sea piece first last
      → HoldsCells mesh layers (stepped mesh layers rates sea) piece last × HoldsFaces mesh layers (stepped mesh layers rates sea) piece IsAny last
