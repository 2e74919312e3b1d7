-- A piece of the ocean.
use Rattle.std.specs.Prelude.{◌≡◌, ◌≢◌, ℕ, zero, suc, ◌+◌, ◌*◌, ◌<◌, List, length, ℤ}
use Rattle.cpl_layout.specs.declared.piece.Piece.{Piece}
use Rattle.cpl_mosaic.specs.declared.parts.Side.{Side}
use Rattle.cpl_field.specs.Crossings.{SetsSide, outward}
use Rattle.cpl_field.specs.Spots.{FieldNumbers, CellAt, HoleAt, IsSpot, IsSameShape, Sets, number_at}
use Rattle.cpl_ice.specs.declared.parts.Salty.{Salty}
use Rattle.cpl_ocean.specs.declared.basin.Basin.{Basin}
use Rattle.cpl_ocean.specs.declared.fields.Fields.{Fields}
use Rattle.cpl_transport.specs.Cells.{mixed_cell}
use Rattle.cpl_ocean.specs.Columns.{column_left, height_at}
use Rattle.cpl_ocean.specs.Flows.{AreSalty, next_number, transported}
use Rattle.cpl_ocean.specs.Layers.{AreLayersOf, IsEmptyLayer, LayerNumbers, SetsCell, layer_at, salty_at}
use Rattle.cpl_ocean.specs.Sweeps.{Computes, IsBasin}

-- the areas of a piece and its halo, and its layers, the top one first
pub record OceanNumbers : Type 0 where
  pub area : FieldNumbers
  pub layers : List LayerNumbers

abbrev pub fields_at : OceanNumbers → (l : ℕ) → Fields
fields_at ocean l = (layer_at ocean.layers l).fields

-- what is kept of a piece
pub record IsOcean (basin : Basin) (layers : List LayerNumbers) : Type 0 where
  pub columns : IsBasin basin
  pub shapes : AreLayersOf basin.area layers

-- no amount of a cell or of a hole is negative or above the greatest total
abbrev pub HasAmounts : OceanNumbers → Type 0
HasAmounts ocean = (l : ℕ) → l < length ocean.layers → AreSalty ocean.area (fields_at ocean l)

-- what the transport leaves in a cell of a layer
abbrev pub transported_at : OceanNumbers → (slope l i j : ℕ) → Salty
transported_at ocean slope l i j = transported ocean.area (height_at ocean.area ocean.layers) slope (fields_at ocean l) i j

-- the cells that are meant have what the transport leaves in them beside the fields, and all else stays
pub record Transports (slope : ℕ) (IsMeant : ℕ → ℕ → Type 0) (old new : OceanNumbers) : Type 0 where
  pub area : new.area ≡ old.area
  pub count : length new.layers ≡ length old.layers
  pub fields : (l : ℕ) → l < length old.layers → fields_at new l ≡ fields_at old l
  pub left : (l : ℕ) → l < length old.layers → Computes old.area (transported_at old slope l) IsMeant (layer_at old.layers l).left (layer_at new.layers l).left

-- the cells hold what the vertical exchange makes of what the transport left in them, and each of their sides sees the number of
-- its face after the step. The holes keep what they held
pub record Finishes (slope mix : ℕ) (old new : OceanNumbers) : Type 0 where
  pub area : new.area ≡ old.area
  pub count : length new.layers ≡ length old.layers
  pub cells : (l i j : ℕ) → l < length old.layers → IsSpot old.area (CellAt i j) → salty_at (fields_at new l) (CellAt i j) ≡ mixed_cell mix (length old.layers) (column_left old.layers (j * old.area.nx + i)) l
  pub holes : (l : ℕ) (side : Side) (k depth : ℕ) → l < length old.layers → IsSpot old.area (HoleAt side k depth) → salty_at (fields_at new l) (HoleAt side k depth) ≡ salty_at (fields_at old l) (HoleAt side k depth)
  pub faces : (l i j : ℕ) (side : Side) → l < length old.layers → IsSpot old.area (CellAt i j) → outward (fields_at new l).faces i j side ≡ next_number old.area (height_at old.area old.layers) slope (fields_at old l).faces i j side

-- one layer changes as is said, and all else stays
pub record ChangesLayer (layer : ℕ) (Changes : LayerNumbers → LayerNumbers → Type 0) (old new : OceanNumbers) : Type 0 where
  pub area : new.area ≡ old.area
  pub count : length new.layers ≡ length old.layers
  pub there : Changes (layer_at old.layers layer) (layer_at new.layers layer)
  pub others : (l : ℕ) → l ≢ layer → layer_at new.layers l ≡ layer_at old.layers l

-- a cell of a layer has new amounts
pub record ChangesCell (i j : ℕ) (it : Salty) (old new : LayerNumbers) : Type 0 where
  pub fields : SetsCell old.fields new.fields i j it
  pub left : new.left ≡ old.left

-- a side of a cell of a layer sees a new number
pub record ChangesSide (i j : ℕ) (side : Side) (x : ℤ) (old new : LayerNumbers) : Type 0 where
  pub water : new.fields.water ≡ old.fields.water
  pub heat : new.fields.heat ≡ old.fields.heat
  pub salt : new.fields.salt ≡ old.fields.salt
  pub faces : SetsSide old.fields.faces new.fields.faces (record { i = i; j = j; side = side }) x
  pub left : new.left ≡ old.left

-- water, heat or salt
abbrev pub field_in : Fields → (n : ℕ) → FieldNumbers
field_in fields zero = fields.water
field_in fields (suc zero) = fields.heat
field_in fields (suc (suc n)) = fields.salt

-- one field of a layer changes as is said
pub record ChangesField (n : ℕ) (Changes : FieldNumbers → FieldNumbers → Type 0) (old new : LayerNumbers) : Type 0 where
  pub there : Changes (field_in old.fields n) (field_in new.fields n)
  pub others : (m : ℕ) → m < 3 → m ≢ n → field_in new.fields m ≡ field_in old.fields m
  pub faces : new.fields.faces ≡ old.fields.faces
  pub left : new.left ≡ old.left

-- the cells have the numbers of another field, and the holes keep theirs
pub record LoadsCells (from old new : FieldNumbers) : Type 0 where
  pub shape : IsSameShape old new
  pub cells : (i j : ℕ) → IsSpot old (CellAt i j) → number_at new (CellAt i j) ≡ number_at from (CellAt i j)
  pub holes : (side : Side) (k depth : ℕ) → IsSpot old (HoleAt side k depth) → number_at new (HoleAt side k depth) ≡ number_at old (HoleAt side k depth)

-- the holes have the numbers of another field, and the cells keep theirs
pub record LoadsHoles (from old new : FieldNumbers) : Type 0 where
  pub shape : IsSameShape old new
  pub cells : (i j : ℕ) → IsSpot old (CellAt i j) → number_at new (CellAt i j) ≡ number_at old (CellAt i j)
  pub holes : (side : Side) (k depth : ℕ) → IsSpot old (HoleAt side k depth) → number_at new (HoleAt side k depth) ≡ number_at from (HoleAt side k depth)

-- one hole has another number
abbrev pub SetsHole : (side : Side) → (k depth : ℕ) → ℤ → (old new : FieldNumbers) → Type 0
SetsHole side k depth x old new = Sets old new (HoleAt side k depth) x

-- a piece with nothing in it
pub record IsEmptyOcean (piece : Piece) (area : FieldNumbers) (layers : ℕ) (ocean : OceanNumbers) : Type 0 where
  pub areas : ocean.area ≡ area
  pub count : length ocean.layers ≡ layers
  pub each : (l : ℕ) → l < layers → IsEmptyLayer piece (layer_at ocean.layers l)
