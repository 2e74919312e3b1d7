-- Cells of all layers, stored one after the other.
use Rattle.std.specs.Prelude.{◌≡◌, ℕ, ◌+◌, ◌*◌, ◌<◌, List, length}
use Rattle.cpl_mosaic.specs.declared.parts.Side.{Side}
use Rattle.cpl_field.specs.Spots.{FieldNumbers, CellAt, HoleAt, IsSpot}
use Rattle.cpl_ocean.specs.Layers.{AreLayersOf, LayerNumbers, layer_at, salty_at}
use Rattle.cpl_transport.specs.Cells.{mixed_cell}
use Rattle.cpl_ocean.specs.Columns.{AreLeft, column_left}

-- the cells that are meant hold what the vertical exchange makes of what the transport left, and the others what they held. The
-- holes and the faces keep their numbers
pub record Mixes (area : FieldNumbers) (mix : ℕ) (IsMeant : (l i j : ℕ) → Type 0) (old new : List LayerNumbers) : Type 0 where
  pub count : length new ≡ length old
  pub shapes : AreLayersOf area new
  pub left : (l : ℕ) → (layer_at new l).left ≡ (layer_at old l).left
  pub faces : (l : ℕ) → l < length old → (layer_at new l).fields.faces ≡ (layer_at old l).fields.faces
  pub meant : (l i j : ℕ) → l < length old → IsSpot area (CellAt i j) → IsMeant l i j → salty_at (layer_at new l).fields (CellAt i j) ≡ mixed_cell mix (length old) (column_left old (j * area.nx + i)) l
  pub others : (l i j : ℕ) → l < length old → IsSpot area (CellAt i j) → (IsMeant l i j → ⊥) → salty_at (layer_at new l).fields (CellAt i j) ≡ salty_at (layer_at old l).fields (CellAt i j)
  pub holes : (l : ℕ) (side : Side) (k depth : ℕ) → l < length old → IsSpot area (HoleAt side k depth) → salty_at (layer_at new l).fields (HoleAt side k depth) ≡ salty_at (layer_at old l).fields (HoleAt side k depth)

-- a cell of row n of layer m, in columns before one
pub record IsMixedBefore (m to n : ℕ) (l i j : ℕ) : Type 0 where
  pub layer : l ≡ m
  pub row : j ≡ n
  pub column : i < to

-- a cell of layer m, in rows before one
pub record IsMixedBelow (m to : ℕ) (l i j : ℕ) : Type 0 where
  pub layer : l ≡ m
  pub row : j < to

-- a cell of the layers above one
abbrev pub IsMixedAbove : (m l i j : ℕ) → Type 0
IsMixedAbove m l i j = l < m

abbrev pub IsAnyCell : (l i j : ℕ) → Type 0
IsAnyCell l i j = Unit {0}

-- no amount that the transport leaves is negative or above the greatest total
abbrev pub IsAllLeft : (area : FieldNumbers) → List LayerNumbers → Type 0
IsAllLeft area layers = (i j : ℕ) → IsSpot area (CellAt i j) → AreLeft layers (j * area.nx + i)
