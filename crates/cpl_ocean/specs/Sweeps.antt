-- Sweeps over the cells of a piece.
use Rattle.std.specs.Prelude.{◌≡◌, ℕ, ◌*◌, ◌≤◌, List, length}
use Rattle.cpl_field.specs.Spots.{FieldNumbers, IsShape, IsSameShape, number_at}
use Rattle.cpl_field.specs.Sweeps.{ComputesFor, IsInside, IsOnRim}
use Rattle.cpl_ice.specs.declared.parts.Salty.{Salty}
use Rattle.cpl_transport.specs.Salts.{nothing}
use Rattle.cpl_ocean.specs.declared.basin.Basin.{Basin}
use Rattle.cpl_ocean.specs.declared.fields.Fields.{Fields}
use Rattle.cpl_ocean.specs.Flows.{AreHeights, AreOceanAreas, AreSalty, transported}
use Rattle.cpl_ocean.specs.Layers.{AreOf, LayerNumbers}

-- a cell with at least two cells of the piece between it and each of the piece's edges
abbrev pub IsInner : FieldNumbers → (i j : ℕ) → Type 0
IsInner area i j = IsInside 2 area i j

-- a cell with fewer
abbrev pub IsRim : FieldNumbers → (i j : ℕ) → Type 0
IsRim area i j = IsOnRim 2 area i j

-- the cells that are meant have these amounts, and the others keep what was computed for them
abbrev pub Computes : FieldNumbers → (next : ℕ → ℕ → Salty) → (IsMeant : ℕ → ℕ → Type 0) → (old new : List Salty) → Type 0
Computes area next IsMeant old new = ComputesFor nothing area next IsMeant old new

-- the columns of a piece and its halo, two cells wide
pub record IsBasin (basin : Basin) : Type 0 where
  pub columns : basin.area.nx ≡ basin.nx
  pub rows : basin.area.ny ≡ basin.ny
  pub width : basin.area.width ≡ 2
  pub shape : IsShape basin.nx basin.ny 2
  pub areas : AreOceanAreas basin.area
  pub alike : IsSameShape basin.area basin.heights
  pub heights : AreHeights basin.heights

-- what the transport of a layer is computed from
pub record CanTransport (basin : Basin) (slope : ℕ) (fields : Fields) : Type 0 where
  pub low : slope ≤ 40
  pub columns : IsBasin basin
  pub shapes : AreOf basin.area fields
  pub salty : AreSalty basin.area fields

-- a layer can be swept
pub record CanSweep (basin : Basin) (slope : ℕ) (layer : LayerNumbers) : Type 0 where
  pub from : CanTransport basin slope layer.fields
  pub count : length layer.left ≡ basin.nx * basin.ny

-- what the transport leaves in a cell, by heights that are kept
abbrev pub left_in : Basin → (slope : ℕ) → Fields → (i j : ℕ) → Salty
left_in basin slope fields i j = transported basin.area (number_at basin.heights) slope fields i j

-- a layer has what the transport leaves in the cells that are meant, beside its fields
pub record SweepsLayer (basin : Basin) (slope : ℕ) (IsMeant : ℕ → ℕ → Type 0) (old new : LayerNumbers) : Type 0 where
  pub fields : new.fields ≡ old.fields
  pub left : Computes basin.area (left_in basin slope old.fields) IsMeant old.left new.left
