-- The zones of a piece: the cells that are swept together.
use Rattle.std.specs.Prelude.{ℕ}
use Rattle.cpl_field.specs.Spots.{FieldNumbers, Spot}
use Rattle.cpl_ocean.specs.declared.zone.Zone.{Zone}
use Rattle.cpl_ocean.specs.declared.zone.Zone.TheVariants.{Inner, Rim}
use Rattle.cpl_ocean.specs.Columns.{IsCell, IsClose}
use Rattle.cpl_ocean.specs.Sweeps.{IsInner, IsRim}

-- a cell of a zone
abbrev pub IsIn : Zone → FieldNumbers → (i j : ℕ) → Type 0
IsIn Inner area i j = IsInner area i j
IsIn Rim area i j = IsRim area i j

-- a spot over which a column's height is read for the cells of a zone
abbrev pub IsRead : Zone → Spot → Type 0
IsRead Inner spot = IsCell spot
IsRead Rim spot = IsClose spot
