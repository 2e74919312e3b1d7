-- What moves through the sides of a piece's cells in a step of the ocean.
use Rattle.std.specs.Prelude.{ℕ, nat_lt, Bool, ◌&&◌, ℤ, pos, if◌then◌else◌}
use Rattle.cpl_fixed.specs.Amounts.{amount}
use Rattle.cpl_fixed.specs.Ranges.{IsFromℤ}
use Rattle.cpl_fixed.specs.declared.limits.TheConstants.{MOST_AREA}
use Rattle.cpl_mosaic.specs.declared.parts.Side.{Side}
use Rattle.cpl_mosaic.specs.declared.parts.Side.TheVariants.{W, E, S, N}
use Rattle.cpl_mosaic.specs.Sides.{opposite}
use Rattle.cpl_field.specs.Crossings.{FaceNumbers, outward}
use Rattle.cpl_field.specs.Spots.{FieldNumbers, Spot, CellAt, IsSpot, number_at, out_from}
use Rattle.cpl_ice.specs.declared.parts.Salty.{Salty}
use Rattle.cpl_transport.specs.Heights.{IsHeight, next_face}
use Rattle.cpl_transport.specs.Moves.{through}
use Rattle.cpl_transport.specs.Salts.{IsSalty, joined, nothing, without}
use Rattle.cpl_ocean.specs.declared.fields.Fields.{Fields}
use Rattle.cpl_ocean.specs.Layers.{salty_at}

-- a cell or a hole is wet where it has an area
abbrev pub is_wet : (area : FieldNumbers) → Spot → Bool
is_wet area spot = nat_lt 0 (amount (number_at area spot))

-- a side of a cell has no wall where the cell and what lies across it are wet
abbrev pub is_open : (area : FieldNumbers) → (i j : ℕ) → Side → Bool
is_open area i j side = is_wet area (CellAt i j) && is_wet area (out_from area i j side 1)

-- the number of a side's face after a step, outward, by the heights of the columns: a wall keeps 0
abbrev pub next_number : (area : FieldNumbers) → (height : Spot → ℤ) → (slope : ℕ) → FaceNumbers → (i j : ℕ) → Side → ℤ
next_number area height slope faces i j side =
    if is_open area i j side
    then next_face slope (outward faces i j side) (height (CellAt i j)) (height (out_from area i j side 1))
    else pos 0

-- the farther of two, where there is no wall between them; else the nearer
abbrev pub open_or : (area : FieldNumbers) → (far near : Spot) → Spot
open_or area far near = if is_wet area far then far else near

-- behind a wet cell, opposite this side of it
abbrev pub behind : (area : FieldNumbers) → (i j : ℕ) → Side → Spot
behind area i j side = open_or area (out_from area i j (opposite side) 1) (CellAt i j)

-- beyond what lies across this side, where that is wet
abbrev pub beyond : (area : FieldNumbers) → (i j : ℕ) → Side → Spot
beyond area i j side = open_or area (out_from area i j side 2) (out_from area i j side 1)

-- What moves outward through a side of a cell, by the next number of its face: between what lies behind, the cell itself, what
-- lies across the side, and what lies beyond that. Nothing moves through a wall.
abbrev pub flow_out : (area : FieldNumbers) → (height : Spot → ℤ) → (slope : ℕ) → Fields → (i j : ℕ) → Side → Salty
flow_out area height slope fields i j side =
    if is_open area i j side
    then
    through (next_number area height slope fields.faces i j side)
    (salty_at fields (behind area i j side))
    (salty_at fields (CellAt i j))
    (salty_at fields (out_from area i j side 1))
    (salty_at fields (beyond area i j side))
    else nothing

-- what moves out of a cell through its four sides
abbrev pub moved_out : (area : FieldNumbers) → (height : Spot → ℤ) → (slope : ℕ) → Fields → (i j : ℕ) → Salty
moved_out area height slope fields i j =
    joined (joined (flow_out area height slope fields i j W) (flow_out area height slope fields i j E))
    (joined (flow_out area height slope fields i j S) (flow_out area height slope fields i j N))

-- what the transport leaves in a cell
abbrev pub transported : (area : FieldNumbers) → (height : Spot → ℤ) → (slope : ℕ) → Fields → (i j : ℕ) → Salty
transported area height slope fields i j = without (salty_at fields (CellAt i j)) (moved_out area height slope fields i j)

-- an area is from 0 on, and a hole has none where nothing has filled it
abbrev pub AreOceanAreas : FieldNumbers → Type 0
AreOceanAreas area = (spot : Spot) → IsSpot area spot → IsFromℤ 0 MOST_AREA (number_at area spot)

-- heights of columns
abbrev pub AreHeights : FieldNumbers → Type 0
AreHeights heights = (spot : Spot) → IsSpot heights spot → IsHeight (number_at heights spot)

-- no amount of a cell or a hole is negative or above the greatest total
abbrev pub AreSalty : (area : FieldNumbers) → Fields → Type 0
AreSalty area fields = (spot : Spot) → IsSpot area spot → IsSalty (salty_at fields spot)
