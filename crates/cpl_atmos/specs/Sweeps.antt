-- A step of the diffusion on one piece of the air.
use Rattle.std.specs.Prelude.{◌≡◌, ℕ, zero, ◌^◌, List, ℤ, pos, ◌+ℤ◌, ◌-ℤ◌, ◌≤ℤ◌}
use Rattle.cpl_mosaic.specs.declared.parts.Side.{Side}
use Rattle.cpl_mosaic.specs.declared.parts.Side.TheVariants.{W, E, S, N}
use Rattle.cpl_fixed.specs.Flows.{flow, IsAirAmount, IsAirArea}
use Rattle.cpl_field.specs.Spots.{FieldNumbers, Spot, CellAt, HoleAt, IsSpot, IsSameShape, number_at, out_from}
use Rattle.cpl_field.specs.Sweeps.{ComputesFor, IsInside, IsOnRim, in_rows}

-- what flows out of a cell with the amount x and the area a toward a spot with the amount x' and the area a': nothing toward
-- one without area, which stands beyond a wall
abbrev pub flow_beside : (x a x' a' : ℤ) → ℤ
flow_beside x a x' (pos zero) = pos 0
flow_beside x a x' a' = flow x a x' a'

-- what flows out of a cell through one of its sides, by the amounts and the areas of a piece and its halo
abbrev pub flow_out : (area x : FieldNumbers) → (i j : ℕ) → Side → ℤ
flow_out area x i j side =
    flow_beside (number_at x (CellAt i j)) (number_at area (CellAt i j)) (number_at x (out_from x i j side 1)) (number_at area (out_from area i j side 1))

-- what a cell loses through its four sides
abbrev pub loss_at : (area x : FieldNumbers) → (i j : ℕ) → ℤ
loss_at area x i j = flow_out area x i j W +ℤ flow_out area x i j E +ℤ flow_out area x i j S +ℤ flow_out area x i j N

-- the amount of a cell after a step
abbrev pub next_at : (area x : FieldNumbers) → (i j : ℕ) → ℤ
next_at area x i j = number_at x (CellAt i j) -ℤ loss_at area x i j

-- a cell of the piece with no side on the piece's edge
abbrev pub IsInner : FieldNumbers → (i j : ℕ) → Type 0
IsInner area i j = IsInside 1 area i j

-- a cell with some side on the piece's edge
abbrev pub IsRim : FieldNumbers → (i j : ℕ) → Type 0
IsRim area i j = IsOnRim 1 area i j

-- a piece with the areas of its cells and holes, and a computed amount for each of its cells
pub record AirNumbers : Type 0 where
  pub area : FieldNumbers
  pub values : List ℤ

-- a computed amount: the list has the rows one after another
abbrev pub value_in : ℕ → List ℤ → (i j : ℕ) → ℤ
value_in nx values i j = in_rows (pos 0) nx values i j

abbrev pub value_at : AirNumbers → (i j : ℕ) → ℤ
value_at air i j = value_in air.area.nx air.values i j

-- the cells that are meant have their amounts after a step, and the others keep what was computed for them
abbrev pub Computes : (area x : FieldNumbers) → (IsMeant : ℕ → ℕ → Type 0) → (old new : List ℤ) → Type 0
Computes area x IsMeant old new = ComputesFor (pos 0) area (next_at area x) IsMeant old new

-- the cells have the computed amounts, and the holes keep theirs
pub record Stores (air : AirNumbers) (old new : FieldNumbers) : Type 0 where
  pub shape : IsSameShape old new
  pub cells : (i j : ℕ) → IsSpot old (CellAt i j) → number_at new (CellAt i j) ≡ value_at air i j
  pub holes : (side : Side) (k depth : ℕ) → IsSpot old (HoleAt side k depth) → number_at new (HoleAt side k depth) ≡ number_at old (HoleAt side k depth)

-- a cell has an area above 0. A hole has one from 0 on, and none where nothing has filled it
pub record AreAirAreas (area : FieldNumbers) : Type 0 where
  pub cells : (i j : ℕ) → IsSpot area (CellAt i j) → IsAirArea (number_at area (CellAt i j))
  pub least : (spot : Spot) → IsSpot area spot → pos 0 ≤ℤ number_at area spot
  pub most : (spot : Spot) → IsSpot area spot → number_at area spot ≤ℤ pos (2 ^ 40)

-- no amount of a cell is negative or above what the air may hold, and none of a hole is
abbrev pub AreCellAmounts : FieldNumbers → Type 0
AreCellAmounts x = (i j : ℕ) → IsSpot x (CellAt i j) → IsAirAmount (number_at x (CellAt i j))

abbrev pub AreAmounts : FieldNumbers → Type 0
AreAmounts x = (spot : Spot) → IsSpot x spot → IsAirAmount (number_at x spot)
