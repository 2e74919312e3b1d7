-- The diffusion of the air: a step over all sides at once.
use Rattle.std.specs.Prelude.{◌≡◌, ℕ, zero, suc, List, length, map, ℤ, pos, ◌+ℤ◌, ◌-ℤ◌, ◌≤ℤ◌, Option, Some, None, All}
use Rattle.std.specs.List.{range_with_len}
pub use Rattle.cpl_fixed.specs.Amounts.{at}
pub use Rattle.cpl_fixed.specs.Flows.{IsAirArea, flow}
pub use Rattle.cpl_fixed.specs.Totals.{total_of}
use Rattle.cpl_fixed.specs.declared.limits.TheConstants.{MOST_TOTAL}
use Rattle.cpl_mosaic.specs.declared.parts.Side.{Side}
use Rattle.cpl_mosaic.specs.declared.parts.Side.TheVariants.{W, E, S, N}
use Rattle.cpl_mosaic.specs.declared.mosaic.Mesh.{Mesh}
use Rattle.cpl_mosaic.specs.Sides.{CellSide}
use Rattle.cpl_mosaic.specs.Contacts.{cells_of}
use Rattle.cpl_mosaic.specs.Mates.{mate_of}
use Rattle.cpl_mosaic.specs.Cells.{number_of, cell_of}
use Rattle.cpl_state.specs.declared.air.Air.{Air}

-- how many cells a mesh has
abbrev pub cell_count : Mesh → ℕ
cell_count mesh = cells_of mesh.mosaic.tiles

-- the number of the cell that has this side
abbrev pub cell_number : Mesh → CellSide → ℕ
cell_number mesh side = number_of mesh.mosaic.tiles side.0

-- what flows out of cell n through a side that meets this one: nothing at a wall
abbrev pub flow_to : Mesh → List ℤ → ℕ → Option CellSide → ℤ
flow_to mesh xs n None = pos 0
flow_to mesh xs n (Some mate) = flow (at xs n) (at mesh.area n) (at xs (cell_number mesh mate)) (at mesh.area (cell_number mesh mate))

abbrev pub flow_through : Mesh → List ℤ → ℕ → Side → ℤ
flow_through mesh xs n side = flow_to mesh xs n (mate_of mesh.mosaic (cell_of mesh.mosaic.tiles n, side))

-- what a cell loses through its joined sides
abbrev pub loss : Mesh → List ℤ → ℕ → ℤ
loss mesh xs n = flow_through mesh xs n W +ℤ flow_through mesh xs n E +ℤ flow_through mesh xs n S +ℤ flow_through mesh xs n N

-- the amounts after a step, all sides at once
unfoldable pub diffused : Mesh → List ℤ → List ℤ
diffused mesh xs = map (λ n. at xs n -ℤ loss mesh xs n) (range_with_len 0 (cell_count mesh))

-- the amounts after this many steps
abbrev pub diffused_by : ℕ → Mesh → List ℤ → List ℤ
diffused_by zero mesh xs = xs
diffused_by (suc n) mesh xs = diffused mesh (diffused_by n mesh xs)

-- the air after this many steps, heat and vapour alike
abbrev pub air_after : ℕ → Mesh → Air → Air
air_after n mesh air = record { heat = diffused_by n mesh air.heat; vapour = diffused_by n mesh air.vapour }

-- an air mesh has one area for each cell, and none is 0
pub record IsAirMesh (mesh : Mesh) : Type 0 where
  pub areas : length mesh.area ≡ cell_count mesh
  pub each : All IsAirArea mesh.area

-- amounts of which none is negative, one for each cell, and whose total is within the budget
pub record AreAmounts (cells : ℕ) (xs : List ℤ) : Type 0 where
  pub count : length xs ≡ cells
  pub each : All (λ x. pos 0 ≤ℤ x) xs
  pub total : total_of xs ≤ℤ pos MOST_TOTAL
