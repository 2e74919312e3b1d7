-- The outlets of a grid as drains, and what they bring.
use Rattle.std.specs.Prelude.{◌≡◌, ℕ, zero, suc, ◌<◌, ◌≤◌, ◌==◌, if◌then◌else◌, List, length, take, ℤ, pos, ◌+ℤ◌, ◌≤ℤ◌, ◌<ℤ◌, slice_index_or}
use Rattle.cpl_fixed.specs.Amounts.{at}
use Rattle.cpl_fixed.specs.Shares.{share}
use Rattle.cpl_fixed.specs.declared.gain.Gain.{Gain}
use Rattle.cpl_fixed.specs.declared.limits.TheConstants.{MOST_TOTAL}
use Rattle.cpl_mosaic.specs.Cells.{number_of, cell_of}
use Rattle.cpl_xgrid.specs.declared.grid.Grid.{Grid}
use Rattle.cpl_state.specs.States.{land_cells}
use Rattle.cpl_state.specs.Slow.{drained_cell, outlet_at, weight_before, weights_of}
use Rattle.cpl_slow.specs.declared.drains.Drain.{Drain}
use Rattle.cpl_slow.specs.declared.drains.Drains.{Drains}
use Rattle.cpl_slow.specs.Land.{gain_at}

abbrev pub drain_at : List Drain → ℕ → Drain
drain_at each o = slice_index_or each o (record { land = 0; ocean = 0; from = pos 0; to = pos 0 })

-- it is that of the outlet with this number
pub record IsDrain (grid : Grid) (o : ℕ) (drain : Drain) : Type 0 where
  pub land : drain.land ≡ drained_cell grid o
  pub ocean : drain.ocean ≡ number_of grid.ocean.mosaic.tiles (outlet_at grid o).ocean
  pub from : drain.from ≡ weight_before grid o
  pub to : drain.to ≡ weight_before grid o +ℤ (outlet_at grid o).weight

-- the first n outlets of a grid, and the weights of those of each land cell among them
pub record AreDrainsTo (grid : Grid) (n : ℕ) (each : List Drain) (weights : List ℤ) : Type 0 where
  pub count : length each ≡ n
  pub each_is : (o : ℕ) → o < n → IsDrain grid o (drain_at each o)
  pub cells : length weights ≡ land_cells grid
  pub weights_are : (c : ℕ) → c < land_cells grid → at weights c ≡ weights_of (cell_of grid.land.mosaic.tiles c) (take n grid.xgrid.outlets)

-- the outlets of a grid, and the weights of those of each land cell
pub record AreDrains (grid : Grid) (drains : Drains) : Type 0 where
  pub count : length drains.each.items ≡ length grid.xgrid.outlets
  pub each : (o : ℕ) → o < length grid.xgrid.outlets → IsDrain grid o (drain_at drains.each.items o)
  pub cells : length drains.weights.items ≡ land_cells grid
  pub weights : (n : ℕ) → n < land_cells grid → at drains.weights.items n ≡ weights_of (cell_of grid.land.mosaic.tiles n) grid.xgrid.outlets

-- what a drain brings of the runoff of its land cell
abbrev pub brought : List Drain → (weights : List ℤ) → (amounts : ℕ → ℤ) → ℕ → ℤ
brought each weights amounts o =
    share (amounts (drain_at each o).land) (drain_at each o).from (drain_at each o).to (at weights (drain_at each o).land)

abbrev pub brought_heat : List Drain → (weights : List ℤ) → (runoffs : List Gain) → ℕ → ℤ
brought_heat each weights runoffs = brought each weights (λ n. (gain_at runoffs n).heat)

abbrev pub brought_water : List Drain → (weights : List ℤ) → (runoffs : List Gain) → ℕ → ℤ
brought_water each weights runoffs = brought each weights (λ n. (gain_at runoffs n).water)

-- what the first n drains bring to cell m of the ocean
abbrev pub brought_to : List Drain → (bring : ℕ → ℤ) → (n m : ℕ) → ℤ
brought_to each bring zero m = pos 0
brought_to each bring (suc n) m = brought_to each bring n m +ℤ (if (drain_at each n).ocean == m then bring n else pos 0)

-- a drain that leads from one cell to another, with a weight
pub record Leads (weights : List ℤ) (lands oceans : ℕ) (drain : Drain) : Type 0 where
  pub land : drain.land < lands
  pub ocean : drain.ocean < oceans
  pub from : pos 0 ≤ℤ drain.from
  pub order : drain.from ≤ℤ drain.to
  pub within : drain.to ≤ℤ at weights drain.land
  pub some : pos 0 <ℤ at weights drain.land
  pub small : at weights drain.land ≤ℤ pos MOST_TOTAL

-- runoff that isn't negative, with heat only where there is water
pub record IsRunoff (gain : Gain) : Type 0 where
  pub heat : pos 0 ≤ℤ gain.heat
  pub water : pos 0 ≤ℤ gain.water
  pub dry : gain.water ≡ pos 0 → gain.heat ≡ pos 0

-- runoff that drains can bring to so many cells of the ocean
pub record CanBring (each : List Drain) (weights : List ℤ) (runoffs : List Gain) (oceans : ℕ) : Type 0 where
  pub cells : length runoffs ≡ length weights
  pub leads : (o : ℕ) → o < length each → Leads weights (length runoffs) oceans (drain_at each o)
  pub runoff : (n : ℕ) → n < length runoffs → IsRunoff (gain_at runoffs n)
  pub heat : (n m : ℕ) → n ≤ length each → m < oceans → brought_to each (brought_heat each weights runoffs) n m ≤ℤ pos MOST_TOTAL
  pub water : (n m : ℕ) → n ≤ length each → m < oceans → brought_to each (brought_water each weights runoffs) n m ≤ℤ pos MOST_TOTAL

-- each cell of the ocean has what the first n drains bring, which is not negative
pub record IsGained (each : List Drain) (weights : List ℤ) (runoffs : List Gain) (n oceans : ℕ) (arrived : List Gain) : Type 0 where
  pub count : length arrived ≡ oceans
  pub heat : (m : ℕ) → m < oceans → (gain_at arrived m).heat ≡ brought_to each (brought_heat each weights runoffs) n m
  pub water : (m : ℕ) → m < oceans → (gain_at arrived m).water ≡ brought_to each (brought_water each weights runoffs) n m
  pub least : (m : ℕ) → m < oceans → (pos 0 ≤ℤ (gain_at arrived m).heat) × (pos 0 ≤ℤ (gain_at arrived m).water)
