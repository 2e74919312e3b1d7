-- Sums that may pass 64 bits.
use Rattle.std.specs.Prelude.{◌≡◌, ◌-◌, ◌*◌, ◌^◌, ◌<◌, ◌≤◌, ℕ, List, length, ℤ, pos, ◌+ℤ◌, ◌≤ℤ◌, ◌<ℤ◌, All, slice_index_or}
use Rattle.cpl_fixed.specs.Totals.{total_of}
use Rattle.cpl_fixed.specs.declared.words.Quantity.TheVariants.{Heat, Water, Salt}
use Rattle.cpl_xgrid.specs.declared.grid.Grid.{Grid}
use Rattle.cpl_state.specs.declared.whole.Whole.{Whole}
use Rattle.cpl_state.specs.Stored.{IsStored}
use Rattle.cpl_state.specs.States.{of_cell}
use Rattle.cpl_state.specs.FastStep.{for_each}
use Rattle.cpl_state.specs.Stocks.{Stocks as StocksOf, stocks_of}
use Rattle.cpl_plan.specs.declared.stocks.Stocks.{Stocks}
use Rattle.cpl_plan.specs.declared.stocks.Holdings.{Holdings}

-- so few numbers that aren't negative that their sum is far below 2^127
pub record AreFew (xs : List ℤ) : Type 0 where
  pub few : length xs ≤ 2 ^ 32
  pub each : All IsStored xs

-- so are the lists of a state whose numbers are summed
pub record HasFew (whole : Whole) : Type 0 where
  pub air_heat : AreFew whole.air_heat
  pub air_vapour : AreFew whole.air_vapour
  pub air_sun : AreFew whole.air_sun
  pub land_heat : AreFew whole.land_heat
  pub land_water : AreFew whole.land_water
  pub ice : AreFew whole.ice
  pub ice_heat : AreFew whole.ice_heat
  pub water : AreFew whole.water
  pub heat : AreFew whole.heat
  pub salt : AreFew whole.salt
  pub to_ice : AreFew whole.to_ice
  pub to_ocean : AreFew whole.to_ocean

-- a sum of such numbers
abbrev pub IsSmall : ℤ → Type 0
IsSmall x = (pos 0 ≤ℤ x) × (x <ℤ pos (2 ^ 96))

-- PLACE BY PLACE

-- the sum at a place
abbrev pub sum_at : List ℕ → ℕ → ℕ
sum_at sums k = slice_index_or sums k 0

-- sums of so many numbers
abbrev pub HasRoom : (width n : ℕ) → List ℕ → Type 0
HasRoom width n sums = (k : ℕ) → k < width → sum_at sums k ≤ (2 ^ 63 - 1) * n

-- the numbers of cell n are added, each at its place
abbrev pub AreAdded : (width n : ℕ) → (amounts : List ℤ) → (old new : List ℕ) → Type 0
AreAdded width n amounts old new = (k : ℕ) → k < width → pos (sum_at new k) ≡ pos (sum_at old k) +ℤ of_cell width n k amounts

-- the sums over cells of the numbers at each place
pub record AreTotals (width cells : ℕ) (amounts : List ℤ) (sums : List ℕ) : Type 0 where
  pub each : (k : ℕ) → k < width → pos (sum_at sums k) ≡ total_of (for_each cells (λ n. of_cell width n k amounts))
  pub small : (k : ℕ) → k < width → sum_at sums k < 2 ^ 96

-- STOCKS

-- sums of this machine, as stocks
abbrev pub held_of : Stocks → StocksOf
held_of stocks = record { air = stocks.air; land = stocks.land; ice = stocks.ice; ocean = stocks.ocean; to_ice = stocks.to_ice; to_ocean = stocks.to_ocean }

-- stocks as sums of this machine
pub record AreStocks (of : StocksOf) (stocks : Stocks) : Type 0 where
  pub air : stocks.air ≡ of.air
  pub land : stocks.land ≡ of.land
  pub ice : stocks.ice ≡ of.ice
  pub ocean : stocks.ocean ≡ of.ocean
  pub to_ice : stocks.to_ice ≡ of.to_ice
  pub to_ocean : stocks.to_ocean ≡ of.to_ocean

-- none of them is negative, and they are far below 2^127
pub record AreSmall (stocks : Stocks) : Type 0 where
  pub air : IsSmall stocks.air
  pub land : IsSmall stocks.land
  pub ice : IsSmall stocks.ice
  pub ocean : IsSmall stocks.ocean
  pub to_ice : (pos 0 ≤ℤ stocks.to_ice) × (stocks.to_ice <ℤ pos (2 ^ 97))
  pub to_ocean : IsSmall stocks.to_ocean

-- what a state holds of heat, of water and of salt, none of it negative
pub record AreHoldings (grid : Grid) (whole : Whole) (holdings : Holdings) : Type 0 where
  pub heat : AreStocks (stocks_of grid whole Heat) holdings.heat
  pub water : AreStocks (stocks_of grid whole Water) holdings.water
  pub salt : AreStocks (stocks_of grid whole Salt) holdings.salt
  pub small_heat : AreSmall holdings.heat
  pub small_water : AreSmall holdings.water
  pub small_salt : AreSmall holdings.salt
