-- What a state holds of heat, of water and of salt.
use Rattle.std.specs.Prelude.{◌≡◌, ℤ, pos, ◌≤ℤ◌, ◌<ℤ◌, ◌^◌}
use Rattle.cpl_fixed.specs.Amounts.{IsAmount}
use Rattle.cpl_state.specs.Stored.{IsStored}
use Rattle.cpl_fixed.specs.declared.limits.TheConstants.{MOST_TOTAL}
use Rattle.cpl_fixed.specs.declared.words.Quantity.{Quantity}
use Rattle.cpl_fixed.specs.declared.words.Quantity.TheVariants.{Heat, Water, Salt}
use Rattle.cpl_xgrid.specs.declared.grid.Grid.{Grid}
use Rattle.cpl_state.specs.declared.whole.Whole.{Whole}
use Rattle.cpl_state.specs.Stocks.{Stocks as StocksOf, stocks_of, sum_of_stocks}
use Rattle.cpl_plan.specs.declared.stocks.Holdings.{Holdings}
use Rattle.cpl_plan.specs.declared.stocks.Stocks.{Stocks}
use Rattle.cpl_plan.specs.Sums.{AreSmall, held_of}
use Rattle.cpl_whole.specs.declared.holdings.Stage.{Stage}

-- the stocks of a quantity
abbrev pub holding_of : Holdings → Quantity → StocksOf
holding_of holdings Heat = held_of holdings.heat
holding_of holdings Water = held_of holdings.water
holding_of holdings Salt = held_of holdings.salt

-- they are those of a state, and none is negative
pub record Hold (grid : Grid) (whole : Whole) (holdings : Holdings) : Type 0 where
  pub each : (quantity : Quantity) → holding_of holdings quantity ≡ stocks_of grid whole quantity
  pub heat : AreSmall holdings.heat
  pub water : AreSmall holdings.water
  pub salt : AreSmall holdings.salt

-- far below 2^127, either way
abbrev pub IsWide : ℤ → Type 0
IsWide x = (pos 0 ≤ℤ x) × (x <ℤ pos (2 ^ 100))

-- stocks whose sum keeps within the budget, none of them negative
pub record FitRow (stocks : Stocks) : Type 0 where
  pub small : AreSmall stocks
  pub total : sum_of_stocks (held_of stocks) ≤ℤ pos MOST_TOTAL

pub record FitRows (holdings : Holdings) : Type 0 where
  pub heat : FitRow holdings.heat
  pub water : FitRow holdings.water
  pub salt : FitRow holdings.salt

-- seconds and heat in range
pub record IsStage (stage : Stage) : Type 0 where
  pub seconds : IsStored stage.seconds
  pub entered : IsAmount stage.entered
  pub left : IsAmount stage.left
