-- The rows of the two tables: the stocks of each state, and what crossed in each coupling step.
use Rattle.std.specs.Prelude.{◌≡◌, ℕ, ◌+◌, ◌*◌, List, [], ◌∷◌, map, ℤ, pos, ◌+ℤ◌, ◌-ℤ◌, unsigned_abs}
use Rattle.std.specs.List.{flat_map, range_with_len}
use Rattle.cpl_fixed.specs.Amounts.{at}
use Rattle.cpl_fixed.specs.declared.words.Quantity.{Quantity}
use Rattle.cpl_fixed.specs.declared.words.Quantity.TheVariants.{Heat, Water, Salt}
use Rattle.cpl_namelist.specs.declared.civil.Civil.{Civil}
use Rattle.cpl_namelist.specs.declared.names.Names.{Names}
use Rattle.cpl_namelist.specs.Civil.{civil_after, civil_of}
use Rattle.cpl_xgrid.specs.declared.grid.Grid.{Grid}
use Rattle.cpl_state.specs.declared.whole.Whole.{Whole}
use Rattle.cpl_state.specs.Stocks.{Stocks, held, stocks_of, sum_of_stocks}
use Rattle.cpl_state.specs.CouplingStep.{state_after, step_entered, step_left, step_gave, step_took}
use Rattle.cpl_course.specs.Course.{in_flight, over_steps}
use Rattle.cpl_stocks.specs.declared.rows.Exchange.{Exchange}
use Rattle.cpl_stocks.specs.declared.rows.Exchange.TheVariants.{AirLand, AirIce, LandIce, OceanIce, IceOcean}
use Rattle.cpl_stocks.specs.declared.rows.StockRow.{StockRow}
use Rattle.cpl_stocks.specs.declared.rows.ExchangeRow.{ExchangeRow}

abbrev pub quantities : List Quantity
quantities = Heat ∷ Water ∷ Salt ∷ []

-- STOCKS

-- heat alone enters and leaves
abbrev pub of_heat : Quantity → ℤ → ℤ
of_heat Heat x = x
of_heat _ x = pos 0

-- the date of a state
abbrev pub date_of : Names → Whole → Civil
date_of names whole = civil_of (civil_after names.start (unsigned_abs whole.elapsed))

-- the row of a state's stocks of a quantity, where this much heat entered and left before
abbrev pub stock_row_of : ℕ → Civil → ℤ → Quantity → Stocks → (entered left : ℤ) → StockRow
stock_row_of step date seconds quantity stocks entered left = record {
  step = step;
  date = date;
  seconds = seconds;
  quantity = quantity;
  air = stocks.air;
  land = stocks.land;
  ice = stocks.ice;
  ocean = stocks.ocean;
  to_ice = stocks.to_ice;
  to_ocean = stocks.to_ocean;
  entered = of_heat quantity entered;
  left = of_heat quantity left;
  total = sum_of_stocks stocks;
}

abbrev pub stock_row : Grid → Names → Whole → (n : ℕ) → Quantity → StockRow
stock_row grid names start n quantity =
    let state = state_after n grid names start in
    stock_row_of n (date_of names state) state.elapsed quantity (stocks_of grid state quantity)
    (over_steps step_entered n grid names start) (over_steps step_left n grid names start)

-- the rows of all states of a run, from the start on
unfoldable pub stock_rows : Grid → Names → Whole → (steps : ℕ) → List StockRow
stock_rows grid names start steps = flat_map (λ n. map (stock_row grid names start n) quantities) (range_with_len 0 (steps + 1))

-- EXCHANGES

abbrev pub exchanges : List Exchange
exchanges = AirLand ∷ AirIce ∷ LandIce ∷ OceanIce ∷ IceOcean ∷ []

-- the place of an exchange among the five, and of a quantity among the three
abbrev pub exchange_place : Exchange → ℕ
exchange_place AirLand = 0
exchange_place AirIce = 1
exchange_place LandIce = 2
exchange_place OceanIce = 3
exchange_place IceOcean = 4

abbrev pub quantity_place : Quantity → ℕ
quantity_place Heat = 0
quantity_place Water = 1
quantity_place Salt = 2

-- the row of an exchange in the coupling step that leads from a state to the next
abbrev pub exchange_row_of : (step : ℕ) → Exchange → Quantity → (before gave took after : ℤ) → ExchangeRow
exchange_row_of step exchange quantity before gave took after = record {
  step = step;
  exchange = exchange;
  quantity = quantity;
  before = before;
  gave = gave;
  took = took;
  after = after;
}

abbrev pub exchange_row : Grid → Names → Whole → (n : ℕ) → Exchange → Quantity → ExchangeRow
exchange_row grid names start n exchange quantity =
    let place = 3 * exchange_place exchange + quantity_place quantity in
    exchange_row_of (n + 1) exchange quantity
    (at (in_flight grid (state_after n grid names start)) place)
    (at (step_gave grid names (state_after n grid names start)) place)
    (at (step_took grid names (state_after n grid names start)) place)
    (at (in_flight grid (state_after (n + 1) grid names start)) place)

-- the rows of all coupling steps of a run
unfoldable pub exchange_rows : Grid → Names → Whole → (steps : ℕ) → List ExchangeRow
exchange_rows grid names start steps =
    flat_map (λ n. flat_map (λ exchange. map (exchange_row grid names start n exchange) quantities) exchanges) (range_with_len 0 steps)

-- WHAT HOLDS OF EVERY ROW

-- what was in flight and what was given is what was taken and what is in flight
abbrev pub Balances : ExchangeRow → Type 0
Balances row = (row.before +ℤ row.gave) ≡ (row.took +ℤ row.after)

-- a row of the stocks holds what the start held and the heat that entered, less the heat that left to space
abbrev pub Keeps : Grid → Whole → StockRow → Type 0
Keeps grid start row = row.total ≡ held grid start row.quantity +ℤ row.entered -ℤ row.left
