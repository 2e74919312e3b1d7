-- When a run can be made to its end.
use Rattle.std.specs.Prelude.{◌≡◌, ℕ, ◌-◌, List, pos, ◌+ℤ◌, ◌≤ℤ◌, unsigned_abs}
use Rattle.cpl_fixed.specs.Amounts.{IsAmount}
use Rattle.cpl_fixed.specs.declared.limits.TheConstants.{MOST_TOTAL}
use Rattle.cpl_fixed.specs.declared.words.Quantity.{Quantity}
use Rattle.cpl_namelist.specs.declared.names.Names.{Names}
use Rattle.cpl_namelist.specs.Civil.{Fits, IsStart}
use Rattle.cpl_xgrid.specs.declared.grid.Grid.{Grid}
use Rattle.cpl_state.specs.declared.whole.Whole.{Whole}
use Rattle.cpl_state.specs.Stored.{IsStored}
use Rattle.cpl_state.specs.Stocks.{held}
use Rattle.cpl_state.specs.CouplingStep.{state_after, step_after, step_entered, step_left}
use Rattle.cpl_course.specs.Course.{CanRun, IsGround, over_steps}
use Rattle.cpl_whole.specs.Rooms.{CanCoupleOn}
use Rattle.cpl_plan.specs.Faults.{last_second}
use Rattle.cpl_stocks.specs.declared.rows.ExchangeRow.{ExchangeRow}
use Rattle.cpl_stocks.specs.declared.rows.StockRow.{StockRow}
use Rattle.cpl_whole.specs.declared.journey.Journey.{Journey}
use Rattle.cpl_whole.specs.Holdings.{FitRows, Hold}
use Rattle.cpl_whole.specs.Rows.{exchange_rows, stock_rows}

-- All coupling steps of a run can be made from its start, and it ends in year 9999 at the latest.
pub record CanTravel (grid : Grid) (names : Names) (start : Whole) : Type 0 where
  pub ground : IsGround grid
  pub run : CanRun names.steps grid names start
  pub date : Fits names.start (unsigned_abs (last_second names start))

-- the names of a run with this many coupling steps
abbrev pub with_steps : ℕ → Names → Names
with_steps steps names = record names { steps = steps }

-- the names of the rest of a run after some of its coupling steps
abbrev pub rest_of : ℕ → Names → Names
rest_of done names = with_steps (names.steps - done) names

-- a run at its start, with these rows
pub record HasSetOut (grid : Grid) (start : Whole) (told : List StockRow) (crossed : List ExchangeRow) (journey : Journey) : Type 0 where
  pub now : journey.state ≡ start
  pub holds : Hold grid journey.state journey.held
  pub entered : journey.entered ≡ pos 0
  pub left : journey.left ≡ pos 0
  pub stocks : journey.stocks.items ≡ told
  pub exchanges : journey.exchanges.items ≡ crossed

-- the next coupling step can be made, and what the state after it holds keeps within the budget
pub record CanGo (grid : Grid) (names : Names) (journey : Journey) : Type 0 where
  pub can : CanCoupleOn grid names journey.state
  pub holds : Hold grid journey.state journey.held
  pub totals : (quantity : Quantity) → held grid journey.state quantity ≤ℤ pos MOST_TOTAL
  pub totals_after : (quantity : Quantity) → held grid (step_after grid names journey.state) quantity ≤ℤ pos MOST_TOTAL
  pub entered : IsAmount journey.entered
  pub left : IsAmount journey.left
  pub entered_after : IsAmount (journey.entered +ℤ step_entered grid names journey.state)
  pub left_after : IsAmount (journey.left +ℤ step_left grid names journey.state)

-- a coupling step was made
pub record HasGone (grid : Grid) (names : Names) (old new : Journey) : Type 0 where
  pub now : new.state ≡ step_after grid names old.state
  pub holds : Hold grid new.state new.held
  pub entered : new.entered ≡ old.entered +ℤ step_entered grid names old.state
  pub left : new.left ≡ old.left +ℤ step_left grid names old.state
  pub stocks : new.stocks ≡ old.stocks
  pub exchanges : new.exchanges ≡ old.exchanges

-- the state's rows can be told: it has a date, and its numbers are in range
pub record CanTell (names : Names) (journey : Journey) : Type 0 where
  pub start : IsStart names.start
  pub seconds : IsStored journey.state.elapsed
  pub date : Fits names.start (unsigned_abs journey.state.elapsed)
  pub entered : IsAmount journey.entered
  pub left : IsAmount journey.left
  pub fits : FitRows journey.held

-- a run after n of its coupling steps
pub record IsJourney (grid : Grid) (names : Names) (start : Whole) (n : ℕ) (journey : Journey) : Type 0 where
  pub now : journey.state ≡ state_after n grid names start
  pub holds : Hold grid journey.state journey.held
  pub entered : journey.entered ≡ over_steps step_entered n grid names start
  pub left : journey.left ≡ over_steps step_left n grid names start
  pub stocks : journey.stocks.items ≡ stock_rows grid names start n
  pub exchanges : journey.exchanges.items ≡ exchange_rows grid names start n
