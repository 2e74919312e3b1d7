-- A run from step to step.
use Rattle.std.proofs.Common.{◌≡◌, ◌∙◌, sym, ap, subst, ℕ, suc, ◌+◌, ◌*◌, ◌<◌, ◌≤◌, arith, List, [], ◌++◌, map, Global}
use Rattle.std.specs.Prelude.{ℤ, pos, ◌+ℤ◌, ◌≤ℤ◌, unsigned_abs, Vec}
use Rattle.std.specs.List.{flat_map}
use Rattle.cpl_fixed.specs.Amounts.{IsAmount}
use Rattle.cpl_fixed.specs.declared.limits.TheConstants.{MOST_TOTAL}
use Rattle.cpl_fixed.specs.declared.words.Quantity.{Quantity}
use Rattle.cpl_namelist.specs.declared.names.Names.{Names}
use Rattle.cpl_namelist.specs.Civil.{Fits}
use Rattle.cpl_xgrid.specs.declared.grid.Grid.{Grid}
use Rattle.cpl_state.specs.declared.whole.Whole.{Whole}
use Rattle.cpl_state.specs.Stored.{IsStored}
use Rattle.cpl_state.specs.Stocks.{held}
use Rattle.cpl_state.specs.CouplingStep.{state_after, step_after, step_entered, step_left}
use Rattle.cpl_course.specs.Course.{over_steps}
use Rattle.cpl_whole.specs.Rooms.{CanCoupleOn}
use Rattle.cpl_stocks.specs.declared.rows.ExchangeRow.{ExchangeRow}
use Rattle.cpl_stocks.specs.declared.rows.StockRow.{StockRow}
use Rattle.cpl_whole.specs.declared.exchanges.Crossing.{Crossing}
use Rattle.cpl_whole.specs.declared.journey.Journey.{Journey}
use Rattle.cpl_whole.specs.Exchanges.{Crossed, row_in}
use Rattle.cpl_whole.specs.Holdings.{Hold, holding_of}
use Rattle.cpl_whole.specs.Journeys.{CanGo, CanTell, CanTravel, HasGone, HasSetOut, IsJourney}
use Rattle.cpl_whole.specs.Rows.{date_of, exchange_place, exchange_rows, exchanges, quantities, stock_row_of, stock_rows}
use Rattle.cpl_whole.proofs.Course.{couples, dated, entered_amount, lawful, left_amount, totals}
use Rattle.cpl_whole.proofs.Holds.{fit_rows}
use Rattle.cpl_whole.proofs.Tables.{exchanges_more, exchanges_none, rows_of_state, rows_of_step, stocks_first, stocks_more}

module _ (grid : Grid) (names : Names) (start : Whole) (can : CanTravel grid names start) where
  abbrev state : ℕ → Whole
  state n = state_after n grid names start

  -- WHAT CAN BE DONE NEXT

  totals_of : (n : ℕ) → n ≤ names.steps → (now : Whole) → now ≡ state n → (quantity : Quantity) → held grid now quantity ≤ℤ pos MOST_TOTAL
  totals_of n l now e quantity = subst (λ (w : Whole). held grid w quantity ≤ℤ pos MOST_TOTAL) (sym e) (totals grid names start can n l quantity)

  pub can_tell : (n : ℕ) → n ≤ names.steps → (journey : Journey) → journey.state ≡ state n → Hold grid journey.state journey.held
      → journey.entered ≡ over_steps step_entered n grid names start → journey.left ≡ over_steps step_left n grid names start → CanTell names journey
  can_tell n l journey e are f g = record {
    start = can.run.are_names.start;
    seconds = subst (λ (w : Whole). IsStored w.elapsed) (sym e) (lawful grid names start can n l).stored.elapsed;
    date = subst (λ (w : Whole). Fits names.start (unsigned_abs w.elapsed)) (sym e) (dated grid names start can n l);
    entered = subst IsAmount (sym f) (entered_amount grid names start can n l);
    left = subst IsAmount (sym g) (left_amount grid names start can n l);
    fits = fit_rows grid journey.state journey.held are (totals_of n l journey.state e);
  }

  next_state : (n : ℕ) → step_after grid names (state n) ≡ state (n + 1)
  next_state n = ap (λ (k : ℕ). state_after k grid names start) (let e : suc n ≡ n + 1 = omega arith in e)

  more : (tally : Grid → Names → Whole → ℤ) (n : ℕ) → over_steps tally n grid names start +ℤ tally grid names (state n) ≡ over_steps tally (n + 1) grid names start
  more tally n = ap (λ (k : ℕ). over_steps tally k grid names start) (let e : suc n ≡ n + 1 = omega arith in e)

  module _ (n : ℕ) (within : n < names.steps) (journey : Journey) (is : IsJourney grid names start n journey) where
    after_state : step_after grid names journey.state ≡ state (n + 1)
    after_state = ap (step_after grid names) is.now ∙ next_state n

    after_entered : journey.entered +ℤ step_entered grid names journey.state ≡ over_steps step_entered (n + 1) grid names start
    after_entered = (λ i. is.entered i +ℤ step_entered grid names (is.now i)) ∙ more step_entered n

    after_left : journey.left +ℤ step_left grid names journey.state ≡ over_steps step_left (n + 1) grid names start
    after_left = (λ i. is.left i +ℤ step_left grid names (is.now i)) ∙ more step_left n

    pub can_go : CanGo grid names journey
    can_go =
        let l : n ≤ names.steps = omega arith in
        let k : n + 1 ≤ names.steps = omega arith in
        record {
          can = subst (CanCoupleOn grid names) (sym is.now) (couples grid names start can n within);
          holds = is.holds;
          totals = totals_of n l journey.state is.now;
          totals_after = totals_of (n + 1) k (step_after grid names journey.state) after_state;
          entered = subst IsAmount (sym is.entered) (entered_amount grid names start can n l);
          left = subst IsAmount (sym is.left) (left_amount grid names start can n l);
          entered_after = subst IsAmount (sym after_entered) (entered_amount grid names start can (n + 1) k);
          left_after = subst IsAmount (sym after_left) (left_amount grid names start can (n + 1) k);
        }

    module _ (gone : Journey) (made : HasGone grid names journey gone) where
      gone_state : gone.state ≡ state (n + 1)
      gone_state = made.now ∙ after_state

      gone_entered : gone.entered ≡ over_steps step_entered (n + 1) grid names start
      gone_entered = made.entered ∙ after_entered

      gone_left : gone.left ≡ over_steps step_left (n + 1) grid names start
      gone_left = made.left ∙ after_left

      pub gone_tell : (rows : Vec ExchangeRow Global) → CanTell names (record gone { exchanges = rows })
      gone_tell rows = can_tell (n + 1) (omega arith) (record gone { exchanges = rows }) gone_state made.holds gone_entered gone_left

      -- the rows of the step
      pub gone_rows : (crossing : Crossing) → Crossed grid names journey.state crossing → (rows : List ExchangeRow)
          → rows ≡ gone.exchanges.items ++ flat_map (λ exchange. map (row_in crossing (n + 1) (3 * exchange_place exchange) exchange) quantities) exchanges → rows ≡ exchange_rows grid names start (n + 1)
      gone_rows crossing crossed rows e =
          let here = subst (λ (w : Whole). Crossed grid names w crossing) is.now crossed in
          let before = ap (λ (v : Vec ExchangeRow Global). v.items) made.exchanges ∙ is.exchanges in
          e ∙ (λ i. before i ++ rows_of_step grid names start n crossing here i) ∙ sym (exchanges_more grid names start n)

      -- the rows of the state
      pub gone_stocks : (rows : List StockRow)
          → rows ≡ gone.stocks.items ++ map (λ quantity. stock_row_of (n + 1) (date_of names gone.state) gone.state.elapsed quantity (holding_of gone.held quantity) gone.entered gone.left) quantities
          → rows ≡ stock_rows grid names start (n + 1)
      gone_stocks rows e =
          let before = ap (λ (v : Vec StockRow Global). v.items) made.stocks ∙ is.stocks in
          let own = rows_of_state grid names start (n + 1) gone.state gone.held gone.entered gone.left gone_state made.holds gone_entered gone_left in
          e ∙ (λ i. before i ++ own i) ∙ sym (stocks_more grid names start n)

      pub gone_is : (told : Vec StockRow Global) (crossed : Vec ExchangeRow Global) → told.items ≡ stock_rows grid names start (n + 1) → crossed.items ≡ exchange_rows grid names start (n + 1)
          → IsJourney grid names start (n + 1) (record gone { stocks = told; exchanges = crossed })
      gone_is told crossed e f = record {
        now = gone_state;
        holds = made.holds;
        entered = gone_entered;
        left = gone_left;
        stocks = e;
        exchanges = f;
      }

  -- THE START

  module _ (journey : Journey) (stocks : List StockRow) (crossings : List ExchangeRow) (out : HasSetOut grid start stocks crossings journey) where
    pub first_tell : CanTell names journey
    first_tell = can_tell 0 (omega arith) journey out.now out.holds out.entered out.left

    pub first_is : stocks ≡ [] → crossings ≡ [] → (told : Vec StockRow Global)
        → told.items ≡ journey.stocks.items ++ map (λ quantity. stock_row_of 0 (date_of names journey.state) journey.state.elapsed quantity (holding_of journey.held quantity) journey.entered journey.left) quantities
        → IsJourney grid names start 0 (record journey { stocks = told })
    first_is none_told none_crossed told e =
        let own = rows_of_state grid names start 0 journey.state journey.held journey.entered journey.left out.now out.holds out.entered out.left in
        let before = out.stocks ∙ none_told in
        record {
          now = out.now;
          holds = out.holds;
          entered = out.entered;
          left = out.left;
          stocks = e ∙ (λ i. before i ++ own i) ∙ sym (stocks_first grid names start);
          exchanges = out.exchanges ∙ none_crossed ∙ sym (exchanges_none grid names start);
        }

-- a run over lent parts
pub lent_journey : (grid lent_grid : Grid) (names lent_names : Names) (start lent_start : Whole) (journey : Journey) → lent_grid ≡ grid → lent_names ≡ names → lent_start ≡ start
    → IsJourney lent_grid lent_names lent_start lent_names.steps journey → IsJourney grid names start names.steps journey
lent_journey grid lent_grid names lent_names start lent_start journey e f g is =
    let a = subst (λ (x : Grid). IsJourney x lent_names lent_start lent_names.steps journey) e is in
    let b = subst (λ (x : Names). IsJourney grid x lent_start x.steps journey) f a in
    subst (λ (x : Whole). IsJourney grid names x names.steps journey) g b

-- a run after its last step
pub last_is : (grid : Grid) (names : Names) (start : Whole) (n steps : ℕ) (journey : Journey) → n ≡ steps → IsJourney grid names start n journey → IsJourney grid names start steps journey
last_is grid names start n steps journey e is = subst (λ (k : ℕ). IsJourney grid names start k journey) e is

pub steps_all : (names : Names) → names.steps ≤ names.steps
steps_all names = omega arith
