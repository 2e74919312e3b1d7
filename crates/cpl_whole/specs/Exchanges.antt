-- What crosses of the five exchanges.
use Rattle.std.specs.Prelude.{◌≡◌, ℕ, ◌+◌, List, [], ◌∷◌, ℤ, pos}
use Rattle.cpl_fixed.specs.Amounts.{at}
use Rattle.cpl_fixed.specs.declared.words.Quantity.{Quantity}
use Rattle.cpl_namelist.specs.declared.names.Names.{Names}
use Rattle.cpl_xgrid.specs.declared.grid.Grid.{Grid}
use Rattle.cpl_state.specs.declared.whole.Whole.{Whole}
use Rattle.cpl_state.specs.CouplingStep.{step_after, step_gave, step_took}
use Rattle.cpl_course.specs.Course.{in_flight}
use Rattle.cpl_stocks.specs.declared.rows.Exchange.{Exchange}
use Rattle.cpl_stocks.specs.declared.rows.ExchangeRow.{ExchangeRow}
use Rattle.cpl_plan.specs.declared.stocks.Holdings.{Holdings}
use Rattle.cpl_whole.specs.declared.exchanges.Crossing.{Crossing}
use Rattle.cpl_whole.specs.Rows.{exchange_row_of, quantity_place}

-- heat, water and salt of the five exchanges: in the fast steps and as runoff, with no salt, and what flies between ice and ocean
abbrev pub crossed : (fast slow : List ℤ) → (flying : Holdings) → List ℤ
crossed fast slow flying =
    at fast 0 ∷ at fast 1 ∷ pos 0 ∷ at fast 2 ∷ at fast 3 ∷ pos 0 ∷ at slow 0 ∷ at slow 1 ∷ pos 0
    ∷ flying.heat.to_ice ∷ flying.water.to_ice ∷ flying.salt.to_ice
    ∷ flying.heat.to_ocean ∷ flying.water.to_ocean ∷ flying.salt.to_ocean ∷ []

-- what flies of them
abbrev pub flying_in : Holdings → List ℤ
flying_in = crossed (pos 0 ∷ pos 0 ∷ pos 0 ∷ pos 0 ∷ []) (pos 0 ∷ pos 0 ∷ [])

-- the row of an exchange, from what crossed
abbrev pub row_in : Crossing → (step : ℕ) → (first : ℕ) → Exchange → Quantity → ExchangeRow
row_in crossing step first exchange quantity =
    exchange_row_of step exchange quantity
    (at crossing.before (first + quantity_place quantity)) (at crossing.gave (first + quantity_place quantity))
    (at crossing.took (first + quantity_place quantity)) (at crossing.after (first + quantity_place quantity))

-- what crossed in the coupling step from a state
pub record Crossed (grid : Grid) (names : Names) (whole : Whole) (crossing : Crossing) : Type 0 where
  pub before : crossing.before ≡ in_flight grid whole
  pub gave : crossing.gave ≡ step_gave grid names whole
  pub took : crossing.took ≡ step_took grid names whole
  pub after : crossing.after ≡ in_flight grid (step_after grid names whole)
