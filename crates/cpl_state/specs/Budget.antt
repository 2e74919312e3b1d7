-- The budget of a run: all heat, water and salt that it may come to hold, which has to keep within 2^62 - 1.
use Rattle.std.specs.Prelude.{ℕ, ◌*◌, List, [], ◌∷◌, map, ℤ, pos, ◌+ℤ◌, ◌*ℤ◌, ◌≤ℤ◌, Option, Some, None, int_lt, if◌then◌else◌}
use Rattle.std.specs.Int.{int_max}
use Rattle.cpl_fixed.specs.Shares.{part_of}
use Rattle.cpl_fixed.specs.Totals.{total_of}
use Rattle.cpl_fixed.specs.declared.limits.TheConstants.{MOST_TOTAL}
use Rattle.cpl_fixed.specs.declared.words.Quantity.{Quantity}
use Rattle.cpl_fixed.specs.declared.words.Quantity.TheVariants.{Heat, Water, Salt}
use Rattle.cpl_namelist.specs.declared.names.Names.{Names}
use Rattle.cpl_xgrid.specs.declared.grid.Grid.{Grid}
use Rattle.cpl_state.specs.declared.whole.Whole.{Whole}
use Rattle.cpl_state.specs.Stocks.{held}

-- the greatest of numbers that aren't negative
abbrev pub greatest : List ℤ → ℤ
greatest [] = pos 0
greatest (x ∷ xs) = int_max x (greatest xs)

-- the sun of a fast step on all cells of the air, in a month of this strength
abbrev pub sun_of_strength : (strength : ℤ) → (suns : List ℤ) → ℤ
sun_of_strength strength suns = total_of (map (λ sun. part_of sun strength (pos 1_000)) suns)

-- the most that the sun brings in a fast step: that of the strongest month
abbrev pub most_sun : Names → Whole → ℤ
most_sun names whole = sun_of_strength (greatest names.rates.month) whole.air_sun

-- the sun that is still to come in this many coupling steps
abbrev pub sun_to_come : (steps : ℕ) → Names → Whole → ℤ
sun_to_come steps names whole = pos (steps * names.fast) *ℤ most_sun names whole

-- what a run of this many coupling steps may come to hold
unfoldable pub budget_of : (steps : ℕ) → Grid → Names → Whole → Quantity → ℤ
budget_of steps grid names whole Heat = held grid whole Heat +ℤ sun_to_come steps names whole
budget_of steps grid names whole Water = held grid whole Water
budget_of steps grid names whole Salt = held grid whole Salt

-- it keeps within the most that a number may hold
pub record IsWithinBudget (steps : ℕ) (grid : Grid) (names : Names) (whole : Whole) : Type 0 where
  pub heat : budget_of steps grid names whole Heat ≤ℤ pos MOST_TOTAL
  pub water : budget_of steps grid names whole Water ≤ℤ pos MOST_TOTAL
  pub salt : budget_of steps grid names whole Salt ≤ℤ pos MOST_TOTAL

-- the first quantity whose total is above that, with the total: heat, then water, then salt
abbrev pub if_above : ℤ → Quantity → Option (Quantity × ℤ) → Option (Quantity × ℤ)
if_above total quantity later = if int_lt (pos MOST_TOTAL) total then Some (quantity, total) else later

abbrev pub budget_fault : Grid → Names → Whole → Option (Quantity × ℤ)
budget_fault grid names whole =
    if_above (budget_of names.steps grid names whole Heat) Heat
    (if_above (budget_of names.steps grid names whole Water) Water
    (if_above (budget_of names.steps grid names whole Salt) Salt None))
