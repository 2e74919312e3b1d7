-- What states hold gives what crossed between them.
use Rattle.std.proofs.Common.{◌≡◌, ◌∙◌, refl, sym, ap, ℕ, arith, List, [], ◌∷◌, to_z, of_z}
use Rattle.std.specs.Prelude.{ℤ, pos, ◌+ℤ◌, ◌≤ℤ◌}
use Rattle.std.specs.List.{range_with_len}
use Rattle.std.specs.Int.{w128}
use Rattle.std.proofs.lemmas.Int.{ints}
use Rattle.cpl_fixed.specs.Amounts.{IsAmount, at}
use Rattle.cpl_fixed.specs.declared.limits.TheConstants.{MOST_TOTAL}
use Rattle.cpl_fixed.specs.declared.words.Quantity.{Quantity}
use Rattle.cpl_fixed.specs.declared.words.Quantity.TheVariants.{Heat, Water, Salt}
use Rattle.cpl_namelist.specs.declared.names.Names.{Names}
use Rattle.cpl_xgrid.specs.declared.grid.Grid.{Grid}
use Rattle.cpl_state.specs.declared.whole.Whole.{Whole}
use Rattle.cpl_state.specs.States.{land_cells, ocean_cells}
use Rattle.cpl_state.specs.Stocks.{Stocks as StocksOf, flying_to_ice, flying_to_ocean, held, stocks_of, sum_of_stocks}
use Rattle.cpl_state.specs.CouplingStep.{step_after, step_arrived, step_entered, step_gave, step_left, step_runoff, step_took}
use Rattle.cpl_laws.proofs.Groups.{total_zeros}
use Rattle.cpl_fast.specs.declared.fast.FastTally.{FastTally}
use Rattle.cpl_slow.specs.Sums.{gain_sums}
use Rattle.cpl_course.specs.Course.{KeepsCoupling, in_flight}
use Rattle.cpl_plan.specs.declared.stocks.Holdings.{Holdings}
use Rattle.cpl_plan.specs.declared.stocks.Stocks.{Stocks}
use Rattle.cpl_plan.specs.Sums.{AreHoldings, AreStocks, held_of}
use Rattle.cpl_whole.specs.Tallies.{all_fast_sums}
use Rattle.cpl_whole.specs.Holdings.{FitRow, FitRows, Hold, IsWide, holding_of}
use Rattle.cpl_whole.specs.Exchanges.{crossed, flying_in}
use Rattle.cpl_whole.proofs.Words.{amount_wide, sum_is}

-- sums of this machine are the stocks
pub stocks_are : (of : StocksOf) (stocks : Stocks) → AreStocks of stocks → held_of stocks ≡ of
stocks_are of stocks are = λ i. record { air = are.air i; land = are.land i; ice = are.ice i; ocean = are.ocean i; to_ice = are.to_ice i; to_ocean = are.to_ocean i }

pub hold : (grid : Grid) (whole : Whole) (holdings : Holdings) → AreHoldings grid whole holdings → Hold grid whole holdings
hold grid whole holdings are = record {
  each = held_each;
  heat = are.small_heat;
  water = are.small_water;
  salt = are.small_salt;
} where
  held_each : (quantity : Quantity) → holding_of holdings quantity ≡ stocks_of grid whole quantity
  held_each Heat = stocks_are (stocks_of grid whole Heat) holdings.heat are.heat
  held_each Water = stocks_are (stocks_of grid whole Water) holdings.water are.water
  held_each Salt = stocks_are (stocks_of grid whole Salt) holdings.salt are.salt

module _ (grid : Grid) (whole : Whole) (holdings : Holdings) (are : Hold grid whole holdings) where
  pub fit_rows : ((quantity : Quantity) → held grid whole quantity ≤ℤ pos MOST_TOTAL) → FitRows holdings
  fit_rows totals = record {
    heat = record { small = are.heat; total = (let e = ap sum_of_stocks (are.each Heat) in let most = totals Heat in omega (arith, ints, e, most)) };
    water = record { small = are.water; total = (let e = ap sum_of_stocks (are.each Water) in let most = totals Water in omega (arith, ints, e, most)) };
    salt = record { small = are.salt; total = (let e = ap sum_of_stocks (are.each Salt) in let most = totals Salt in omega (arith, ints, e, most)) };
  }

  -- what flies to the ice and to the ocean
  to_ice_is : (quantity : Quantity) → (holding_of holdings quantity).to_ice ≡ flying_to_ice grid whole quantity
  unfolding stocks_of
  to_ice_is Heat = ap (λ (s : StocksOf). s.to_ice) (are.each Heat)
  to_ice_is Water = ap (λ (s : StocksOf). s.to_ice) (are.each Water)
  to_ice_is Salt = ap (λ (s : StocksOf). s.to_ice) (are.each Salt)

  to_ocean_is : (quantity : Quantity) → (holding_of holdings quantity).to_ocean ≡ flying_to_ocean grid whole quantity
  unfolding stocks_of
  to_ocean_is Heat = ap (λ (s : StocksOf). s.to_ocean) (are.each Heat)
  to_ocean_is Water = ap (λ (s : StocksOf). s.to_ocean) (are.each Water)
  to_ocean_is Salt = ap (λ (s : StocksOf). s.to_ocean) (are.each Salt)

  pub flying_is : flying_in holdings ≡ in_flight grid whole
  flying_is = λ i. pos 0 ∷ pos 0 ∷ pos 0 ∷ pos 0 ∷ pos 0 ∷ pos 0 ∷ pos 0 ∷ pos 0 ∷ pos 0
      ∷ to_ice_is Heat i ∷ to_ice_is Water i ∷ to_ice_is Salt i ∷ to_ocean_is Heat i ∷ to_ocean_is Water i ∷ to_ocean_is Salt i ∷ []

  -- what was taken, from what the state before a step holds
  pub took_is : (names : Names) → KeepsCoupling grid names whole → (fast slow : List ℤ) → fast ≡ (all_fast_sums grid names whole).took → slow ≡ gain_sums (ocean_cells grid) (step_arrived grid names whole)
      → crossed fast slow holdings ≡ step_took grid names whole
  unfolding step_took
  took_is names keeps fast slow e f =
      let none = sym (total_zeros (range_with_len 0 (ocean_cells grid))) in
      let a = to_ice_is Heat ∙ sym (keeps.landed 9 (omega arith)) in
      let b = to_ice_is Water ∙ sym (keeps.landed 10 (omega arith)) in
      let c = to_ice_is Salt ∙ sym (keeps.landed 11 (omega arith)) in
      let d = to_ocean_is Heat ∙ sym (keeps.landed 12 (omega arith)) in
      let g = to_ocean_is Water ∙ sym (keeps.landed 13 (omega arith)) in
      let h = to_ocean_is Salt ∙ sym (keeps.landed 14 (omega arith)) in
      λ i. at (e i) 0 ∷ at (e i) 1 ∷ pos 0 ∷ at (e i) 2 ∷ at (e i) 3 ∷ pos 0 ∷ at (f i) 0 ∷ at (f i) 1 ∷ none i
      ∷ a i ∷ b i ∷ c i ∷ d i ∷ g i ∷ h i ∷ []

module _ (grid : Grid) (names : Names) (whole : Whole) (keeps : KeepsCoupling grid names whole) where
  -- what was given flies after the step, where what was taken flew before it
  gave_flies : (place : ℕ) → at (in_flight grid whole) place ≡ at (step_took grid names whole) place → at (in_flight grid (step_after grid names whole)) place ≡ at (step_gave grid names whole) place
  gave_flies place e = let b = keeps.balance place in omega (arith, ints, b, e)

  -- what was given, from what the state after a step holds
  pub gave_is : (after : Whole) (holdings : Holdings) → Hold grid after holdings → after ≡ step_after grid names whole → (fast slow : List ℤ) → fast ≡ (all_fast_sums grid names whole).gave
      → slow ≡ gain_sums (land_cells grid) (step_runoff grid names whole) → crossed fast slow holdings ≡ step_gave grid names whole
  unfolding step_gave step_took
  gave_is after holdings are same fast slow e f =
      let flying = flying_is grid after holdings are ∙ ap (in_flight grid) same in
      let none = sym (total_zeros (range_with_len 0 (land_cells grid))) in
      let a = ap (λ (xs : List ℤ). at xs 9) flying ∙ gave_flies 9 (sym (keeps.landed 9 (omega arith))) in
      let b = ap (λ (xs : List ℤ). at xs 10) flying ∙ gave_flies 10 (sym (keeps.landed 10 (omega arith))) in
      let c = ap (λ (xs : List ℤ). at xs 11) flying ∙ gave_flies 11 (sym (keeps.landed 11 (omega arith))) in
      let d = ap (λ (xs : List ℤ). at xs 12) flying ∙ gave_flies 12 (sym (keeps.landed 12 (omega arith))) in
      let g = ap (λ (xs : List ℤ). at xs 13) flying ∙ gave_flies 13 (sym (keeps.landed 13 (omega arith))) in
      let h = ap (λ (xs : List ℤ). at xs 14) flying ∙ gave_flies 14 (sym (keeps.landed 14 (omega arith))) in
      λ i. at (e i) 0 ∷ at (e i) 1 ∷ pos 0 ∷ at (e i) 2 ∷ at (e i) 3 ∷ pos 0 ∷ at (f i) 0 ∷ at (f i) 1 ∷ none i
      ∷ a i ∷ b i ∷ c i ∷ d i ∷ g i ∷ h i ∷ []

-- the heat that entered and left
pub entered_is : (grid : Grid) (names : Names) (whole : Whole) (tally : FastTally) → tally ≡ all_fast_sums grid names whole → tally.entered ≡ step_entered grid names whole
unfolding step_entered
entered_is grid names whole tally e = ap (λ (t : FastTally). t.entered) e

pub left_is : (grid : Grid) (names : Names) (whole : Whole) (tally : FastTally) → tally ≡ all_fast_sums grid names whole → tally.left ≡ step_left grid names whole
unfolding step_left
left_is grid names whole tally e = ap (λ (t : FastTally). t.left) e

-- none of stocks whose sum fits is too great
pub record FitEach (stocks : Stocks) : Type 0 where
  pub air : IsAmount stocks.air
  pub land : IsAmount stocks.land
  pub ice : IsAmount stocks.ice
  pub ocean : IsAmount stocks.ocean
  pub to_ice : IsAmount stocks.to_ice
  pub to_ocean : IsAmount stocks.to_ocean

pub fit_each : (stocks : Stocks) → FitRow stocks → FitEach stocks
fit_each stocks fit =
    let a = fit.small.air.0 in
    let b = fit.small.land.0 in
    let c = fit.small.ice.0 in
    let d = fit.small.ocean.0 in
    let e = fit.small.to_ice.0 in
    let f = fit.small.to_ocean.0 in
    let most = fit.total in
    record {
      air = (a, omega (arith, ints, a, b, c, d, e, f, most));
      land = (b, omega (arith, ints, a, b, c, d, e, f, most));
      ice = (c, omega (arith, ints, a, b, c, d, e, f, most));
      ocean = (d, omega (arith, ints, a, b, c, d, e, f, most));
      to_ice = (e, omega (arith, ints, a, b, c, d, e, f, most));
      to_ocean = (f, omega (arith, ints, a, b, c, d, e, f, most));
    }

-- the sums of stocks whose sum fits, one after another
module _ (stocks : Stocks) (fit : FitRow stocks) where
  abbrev each : FitEach stocks
  each = fit_each stocks fit

  module _ (r₁ : ℤ) (e₁ : r₁ ≡ to_z w128 (of_z w128 stocks.air) +ℤ to_z w128 (of_z w128 stocks.land)) where
    pub first_is : r₁ ≡ stocks.air +ℤ stocks.land
    first_is = sum_is stocks.air stocks.land r₁ (amount_wide stocks.air each.air) (amount_wide stocks.land each.land) e₁

    pub first_wide : IsWide r₁
    first_wide = let e = first_is in let a = each.air in let b = each.land in (omega (arith, ints, e, a.0, b.0), omega (arith, ints, e, a.1, b.1))

    module _ (r₂ : ℤ) (e₂ : r₂ ≡ to_z w128 (of_z w128 r₁) +ℤ to_z w128 (of_z w128 stocks.ice)) where
      pub over_is : r₂ ≡ stocks.air +ℤ stocks.land +ℤ stocks.ice
      over_is = let e = sum_is r₁ stocks.ice r₂ first_wide (amount_wide stocks.ice each.ice) e₂ in let f = first_is in omega (arith, ints, e, f)

      pub over_wide : IsWide r₂
      over_wide = let e = over_is in let a = each.air in let b = each.land in let c = each.ice in (omega (arith, ints, e, a.0, b.0, c.0), omega (arith, ints, e, a.1, b.1, c.1))

      module _ (r₃ : ℤ) (e₃ : r₃ ≡ to_z w128 (of_z w128 stocks.to_ice) +ℤ to_z w128 (of_z w128 stocks.to_ocean)) where
        pub flying_sum : r₃ ≡ stocks.to_ice +ℤ stocks.to_ocean
        flying_sum = sum_is stocks.to_ice stocks.to_ocean r₃ (amount_wide stocks.to_ice each.to_ice) (amount_wide stocks.to_ocean each.to_ocean) e₃

        pub flying_wide : IsWide r₃
        flying_wide = let e = flying_sum in let a = each.to_ice in let b = each.to_ocean in (omega (arith, ints, e, a.0, b.0), omega (arith, ints, e, a.1, b.1))

        module _ (r₄ : ℤ) (e₄ : r₄ ≡ to_z w128 (of_z w128 stocks.ocean) +ℤ to_z w128 (of_z w128 r₃)) where
          pub rest_sum : r₄ ≡ stocks.ocean +ℤ stocks.to_ice +ℤ stocks.to_ocean
          rest_sum = let e = sum_is stocks.ocean r₃ r₄ (amount_wide stocks.ocean each.ocean) flying_wide e₄ in let f = flying_sum in omega (arith, ints, e, f)

          pub rest_wide : IsWide r₄
          rest_wide = let e = rest_sum in let a = each.ocean in let b = each.to_ice in let c = each.to_ocean in (omega (arith, ints, e, a.0, b.0, c.0), omega (arith, ints, e, a.1, b.1, c.1))

          module _ (r₅ : ℤ) (e₅ : r₅ ≡ to_z w128 (of_z w128 r₂) +ℤ to_z w128 (of_z w128 r₄)) where
            pub all_sum : r₅ ≡ sum_of_stocks (held_of stocks)
            all_sum = let e = sum_is r₂ r₄ r₅ over_wide rest_wide e₅ in let f = over_is in let g = rest_sum in omega (arith, ints, e, f, g)

            pub all_amount : IsAmount r₅
            all_amount = let e = all_sum in let most = fit.total in let a = over_wide in let b = rest_wide in let s = sum_is r₂ r₄ r₅ over_wide rest_wide e₅ in (omega (arith, ints, s, a.0, b.0), omega (arith, ints, e, most))

pub fit_total : (stocks : Stocks) → FitRow stocks → IsAmount (sum_of_stocks (held_of stocks))
fit_total stocks fit =
    let each = fit_each stocks fit in
    let a = each.air.0 in
    let b = each.land.0 in
    let c = each.ice.0 in
    let d = each.ocean.0 in
    let e = each.to_ice.0 in
    let f = each.to_ocean.0 in
    (omega (arith, ints, a, b, c, d, e, f), fit.total)
