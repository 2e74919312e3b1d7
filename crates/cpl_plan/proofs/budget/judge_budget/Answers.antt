use Rattle.std.proofs.Common.{◌≡◌, ◌∙◌, arith}
use Rattle.std.specs.Prelude.{◌+ℤ◌}
use Rattle.std.proofs.lemmas.Int.{ints}
use Rattle.cpl_fixed.specs.declared.words.Quantity.TheVariants.{Heat, Water, Salt}
use Rattle.cpl_state.specs.Budget.{budget_of, sun_to_come}
use Rattle.cpl_state.specs.Stocks.{held, stocks_of}
use Rattle.cpl_plan.proofs.Few.{added, as_word, word}
use Rattle.cpl_plan.proofs.Held.{all_held}
use Rattle.cpl_plan.proofs.Lawful.{judged_alike}
use Rattle.cpl_plan.proofs.budget.judge_budget.Goals as goal

pub returns : goal.returns
unfolding budget_of
returns c =
    let grid = c.args.grid.now in
    let names = c.args.names.now in
    let start = c.args.start.now in
    let holdings = c.holdings_of-holdings in
    let heat = c.held.ensures in
    let sun = c.sun_to_come.ensures in
    let water = c.held-water.ensures in
    let salt = c.held-salt.ensures in
    let heat_is = word c.held.result heat.small.0 (omega (arith, ints, heat.small.1)) in
    let with_sun = added (as_word c.held.result) c.sun_to_come.result c.held.result heat_is heat.small.0 (omega (arith, ints, heat.small.1)) sun.small.0 (omega (arith, ints, sun.small.1)) in
    let total = as_word (as_word c.held.result +ℤ as_word c.sun_to_come.result) in
    let all_heat = heat.value ∙ all_held (stocks_of grid start Heat) holdings.result.heat holdings.ensures.heat in
    let all_water = water.value ∙ all_held (stocks_of grid start Water) holdings.result.water holdings.ensures.water in
    let all_salt = salt.value ∙ all_held (stocks_of grid start Salt) holdings.result.salt holdings.ensures.salt in
    let total_is : total ≡ held grid start Heat +ℤ sun_to_come names.steps names start = with_sun.is ∙ (λ i. all_heat i +ℤ sun.value i) in
    judged_alike total (as_word c.held-water.result) (as_word c.held-salt.result)
    (held grid start Heat +ℤ sun_to_come names.steps names start) (held grid start Water) (held grid start Salt)
    c.judge_totals.result
    total_is
    (word c.held-water.result water.small.0 (omega (arith, ints, water.small.1)) ∙ all_water)
    (word c.held-salt.result salt.small.0 (omega (arith, ints, salt.small.1)) ∙ all_salt)
    c.judge_totals.ensures
