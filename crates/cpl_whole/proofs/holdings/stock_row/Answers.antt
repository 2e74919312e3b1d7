use Rattle.cpl_state.specs.Stocks.{sum_of_stocks}
use Rattle.cpl_plan.specs.Sums.{held_of}
use Rattle.cpl_whole.proofs.Holds.{fit_each, fit_total}
use Rattle.cpl_whole.proofs.Words.{amount_word, heat_word, row_word, same_word, stored_word}
use Rattle.cpl_whole.proofs.holdings.stock_row.Goals as goal

pub narrow-requires : goal.narrow-requires
narrow-requires c = amount_word c.args.stocks.now.air (fit_each c.args.stocks.now c.requires.stocks).air

pub narrow-requires-2 : goal.narrow-requires-2
narrow-requires-2 c = amount_word c.args.stocks.now.land (fit_each c.args.stocks.now c.requires.stocks).land

pub narrow-requires-3 : goal.narrow-requires-3
narrow-requires-3 c = amount_word c.args.stocks.now.ice (fit_each c.args.stocks.now c.requires.stocks).ice

pub narrow-requires-4 : goal.narrow-requires-4
narrow-requires-4 c = amount_word c.args.stocks.now.ocean (fit_each c.args.stocks.now c.requires.stocks).ocean

pub narrow-requires-5 : goal.narrow-requires-5
narrow-requires-5 c = amount_word c.args.stocks.now.to_ice (fit_each c.args.stocks.now c.requires.stocks).to_ice

pub narrow-requires-6 : goal.narrow-requires-6
narrow-requires-6 c = amount_word c.args.stocks.now.to_ocean (fit_each c.args.stocks.now c.requires.stocks).to_ocean

pub returns : goal.returns
returns c =
    let stocks = c.args.stocks.now in
    let stage = c.args.stage.now in
    let each = fit_each stocks c.requires.stocks in
    let seconds = stored_word stage.seconds c.requires.stage.seconds in
    let air = row_word stocks.air c.narrow.result each.air c.narrow.ensures in
    let land = row_word stocks.land c.narrow-2.result each.land c.narrow-2.ensures in
    let ice = row_word stocks.ice c.narrow-3.result each.ice c.narrow-3.ensures in
    let ocean = row_word stocks.ocean c.narrow-4.result each.ocean c.narrow-4.ensures in
    let to_ice = row_word stocks.to_ice c.narrow-5.result each.to_ice c.narrow-5.ensures in
    let to_ocean = row_word stocks.to_ocean c.narrow-6.result each.to_ocean c.narrow-6.ensures in
    let entered = heat_word c.args.quantity stage.entered c.of_heat.result c.requires.stage.entered c.of_heat.ensures in
    let left = heat_word c.args.quantity stage.left c.of_heat-2.result c.requires.stage.left c.of_heat-2.ensures in
    let total = same_word (sum_of_stocks (held_of stocks)) c.total.result (fit_total stocks c.requires.stocks) c.total.ensures in
    λ i. record {
      step = stage.step;
      date = stage.date;
      seconds = seconds i;
      quantity = c.args.quantity;
      air = air i;
      land = land i;
      ice = ice i;
      ocean = ocean i;
      to_ice = to_ice i;
      to_ocean = to_ocean i;
      entered = entered i;
      left = left i;
      total = total i;
    }
