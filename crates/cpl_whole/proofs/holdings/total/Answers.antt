use Rattle.std.proofs.Common.{◌∙◌, subst}
use Rattle.cpl_fixed.specs.Amounts.{IsAmount}
use Rattle.cpl_state.specs.Stocks.{sum_of_stocks}
use Rattle.cpl_plan.specs.Sums.{held_of}
use Rattle.cpl_whole.proofs.Holds.{fit_each, first_wide, over_wide, flying_wide, rest_wide, all_amount, all_sum}
use Rattle.cpl_whole.proofs.Words.{amount_wide, amount_word, same_word, wide, word}
use Rattle.cpl_whole.proofs.holdings.total.Goals as goal

pub plus-requires-clause-first : goal.plus-requires-clause-first
plus-requires-clause-first c = wide c.args.stocks.now.air (amount_wide c.args.stocks.now.air (fit_each c.args.stocks.now c.requires).air)

pub plus-requires-clause-second : goal.plus-requires-clause-second
plus-requires-clause-second c = wide c.args.stocks.now.land (amount_wide c.args.stocks.now.land (fit_each c.args.stocks.now c.requires).land)

pub plus-over-requires-clause-first : goal.plus-over-requires-clause-first
plus-over-requires-clause-first c = wide c.plus.result (first_wide c.args.stocks.now c.requires c.plus.result c.plus.ensures)

pub plus-over-requires-clause-second : goal.plus-over-requires-clause-second
plus-over-requires-clause-second c = wide c.args.stocks.now.ice (amount_wide c.args.stocks.now.ice (fit_each c.args.stocks.now c.requires).ice)

pub plus-flying-requires-clause-first : goal.plus-flying-requires-clause-first
plus-flying-requires-clause-first c = wide c.args.stocks.now.to_ice (amount_wide c.args.stocks.now.to_ice (fit_each c.args.stocks.now c.requires).to_ice)

pub plus-flying-requires-clause-second : goal.plus-flying-requires-clause-second
plus-flying-requires-clause-second c = wide c.args.stocks.now.to_ocean (amount_wide c.args.stocks.now.to_ocean (fit_each c.args.stocks.now c.requires).to_ocean)

pub plus-requires-2-clause-first : goal.plus-requires-2-clause-first
plus-requires-2-clause-first c = wide c.args.stocks.now.ocean (amount_wide c.args.stocks.now.ocean (fit_each c.args.stocks.now c.requires).ocean)

pub plus-requires-2-clause-second : goal.plus-requires-2-clause-second
plus-requires-2-clause-second c =
    wide c.plus-flying.result (flying_wide c.args.stocks.now c.requires c.plus.result c.plus.ensures c.plus-over.result c.plus-over.ensures c.plus-flying.result c.plus-flying.ensures)

pub plus-requires-3-clause-first : goal.plus-requires-3-clause-first
plus-requires-3-clause-first c = wide c.plus-over.result (over_wide c.args.stocks.now c.requires c.plus.result c.plus.ensures c.plus-over.result c.plus-over.ensures)

pub plus-requires-3-clause-second : goal.plus-requires-3-clause-second
plus-requires-3-clause-second c =
    wide c.plus-2.result (rest_wide c.args.stocks.now c.requires c.plus.result c.plus.ensures c.plus-over.result c.plus-over.ensures c.plus-flying.result c.plus-flying.ensures c.plus-2.result c.plus-2.ensures)

pub narrow-requires : goal.narrow-requires
narrow-requires c =
    amount_word c.plus-3.result (all_amount c.args.stocks.now c.requires c.plus.result c.plus.ensures c.plus-over.result c.plus-over.ensures c.plus-flying.result c.plus-flying.ensures c.plus-2.result c.plus-2.ensures c.plus-3.result c.plus-3.ensures)

pub returns : goal.returns
returns c =
    let amount = all_amount c.args.stocks.now c.requires c.plus.result c.plus.ensures c.plus-over.result c.plus-over.ensures c.plus-flying.result c.plus-flying.ensures c.plus-2.result c.plus-2.ensures c.plus-3.result c.plus-3.ensures in
    let sum = all_sum c.args.stocks.now c.requires c.plus.result c.plus.ensures c.plus-over.result c.plus-over.ensures c.plus-flying.result c.plus-flying.ensures c.plus-2.result c.plus-2.ensures c.plus-3.result c.plus-3.ensures in
    same_word (sum_of_stocks (held_of c.args.stocks.now)) c.narrow.result (subst IsAmount sum amount) (c.narrow.ensures ∙ word c.plus-3.result (amount_wide c.plus-3.result amount) ∙ sum)
