use Rattle.std.proofs.Common.{◌≡◌, rules, to_z, of_z, w64}
use Rattle.std.specs.Int.{w128}
use Rattle.cpl_stocks.proofs.Pushed.{and_fields, and_text}
use Rattle.cpl_stocks.proofs.exchanges.ExchangeRowTableRow.push_fields.Goals as goal

pub returns : goal.returns
returns c =
    let exchange = and_text c.in_ok-push_integer.ensures c.in_ok-push_text.ensures c.exchange_name.ensures in
    let quantity = and_text exchange c.in_ok-push_text-2.ensures c.quantity_name.ensures in
    let before = and_fields quantity c.in_ok-push_number.ensures in
    let gave = and_fields before c.in_ok-push_sum.ensures in
    let took = and_fields gave c.in_ok-push_sum-2.ensures in
    let all = and_fields took c.in_ok-push_number-2.ensures in
    let before_fits : to_z w64 (of_z w64 c.args.self.now.before) ≡ c.args.self.now.before = search rules in
    let after_fits : to_z w64 (of_z w64 c.args.self.now.after) ≡ c.args.self.now.after = search rules in
    let gave_fits : to_z w128 (of_z w128 c.args.self.now.gave) ≡ c.args.self.now.gave = search rules in
    let took_fits : to_z w128 (of_z w128 c.args.self.now.took) ≡ c.args.self.now.took = search rules in
    rw (before_fits, after_fits, gave_fits, took_fits) at all
