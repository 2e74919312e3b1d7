use Rattle.std.proofs.Common.{◌≡◌, rules, to_z, of_z, w64}
use Rattle.cpl_stocks.proofs.Pushed.{and_fields, and_text}
use Rattle.cpl_stocks.proofs.stocks.StockRowTableRow.push_fields.Goals as goal

pub returns : goal.returns
returns c =
    let date = and_text c.in_ok-push_integer.ensures c.in_ok-push_text.ensures c.date_text.ensures in
    let seconds = and_fields date c.in_ok-push_number.ensures in
    let quantity = and_text seconds c.in_ok-push_text-2.ensures c.quantity_name.ensures in
    let all = and_fields quantity c.in_ok-push_numbers.ensures in
    let fits : to_z w64 (of_z w64 c.args.self.now.seconds) ≡ c.args.self.now.seconds = search rules in
    rw fits at all
