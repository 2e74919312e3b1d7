use Rattle.std.proofs.Common.{◌≡◌, subst, ℕ, List, map}
use Rattle.std.specs.Prelude.{OnOk}
use Rattle.cpl_stocks.specs.declared.rows.Exchange.{Exchange}
use Rattle.cpl_stocks.specs.declared.rows.Exchange.TheVariants.{AirLand, AirIce, LandIce, OceanIce, IceOcean}
use Rattle.cpl_stocks.specs.declared.rows.ExchangeRow.{ExchangeRow}
use Rattle.cpl_whole.specs.Exchanges.{row_in}
use Rattle.cpl_whole.specs.Rows.{quantities}
use Rattle.cpl_whole.proofs.Tables.{five_parts}
use Rattle.cpl_whole.proofs.exchanges.Crossing.push_rows.Goals as goal

pub returns : goal.returns
returns c =
    let part = λ (first : ℕ) (exchange : Exchange). map (row_in c.args.self.now c.args.step first exchange) quantities in
    let all = five_parts c.args.rows.now.items (part 0 AirLand) (part 3 AirIce) (part 6 LandIce) (part 9 OceanIce) (part 12 IceOcean)
    c.push_exchange.new.rows.items c.push_exchange-2.new.rows.items c.push_exchange-3.new.rows.items c.push_exchange-4.new.rows.items
    c.in_ok-push_exchange.ensures c.in_ok-push_exchange-2.ensures c.in_ok-push_exchange-3.ensures c.in_ok-push_exchange-4.ensures in
    subst (λ (rows : List ExchangeRow). OnOk c.push_exchange-5.result (c.push_exchange-5.new.rows.items ≡ rows)) all c.push_exchange-5.ensures
