use Rattle.std.proofs.Common.{subst, List, []}
use Rattle.std.specs.Prelude.{IfOk}
use Rattle.cpl_stocks.specs.declared.rows.ExchangeRow.{ExchangeRow}
use Rattle.cpl_stocks.specs.declared.rows.StockRow.{StockRow}
use Rattle.cpl_whole.specs.Journeys.{HasSetOut}
use Rattle.cpl_whole.proofs.run.set_out.Goals as goal

pub set_out-requires-clause-ground : goal.set_out-requires-clause-ground
set_out-requires-clause-ground c = c.requires.ground

pub set_out-requires-clause-start : goal.set_out-requires-clause-start
set_out-requires-clause-start c = c.requires.run.is_whole

pub returns : goal.returns
returns c =
    let told = subst (λ (rows : List StockRow). IfOk c.set_out.result (HasSetOut c.args.grid.now c.args.start.now rows c.in_ok-exchanges.exchanges.items)) c.in_ok-stocks.ensures.items c.set_out.ensures in
    subst (λ (rows : List ExchangeRow). IfOk c.set_out.result (HasSetOut c.args.grid.now c.args.start.now [] rows)) c.in_ok-exchanges.ensures.items told
