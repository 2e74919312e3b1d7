use Rattle.std.proofs.Common.{◌≡◌, ◌∙◌, refl, sym, ap, subst, List, ◌++◌, map}
use Rattle.std.specs.Prelude.{ℤ, pos, ◌≤ℤ◌, OnOk, unsigned_abs}
use Rattle.cpl_fixed.specs.Amounts.{IsAmount}
use Rattle.cpl_namelist.specs.Civil.{Fits, civil_after, civil_of}
use Rattle.cpl_state.specs.Stored.{IsStored}
use Rattle.cpl_stocks.specs.declared.rows.StockRow.{StockRow}
use Rattle.cpl_whole.specs.Holdings.{holding_of}
use Rattle.cpl_whole.specs.Rows.{quantities, stock_row_of}
use Rattle.cpl_whole.proofs.Words.{narrow_word, stored_word}
use Rattle.cpl_whole.proofs.journey.Journey.tell.Goals as goal

pub date_of-requires-clause-start : goal.date_of-requires-clause-start
date_of-requires-clause-start c = c.requires.start

pub date_of-requires-clause-forward : goal.date_of-requires-clause-forward
date_of-requires-clause-forward c = subst (λ (x : ℤ). pos 0 ≤ℤ x) (sym (stored_word c.args.self.now.state.elapsed c.requires.seconds)) c.requires.seconds.0

pub date_of-requires-clause-fits : goal.date_of-requires-clause-fits
date_of-requires-clause-fits c = subst (λ (x : ℤ). Fits c.args.names.now.start (unsigned_abs x)) (sym (stored_word c.args.self.now.state.elapsed c.requires.seconds)) c.requires.date

pub push_stocks-requires-clause-stage : goal.push_stocks-requires-clause-stage
push_stocks-requires-clause-stage c = record {
  seconds = subst IsStored (sym (stored_word c.args.self.now.state.elapsed c.requires.seconds)) c.requires.seconds;
  entered = subst IsAmount (sym (narrow_word c.args.self.now.entered c.requires.entered)) c.requires.entered;
  left = subst IsAmount (sym (narrow_word c.args.self.now.left c.requires.left)) c.requires.left;
}

pub push_stocks-requires-clause-holdings : goal.push_stocks-requires-clause-holdings
push_stocks-requires-clause-holdings c = c.requires.fits

pub returns-clause-rows : goal.returns-clause-rows
returns-clause-rows c =
    let self = c.args.self.now in
    let seconds = stored_word self.state.elapsed c.requires.seconds in
    let date = c.date_of.ensures ∙ ap (λ (x : ℤ). civil_of (civil_after c.args.names.now.start (unsigned_abs x))) seconds in
    let entered = narrow_word self.entered c.requires.entered in
    let left = narrow_word self.left c.requires.left in
    subst (λ (rows : List StockRow). OnOk c.push_stocks.result (c.push_stocks.new.rows.items ≡ rows))
    (λ i. self.stocks.items ++ map (λ quantity. stock_row_of c.args.step (date i) (seconds i) quantity (holding_of self.held quantity) (entered i) (left i)) quantities)
    c.push_stocks.ensures

pub returns-clause-same : goal.returns-clause-same
returns-clause-same c = refl
