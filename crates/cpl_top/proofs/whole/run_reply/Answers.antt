use Rattle.std.proofs.Common.{◌∙◌, sym, ap, subst, ℕ, Vec, Global}
use Rattle.cpl_stocks.specs.Tables.{stocks_text, exchanges_text}
use Rattle.cpl_xgrid.specs.declared.grid.Grid.{Grid}
use Rattle.cpl_xgrid.specs.Grids.{IsGrid}
use Rattle.cpl_state.specs.States.{IsWhole}
use Rattle.cpl_top.specs.Runs.{run_outputs}
use Rattle.cpl_top.proofs.Outcomes.{reply_is}
use Rattle.cpl_top.proofs.whole.run_reply.Goals as goal

pub encode-requires-clause-grid : goal.encode-requires-clause-grid
encode-requires-clause-grid c = subst IsGrid (sym c.grid.ensures.grid) c.grid.ensures.lawful.grid_is

pub encode-requires-clause-whole : goal.encode-requires-clause-whole
encode-requires-clause-whole c = subst (λ (grid : Grid). IsWhole grid c.args.outcome.now.last) (sym c.grid.ensures.grid) c.requires

pub returns : goal.returns
returns c =
    let out = c.args.out.now in
    let outcome = c.args.outcome.now in
    let stocks = c.in_ok-stocks.ensures ∙ ap stocks_text c.as_slice.ensures in
    let exchanges = c.in_ok-exchanges.ensures ∙ ap exchanges_text c.as_slice-2.ensures in
    let restart = c.in_ok-restart.ensures.spelled in
    let outputs = c.in_ok-outputs.ensures ∙ (λ i. run_outputs out (stocks i) (exchanges i) (restart i)) in
    let line = c.from_vec.ensures ∙ ap (λ (bytes : Vec ℕ Global). bytes.items) c.into_bytes.ensures.value ∙ c.in_ok-line.ensures in
    reply_is out c.args.plan.now outcome _ outputs line
