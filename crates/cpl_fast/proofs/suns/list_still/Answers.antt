use Rattle.std.proofs.Common.{◌≡◌, ◌∙◌, arith, length}
use Rattle.cpl_fast.specs.Flows.{no_flow}
use Rattle.cpl_fast.proofs.Placed.{items_more_by}
use Rattle.cpl_fast.proofs.suns.list_still.Goals as goal

pub row_still-requires-clause-clear : goal.row_still-requires-clause-clear
row_still-requires-clause-clear c k l empty =
    let row = c.loop-row.row in
    c.loop-row.invariant.behind row k (omega arith) (omega arith) ∙ c.requires.clear row (omega arith) k l empty

pub loop-row-preserved : goal.loop-row-preserved
loop-row-preserved c =
    let tables = c.args.tables.now in
    let row = c.loop-row.row in
    let inv = c.loop-row.invariant in
    record {
      done = items_more_by (λ r k x. x ≡ no_flow) c.loop-row.flows c.row_still.new.flows (length tables.links.items) tables.width row no_flow (omega arith) inv.done c.row_still.ensures.row c.row_still.ensures.others;
      behind = λ r k h l. c.row_still.ensures.others r k l (omega arith) ∙ inv.behind r k (omega arith) l;
    }
