use Rattle.std.proofs.Common.{◌≡◌, ◌∙◌, ap, subst, List, ℕ, ◌+◌, ◌*◌, arith, length, get_or, string_bytes}
use Rattle.std.specs.Prelude.{IfOk}
use Rattle.cpl_fixed.specs.declared.words.Quantity.TheVariants.{Heat}
use Rattle.cpl_namelist.specs.declared.names.Names.{Names}
use Rattle.cpl_stocks.specs.declared.rows.StockRow.{StockRow}
use Rattle.cpl_whole.specs.Rows.{stock_row}
use Rattle.cpl_top.specs.Summary.{rows_line}
use Rattle.cpl_top.proofs.Last.{row_last, rows_count}
use Rattle.cpl_top.proofs.summary.summary_line.Goals as goal

pub last_line-requires : goal.last_line-requires
last_line-requires c =
    let plan = c.args.plan.now in
    let rows = c.as_slice.ensures ∙ c.in_ok-outcome.ensures.stocks in
    let count = ap (λ (xs : List StockRow). length xs) rows ∙ rows_count plan.grid plan.names plan.start plan.names.steps in
    let steps = ap (λ (names : Names). names.steps) c.names.ensures.names in
    omega arith

pub returns : goal.returns
returns c =
    let plan = c.args.plan.now in
    let n = plan.names.steps in
    let d = stock_row plan.grid plan.names plan.start n Heat in
    let rows = c.as_slice.ensures ∙ c.in_ok-outcome.ensures.stocks in
    let steps = ap (λ (names : Names). names.steps) c.names.ensures.names in
    let first : 3 * n ≡ 3 * n + 0 = omega arith in
    let heat = ap (λ (i : ℕ). get_or c.as_slice.result.now i d) first ∙ ap (λ (xs : List StockRow). get_or xs (3 * n + 0) d) rows ∙ row_last plan.grid plan.names plan.start n 0 d in
    let water = ap (λ (xs : List StockRow). get_or xs (3 * n + 1) d) rows ∙ row_last plan.grid plan.names plan.start n 1 d in
    let salt = ap (λ (xs : List StockRow). get_or xs (3 * n + 2) d) rows ∙ row_last plan.grid plan.names plan.start n 2 d in
    let given = (λ i. rows_line (steps i) (get_or c.as_slice.result.now (3 * steps i) d) (get_or c.as_slice.result.now (3 * steps i + 1) d) (get_or c.as_slice.result.now (3 * steps i + 2) d))
    ∙ (λ i. rows_line n (heat i) (water i) (salt i)) in
    subst (λ (bytes : List ℕ). IfOk c.last_line.result (λ line. string_bytes line ≡ bytes)) given (c.last_line.ensures d)
