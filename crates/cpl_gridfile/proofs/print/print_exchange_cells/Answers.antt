use Rattle.std.proofs.Common.{◌≡◌, ◌++◌, ◌∷◌, [], length, get_or, rules}
use Rattle.cpl_lines.specs.Lines.{line_text, row}
use Rattle.cpl_lines.proofs.Printed.{nothing_yet, one_more, all_printed}
use Rattle.cpl_gridfile.specs.GridFormat.{count_word}
use Rattle.cpl_gridfile.proofs.PrintedLines.{row_text, no_row, rows_are_printed}
use Rattle.cpl_gridfile.proofs.print.print_exchange_cells.Goals as goal

pub loop-x-init : goal.loop-x-init
loop-x-init c = nothing_yet row_text c.args.rows.now c.print_row.new.text.items

pub loop-x-preserved : goal.loop-x-preserved
loop-x-preserved c =
    let grown : c.print_exchange_cell.new.text.items ≡ c.loop-x.text.items ++ row_text (get_or c.args.rows.now c.loop-x.x-index no_row) = c.in_ok-print_exchange_cell.ensures {u = tt} in
    one_more row_text c.args.rows.now c.print_row.new.text.items c.loop-x.x-index no_row c.loop-x.text.items c.print_exchange_cell.new.text.items
    c.loop-x-test.true c.loop-x.invariant grown

pub returns : goal.returns
returns c =
    let counted : c.print_row.new.text.items ≡ c.args.text.now.items ++ line_text (row (count_word c.args.list) (length c.args.rows.now ∷ [])) = search rules in
    rows_are_printed c.args.list c.args.rows.now c.args.text.now.items c.print_row.new.text.items c.loop-x.text.items counted
    (all_printed row_text c.args.rows.now c.print_row.new.text.items c.loop-x.x-index c.loop-x.text.items c.loop-x-test.false c.loop-x.invariant)
