use Rattle.cpl_lines.proofs.Printed.{HasPrinted}
use Rattle.cpl_gridfile.proofs.PrintedLines.{row_text}
use Rattle.cpl_gridfile.proofs.print.print_exchange_cells.Given as goal

abbrev pub invariant-loop-x : goal.invariant-loop-x
invariant-loop-x l = HasPrinted row_text l.rows l.initial.text.items l.x-index l.text.items
