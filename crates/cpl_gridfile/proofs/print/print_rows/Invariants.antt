use Rattle.std.proofs.Common.{◌++◌}
use Rattle.cpl_gridfile.proofs.PrintedLines.{RowsLeft, rows_text}
use Rattle.cpl_gridfile.proofs.print.print_rows.Given as goal

abbrev pub invariant-loop-row : goal.invariant-loop-row
invariant-loop-row l = RowsLeft l.nx l.rows l._row (l.initial.text.items ++ rows_text l.nx l.rows l.areas) l.text.items l.rest
