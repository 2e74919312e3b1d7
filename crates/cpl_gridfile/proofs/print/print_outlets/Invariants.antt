use Rattle.cpl_lines.proofs.Printed.{HasPrinted}
use Rattle.cpl_gridfile.proofs.PrintedLines.{outlet_text}
use Rattle.cpl_gridfile.proofs.print.print_outlets.Given as goal

abbrev pub invariant-loop-outlet : goal.invariant-loop-outlet
invariant-loop-outlet l = HasPrinted outlet_text l.outlets l.initial.text.items l.outlet-index l.text.items
