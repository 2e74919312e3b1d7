use Rattle.cpl_lines.proofs.Printed.{HasPrinted}
use Rattle.cpl_gridfile.proofs.PrintedLines.{area_text}
use Rattle.cpl_gridfile.proofs.print.print_areas.Given as goal

abbrev pub invariant-loop-area : goal.invariant-loop-area
invariant-loop-area l = HasPrinted area_text l.areas l.initial.text.items l.area-index l.text.items
