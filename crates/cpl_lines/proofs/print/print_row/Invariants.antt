use Rattle.cpl_lines.proofs.Printed.{HasPrinted, number_text}
use Rattle.cpl_lines.proofs.print.print_row.Given as goal

abbrev pub invariant-loop-n : goal.invariant-loop-n
invariant-loop-n l = HasPrinted number_text l.numbers l.initial.text.items l.n-index l.text.items
