use Rattle.cpl_lines.proofs.Printed.{HasPrinted}
use Rattle.cpl_gridfile.proofs.PrintedLines.{contact_text}
use Rattle.cpl_gridfile.proofs.print.print_contacts.Given as goal

abbrev pub invariant-loop-contact : goal.invariant-loop-contact
invariant-loop-contact l = HasPrinted contact_text l.contacts l.initial.text.items l.contact-index l.text.items
