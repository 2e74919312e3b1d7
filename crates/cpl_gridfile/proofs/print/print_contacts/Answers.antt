use Rattle.std.proofs.Common.{◌≡◌, ◌++◌, get_or}
use Rattle.cpl_lines.proofs.Printed.{nothing_yet, one_more, all_printed}
use Rattle.cpl_gridfile.proofs.PrintedLines.{contact_text, contacts_printed, no_contact}
use Rattle.cpl_gridfile.proofs.print.print_contacts.Goals as goal

pub loop-contact-init : goal.loop-contact-init
loop-contact-init c = nothing_yet contact_text c.args.contacts.now c.args.text.now.items

pub loop-contact-preserved : goal.loop-contact-preserved
loop-contact-preserved c =
    let grown : c.print_contact.new.text.items ≡ c.loop-contact.text.items ++ contact_text (get_or c.args.contacts.now c.loop-contact.contact-index no_contact) = c.in_ok-print_contact.ensures {u = tt} in
    one_more contact_text c.args.contacts.now c.args.text.now.items c.loop-contact.contact-index no_contact c.loop-contact.text.items c.print_contact.new.text.items
    c.loop-contact-test.true c.loop-contact.invariant grown

pub returns : goal.returns
returns c =
    contacts_printed c.args.text.now.items c.loop-contact.text.items c.args.contacts.now
    (all_printed contact_text c.args.contacts.now c.args.text.now.items c.loop-contact.contact-index c.loop-contact.text.items c.loop-contact-test.false c.loop-contact.invariant)
