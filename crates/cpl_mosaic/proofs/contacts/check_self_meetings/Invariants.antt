use Rattle.cpl_mosaic.specs.Contacts.{meets_itself}
use Rattle.cpl_mosaic.proofs.Refusals.{PassedTo}
use Rattle.cpl_mosaic.proofs.contacts.check_self_meetings.Given as goal

abbrev pub invariant-loop-n : goal.invariant-loop-n
invariant-loop-n l = PassedTo (λ earlier contact. meets_itself l.tiles contact) l.contacts l.n
