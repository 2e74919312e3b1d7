use Rattle.std.proofs.Common.{not}
use Rattle.cpl_mosaic.specs.Contacts.{is_in_range}
use Rattle.cpl_mosaic.proofs.Refusals.{PassedTo}
use Rattle.cpl_mosaic.proofs.contacts.check_ranges.Given as goal

abbrev pub invariant-loop-n : goal.invariant-loop-n
invariant-loop-n l = PassedTo (λ earlier contact. not (is_in_range l.tiles contact)) l.contacts l.n
