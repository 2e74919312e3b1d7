use Rattle.cpl_sea.proofs.Writes.{own_number}
use Rattle.cpl_sea.proofs.moving.flow.Goals as goal

pub returns-then-link-clause-value : goal.returns-then-link-clause-value
returns-then-link-clause-value c =
    let number = own_number c.args.u c.requires.number in
    rw c.if-link.true (cc)
