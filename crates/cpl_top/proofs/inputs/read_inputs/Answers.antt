use Rattle.std.proofs.Common.{rules, refl}
use Rattle.std.proofs.lemmas.Result.{err_from_is_err_and}
use Rattle.cpl_top.proofs.Steps.{walks_on, walks_unread}
use Rattle.cpl_top.proofs.inputs.read_inputs.Goals as goal

pub returns-in_err-names-clause-stop : goal.returns-in_err-names-clause-stop
returns-in_err-names-clause-stop g c = λ rest.
    let p = err_from_is_err_and c.from_residual-in_err-names.result c.from_residual-in_err-names.ensures.1 in
    rw (p.1, p.2)
    (walks_on c.in_ok-grid.ensures.only_reads c.in_ok-grid.ensures.bytes c.in_ok-grid.ensures.quiet
    (walks_unread refl c.in_err-names.ensures.only_reads (search rules)))

pub returns-in_err-start-clause-stop : goal.returns-in_err-start-clause-stop
returns-in_err-start-clause-stop g c = λ rest.
    let p = err_from_is_err_and c.from_residual-in_err-start.result c.from_residual-in_err-start.ensures.1 in
    rw (p.1, p.2)
    (walks_on c.in_ok-grid.ensures.only_reads c.in_ok-grid.ensures.bytes c.in_ok-grid.ensures.quiet
    (walks_on c.in_ok-names.ensures.only_reads c.in_ok-names.ensures.bytes c.in_ok-names.ensures.quiet
    (walks_unread refl c.in_err-start.ensures.only_reads (search rules))))
