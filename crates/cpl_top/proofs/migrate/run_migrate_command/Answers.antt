use Rattle.std.proofs.Common.{◌∙◌, ap, sym, subst, List, ℕ, Ok}
use Rattle.std.proofs.lemmas.Result.{err_from_is_err_and}
use Rattle.cpl_fixed.specs.Results.{◌>>=◌, Fails}
use Rattle.cpl_gridfile.specs.Reading.{coupled_grid_of}
use Rattle.cpl_restart.specs.RestartBytes.{whole_of}
use Rattle.cpl_restart.specs.Sections.{is_memory}
use Rattle.cpl_state.specs.declared.whole.Whole.{Whole}
use Rattle.cpl_top.specs.Causes.{Refuses}
use Rattle.cpl_top.specs.Judging.{as_grid, as_start, start_status}
use Rattle.cpl_top.specs.Migrate.{migrate_reply}
use Rattle.cpl_restart.specs.SecondBytes.{second_bytes}
use Rattle.cpl_top.proofs.Judging.{goes_on, start_refuses}
use Rattle.cpl_top.proofs.migrate.run_migrate_command.Goals as goal

pub returns-in_err-whole-clause-answer : goal.returns-in_err-whole-clause-answer
returns-in_err-whole-clause-answer c =
    let coupled = c.in_ok-coupled.coupled in
    let fault = c.in_err-whole.field-0.0 in
    let p = err_from_is_err_and c.from_residual-in_err-whole.result c.from_residual-in_err-whole.ensures.1 in
    let after = λ (whole : Whole). Ok (migrate_reply c.args.out.now (second_bytes whole) whole.elapsed) in
    let is_grid = ap as_grid (ap coupled_grid_of (sym c.deref.ensures.value) ∙ c.in_ok-coupled.ensures.exact) in
    let refused = start_refuses fault (whole_of coupled c.args.start.items) after
    (subst (λ (bytes : List ℕ). Fails is_memory fault (whole_of coupled bytes)) c.deref-2.ensures.value c.in_err-whole.ensures.exact) in
    rw (p.1, p.2)
    (subst (Refuses (start_status fault)) (ap (λ r. r >>= λ coupled. as_start (whole_of coupled c.args.start.items) >>= after) (sym is_grid)) refused)

pub returns-in_err-bytes-clause-answer : goal.returns-in_err-bytes-clause-answer
returns-in_err-bytes-clause-answer c =
    let p = err_from_is_err_and c.from_residual-in_err-bytes.result c.from_residual-in_err-bytes.ensures.1 in rw (p.1, p.2) tt

pub returns-in_err-migrate_reply-clause-answer : goal.returns-in_err-migrate_reply-clause-answer
returns-in_err-migrate_reply-clause-answer c =
    let p = err_from_is_err_and c.from_residual-in_err-migrate_reply.result c.from_residual-in_err-migrate_reply.ensures.1 in rw (p.1, p.2) tt

pub returns-clause-answer : goal.returns-clause-answer
returns-clause-answer c =
    let coupled = c.in_ok-coupled.coupled in
    let whole = c.in_ok-whole.whole in
    let out = c.args.out.now in
    let reply = c.in_ok-migrate_reply.ensures ∙ ap (λ bytes. migrate_reply out bytes whole.elapsed) c.in_ok-bytes.ensures.spelled in
    goes_on _ _ coupled _ (ap as_grid (ap coupled_grid_of (sym c.deref.ensures.value) ∙ c.in_ok-coupled.ensures.exact))
    (goes_on _ _ whole _ (ap as_start (ap (whole_of coupled) (sym c.deref-2.ensures.value) ∙ c.in_ok-whole.ensures.exact))
    (ap (λ reply. Ok reply) (sym reply)))
