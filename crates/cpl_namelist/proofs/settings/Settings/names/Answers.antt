use Rattle.std.proofs.Common.{Ok, sym, ap, ◌∙◌}
use Rattle.std.proofs.lemmas.Result.{err_from_is_err_and}
use Rattle.cpl_namelist.specs.Settings.{choices}
use Rattle.cpl_namelist.proofs.Wholes.{steps_same, names_missing, names_step, names_found}
use Rattle.cpl_namelist.proofs.settings.Settings.names.Goals as goal

pub returns-in-Some : goal.returns-in-Some
returns-in-Some c = sym (names_missing (choices c.args.self.now) c.in-Some.required (sym c.in-Some.ensures))

pub returns : goal.returns
returns c =
    let chosen = choices c.args.self.now in
    ap (λ names. Ok names) c.names_with.ensures
    ∙ sym (names_found chosen c.in_ok-steps.steps (sym c.in_default.ensures)
    (sym (steps_same chosen c.number-atmos.result c.number-cpld.result c.number-ocean.result c.run_length.result c.number-atmos.ensures c.number-cpld.ensures c.number-ocean.ensures c.run_length.ensures)
    ∙ sym c.in_ok-steps.ensures))

pub returns-in_err-steps : goal.returns-in_err-steps
returns-in_err-steps c =
    let p = err_from_is_err_and c.from_residual.result c.from_residual.ensures.1 in
    let chosen = choices c.args.self.now in
    rw (p.1, p.2) (sym (names_step chosen c.in_err-steps.field-0.0 (sym c.in_default.ensures)
    (sym (steps_same chosen c.number-atmos.result c.number-cpld.result c.number-ocean.result c.run_length.result c.number-atmos.ensures c.number-cpld.ensures c.number-ocean.ensures c.run_length.ensures)
    ∙ sym c.in_err-steps.ensures)))
