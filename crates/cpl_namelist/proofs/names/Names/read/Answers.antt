use Rattle.std.proofs.Common.{Result, Err, sym, subst, ◌∙◌}
use Rattle.std.specs.Prelude.{IfOk}
use Rattle.std.proofs.lemmas.Result.{err_from_is_err_and}
use Rattle.cpl_namelist.specs.declared.fault.NamesError.{NamesError}
use Rattle.cpl_namelist.specs.declared.names.Names.{Names}
use Rattle.cpl_namelist.specs.Tokens.{tokens}
use Rattle.cpl_namelist.specs.Ranges.{AreNames, HasTimes}
use Rattle.cpl_namelist.specs.Settings.{choices, nothing}
use Rattle.cpl_namelist.proofs.Wholes.{reading_syntax, reading_wrong, reading_set}
use Rattle.cpl_namelist.proofs.Fine.{judged_fine, nothing_fine}
use Rattle.cpl_namelist.proofs.Named.{names_in, names_fill}
use Rattle.cpl_namelist.specs.Settings.{Choices}
use Rattle.cpl_namelist.proofs.Grammars.{in_order, out_of_order}
use Rattle.cpl_namelist.proofs.Calm.{Calm, judged_calm, names_calm, has_order}
use Rattle.cpl_namelist.proofs.names.Names.read.Goals as goal

pub returns-in-Some-clause-exact : goal.returns-in-Some-clause-exact
returns-in-Some-clause-exact c = sym (reading_syntax c.args.bytes.now c.in-Some.line (sym c.in-Some.ensures))

pub returns-clause-exact : goal.returns-clause-exact
returns-clause-exact c = c.names.ensures ∙ sym (reading_set c.args.bytes.now (choices c.in_ok-settings_of.field-0) (sym c.in_default.ensures) c.in_ok-settings_of.ensures)

pub returns-clause-ranges : goal.returns-clause-ranges
returns-clause-ranges c =
    subst (λ (r : Result Names NamesError). IfOk r AreNames) (sym c.names.ensures) (names_in (choices c.in_ok-settings_of.field-0) (judged_fine (tokens c.args.bytes.now) nothing (choices c.in_ok-settings_of.field-0) nothing_fine c.in_ok-settings_of.ensures))

pub returns-in_err-settings_of-clause-exact : goal.returns-in_err-settings_of-clause-exact
returns-in_err-settings_of-clause-exact c =
    let p = err_from_is_err_and c.from_residual.result c.from_residual.ensures.1 in
    rw (p.1, p.2) (sym (reading_wrong c.args.bytes.now c.in_err-settings_of.field-0.0 (sym c.in_default.ensures) c.in_err-settings_of.ensures))

pub returns-in-Some-clause-syntax : goal.returns-in-Some-clause-syntax
returns-in-Some-clause-syntax c = out_of_order c.args.bytes.now c.in-Some.line (sym c.in-Some.ensures)

pub returns-clause-syntax : goal.returns-clause-syntax
returns-clause-syntax c =
    has_order c.args.bytes.now c.names.result (subst (λ (r : Result Names NamesError). Calm r) (sym c.names.ensures) (names_calm (choices c.in_ok-settings_of.field-0)))
    (in_order c.args.bytes.now (sym c.in_default.ensures))

pub returns-in_err-settings_of-clause-syntax : goal.returns-in_err-settings_of-clause-syntax
returns-in_err-settings_of-clause-syntax c =
    let p = err_from_is_err_and c.from_residual.result c.from_residual.ensures.1 in
    rw (p.1, p.2) (has_order c.args.bytes.now (Err c.in_err-settings_of.field-0.0)
    (subst (λ (r : Result Choices NamesError). Calm r) c.in_err-settings_of.ensures (judged_calm (tokens c.args.bytes.now) nothing))
    (in_order c.args.bytes.now (sym c.in_default.ensures)))

pub returns-clause-times : goal.returns-clause-times
returns-clause-times c =
    subst (λ (r : Result Names NamesError). IfOk r (HasTimes c.args.bytes.now)) (sym c.names.ensures)
    (names_fill c.args.bytes.now (choices c.in_ok-settings_of.field-0) c.in_ok-settings_of.ensures (judged_fine (tokens c.args.bytes.now) nothing (choices c.in_ok-settings_of.field-0) nothing_fine c.in_ok-settings_of.ensures))
