use Rattle.std.proofs.Common.{◌≡◌, ◌<◌, length, sym, ap, refl, ◌∙◌, arith}
use Rattle.std.proofs.lemmas.Bool.{eqb-true}
use Rattle.std.proofs.lemmas.Bool.Decides.{nat_tests}
use Rattle.cpl_namelist.specs.declared.token.Form.{Form}
use Rattle.cpl_namelist.specs.Tokens.{form_of}
use Rattle.cpl_namelist.proofs.Gaps.{tokens_none, tokens_token}
use Rattle.cpl_namelist.proofs.token.next_token.Goals as goal

pub returns-then-is_empty-clause-next : goal.returns-then-is_empty-clause-next
returns-then-is_empty-clause-next c =
    sym c.skip-line.ensures.same
    ∙ tokens_none c.skip-line.result.line c.skip-line.result.rest.now (eqb-true (length c.skip-line.result.rest.now) 0 (sym c.is_empty.ensures ∙ c.if-is_empty.true))

pub returns-clause-next : goal.returns-clause-next
returns-clause-next c =
    let rest = c.skip-line.result.rest.now in
    let value = c.form_of-form.ensures.value in
    let len : c.form_of-form.result.len ≡ (form_of rest).len = ap (λ (form : Form). form.len) value in
    let some : 0 < (form_of rest).len = omega (arith, c.form_of-form.ensures.some) in
    let any : 0 < length rest = grind (arith, nat_tests) in
    sym c.skip-line.ensures.same ∙ tokens_token c.skip-line.result.line rest any c.skip-line.ensures.ends some
    ∙ rw (← value, c.split_at.ensures.front, c.split_at.ensures.back) refl
