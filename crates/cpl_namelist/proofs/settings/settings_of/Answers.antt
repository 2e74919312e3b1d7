use Rattle.std.proofs.Common.{sym, ◌∙◌}
use Rattle.std.proofs.lemmas.Result.{err_from_is_err_and}
use Rattle.cpl_namelist.specs.Tokens.{tokens_from, seen}
use Rattle.cpl_namelist.specs.Settings.{choices}
use Rattle.cpl_namelist.proofs.Judged.{judged_on, judged_wrong, judged_all}
use Rattle.cpl_namelist.proofs.settings.settings_of.Goals as goal

pub returns-in_err-take : goal.returns-in_err-take
returns-in_err-take c =
    let p = err_from_is_err_and c.from_residual.result c.from_residual.ensures.1 in
    let cursor = c.loop-token.cursor in
    let found = c.in-Some in
    rw (p.1, p.2) (sym c.loop-token.invariant.same
    ∙ judged_wrong (choices c.loop-token.settings) (tokens_from 0 cursor.line cursor.rest.now) (seen found.token) (tokens_from 0 found.after.line found.after.rest.now) c.in_err-take.field-0.0 found.ensures.next c.in_err-take.ensures)

pub loop-token-preserved : goal.loop-token-preserved
loop-token-preserved c =
    let cursor = c.loop-token.cursor in
    let found = c.in-Some in
    record {
      same = judged_on (choices c.loop-token.settings) (choices c.take.new.self) (tokens_from 0 cursor.line cursor.rest.now) (seen found.token) (tokens_from 0 found.after.line found.after.rest.now) found.ensures.next c.in_ok-take.ensures
          ∙ c.loop-token.invariant.same;
      lines = found.ensures.lines;
    }

pub returns : goal.returns
returns c =
    let cursor = c.loop-token.cursor in
    sym c.loop-token.invariant.same ∙ judged_all (choices c.loop-token.settings) (tokens_from 0 cursor.line cursor.rest.now) c.in_default.ensures.next
