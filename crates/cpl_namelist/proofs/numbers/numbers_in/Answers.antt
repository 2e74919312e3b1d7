use Rattle.std.proofs.Common.{sym, ◌∙◌, arith}
use Rattle.cpl_namelist.specs.Tokens.{tokens_from, seen}
use Rattle.cpl_namelist.specs.Numbers.{listed}
use Rattle.cpl_namelist.proofs.Fronts.{front_begins, front_ends, front_is_all, front_goes, front_fails}
use Rattle.cpl_namelist.proofs.numbers.numbers_in.Goals as goal

pub loop-token-init : goal.loop-token-init
loop-token-init c = record {
  same = front_begins c.args.row (tokens_from 0 c.args.line c.args.bytes.now);
  room = omega arith;
  lines = c.requires.lines;
}

pub returns-in-End : goal.returns-in-End
returns-in-End c =
    let cursor = c.loop-token.cursor in
    let found = c.in-Some in
    c.fitted.ensures
    ∙ front_ends c.args.row (listed c.loop-token.numbers) (tokens_from 0 cursor.line cursor.rest.now) (seen found.token) (tokens_from 0 found.after.line found.after.rest.now) found.ensures.next c.in-End.ensures
    ∙ c.loop-token.invariant.same

pub returns-in-Wrong : goal.returns-in-Wrong
returns-in-Wrong c =
    let cursor = c.loop-token.cursor in
    let found = c.in-Some in
    sym (front_fails c.args.row (listed c.loop-token.numbers) (tokens_from 0 cursor.line cursor.rest.now) (seen found.token) (tokens_from 0 found.after.line found.after.rest.now) found.ensures.next c.in-Wrong.ensures)
    ∙ c.loop-token.invariant.same

pub loop-token-preserved : goal.loop-token-preserved
loop-token-preserved c =
    let cursor = c.loop-token.cursor in
    let found = c.in-Some in
    record {
      same = front_goes c.args.row (listed c.loop-token.numbers) (listed c.in-More.next) (tokens_from 0 cursor.line cursor.rest.now) (seen found.token) (tokens_from 0 found.after.line found.after.rest.now) found.ensures.next c.in-More.ensures.1
          ∙ c.loop-token.invariant.same;
      room = c.in-More.ensures.0;
      lines = found.ensures.lines;
    }

pub returns : goal.returns
returns c =
    let cursor = c.loop-token.cursor in
    c.fitted-2.ensures
    ∙ front_is_all c.args.row (listed c.loop-token.numbers) (tokens_from 0 cursor.line cursor.rest.now) c.in_default.ensures.next
    ∙ c.loop-token.invariant.same
