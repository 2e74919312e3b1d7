use Rattle.std.proofs.Common.{sym, ap, ◌∙◌, arith}
use Rattle.cpl_namelist.specs.Tokens.{tokens_from, last_line, seen}
use Rattle.cpl_namelist.specs.Syntax.{end_fault}
use Rattle.cpl_namelist.proofs.Orders.{fault_here, fault_later, fault_at_end}
use Rattle.cpl_namelist.proofs.syntax.syntax_fault.Goals as goal

pub returns-in-None : goal.returns-in-None
returns-in-None c =
    let cursor = c.loop-token.cursor in
    let found = c.in-Some in
    sym (fault_here (last_line c.args.bytes.now) c.loop-token.place (tokens_from 0 cursor.line cursor.rest.now) (seen found.token) (tokens_from 0 found.after.line found.after.rest.now) found.ensures.next (sym c.in-None.ensures))
    ∙ c.loop-token.invariant.same

pub loop-token-preserved : goal.loop-token-preserved
loop-token-preserved c =
    let cursor = c.loop-token.cursor in
    let found = c.in-Some in
    record {
      same = sym (fault_later (last_line c.args.bytes.now) c.loop-token.place (tokens_from 0 cursor.line cursor.rest.now) (seen found.token) (tokens_from 0 found.after.line found.after.rest.now) c.in-Some-follow.next found.ensures.next (sym c.in-Some-follow.ensures))
          ∙ c.loop-token.invariant.same;
      lines = omega (arith, found.ensures.lines);
    }

pub returns : goal.returns
returns c =
    let cursor = c.loop-token.cursor in
    c.end_fault.ensures ∙ ap (λ last. end_fault last c.loop-token.place) c.last_line.ensures
    ∙ sym (fault_at_end (last_line c.args.bytes.now) c.loop-token.place (tokens_from 0 cursor.line cursor.rest.now) c.in_default.ensures.next) ∙ c.loop-token.invariant.same
