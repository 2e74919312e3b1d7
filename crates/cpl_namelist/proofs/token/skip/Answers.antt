use Rattle.std.proofs.Common.{sym, ◌∙◌, arith}
use Rattle.cpl_namelist.specs.Tokens.{place}
use Rattle.cpl_namelist.proofs.Gaps.{tokens_past}
use Rattle.cpl_namelist.proofs.token.skip.Goals as goal

pub loop-after-preserved : goal.loop-after-preserved
loop-after-preserved c =
    let cursor = c.loop-after.cursor in
    record {
      same = sym (tokens_past cursor.line cursor.rest.now (place c.in-Some.after) (sym c.in-Some.ensures.value)) ∙ c.loop-after.invariant.same;
      lines = omega (arith, c.in-Some.ensures.lines);
      shorter = omega (arith, c.in-Some.ensures.shorter);
    }
