use Rattle.std.proofs.Common.{◌≡◌, ◌+◌, ◌<◌, ◌^◌, length}
use Rattle.cpl_namelist.specs.Tokens.{tokens_from, tokens, last_line}
use Rattle.cpl_namelist.specs.Syntax.{syntax_fault}
use Rattle.cpl_namelist.specs.declared.syntax.State.TheVariants.{Outside}
use Rattle.cpl_namelist.proofs.syntax.syntax_fault.Given as goal

abbrev pub invariant-loop-token : goal.invariant-loop-token
invariant-loop-token l = record {
  same : syntax_fault (last_line l.bytes) l.place (tokens_from 0 l.cursor.line l.cursor.rest.now) ≡ syntax_fault (last_line l.bytes) Outside (tokens l.bytes);
  lines : l.cursor.line + length l.cursor.rest.now < 2 ^ 32;
}

abbrev pub decreases-loop-token : goal.decreases-loop-token
decreases-loop-token l = length l.cursor.rest.now
