use Rattle.std.proofs.Common.{◌≡◌, ◌+◌, ◌≤◌, length}
use Rattle.cpl_namelist.specs.Tokens.{tokens_from}
use Rattle.cpl_namelist.proofs.token.skip.Given as goal

abbrev pub invariant-loop-after : goal.invariant-loop-after
invariant-loop-after l = record {
  same : tokens_from 0 l.cursor.line l.cursor.rest.now ≡ tokens_from 0 l.line l.bytes;
  lines : l.cursor.line + length l.cursor.rest.now ≤ l.line + length l.bytes;
  shorter : length l.cursor.rest.now ≤ length l.bytes;
}

abbrev pub decreases-loop-after : goal.decreases-loop-after
decreases-loop-after l = length l.cursor.rest.now
