use Rattle.std.proofs.Common.{◌≡◌, ◌+◌, ◌<◌, ◌^◌, length}
use Rattle.cpl_namelist.specs.Tokens.{tokens_from, tokens}
use Rattle.cpl_namelist.specs.Settings.{choices, nothing, judged}
use Rattle.cpl_namelist.proofs.settings.settings_of.Given as goal

abbrev pub invariant-loop-token : goal.invariant-loop-token
invariant-loop-token l = record {
  same : judged (choices l.settings) (tokens_from 0 l.cursor.line l.cursor.rest.now) ≡ judged nothing (tokens l.bytes);
  lines : l.cursor.line + length l.cursor.rest.now < 2 ^ 32;
}

abbrev pub decreases-loop-token : goal.decreases-loop-token
decreases-loop-token l = length l.cursor.rest.now
