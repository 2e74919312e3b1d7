use Rattle.std.proofs.Common.{◌≡◌, ◌+◌, ◌≤◌, ◌<◌, ◌^◌, length}
use Rattle.cpl_namelist.specs.Tokens.{tokens_from}
use Rattle.cpl_namelist.specs.Numbers.{listed, kept, suits, with_front, numbers, fitting}
use Rattle.cpl_namelist.proofs.numbers.numbers_in.Given as goal

abbrev pub invariant-loop-token : goal.invariant-loop-token
invariant-loop-token l = record {
  same : kept (suits l.row) (with_front (listed l.numbers) (numbers l.row (tokens_from 0 l.cursor.line l.cursor.rest.now))) ≡ fitting l.row (tokens_from 0 l.line l.bytes);
  room : l.numbers.count ≤ l.row.count;
  lines : l.cursor.line + length l.cursor.rest.now < 2 ^ 32;
}

abbrev pub decreases-loop-token : goal.decreases-loop-token
decreases-loop-token l = length l.cursor.rest.now
