use Rattle.std.proofs.Common.{◌≡◌, ◌*◌, length, take}
use Rattle.cpl_stocks.specs.Partials.{numbers_of_words}
use Rattle.cpl_stocks.proofs.words.read_row.Given as goal

abbrev pub invariant-loop-i : goal.invariant-loop-i
invariant-loop-i g l = record {
  count : length l.row ≡ g.row.N;
  done : take l.i l.row ≡ numbers_of_words (take (2 * l.i) l.words);
}
