use Rattle.std.proofs.Common.{◌≡◌, ◌*◌, length, take}
use Rattle.std.specs.List.{AllWithin}
use Rattle.cpl_stocks.specs.Partials.{in_rows, numbers_of_words}
use Rattle.cpl_stocks.proofs.words.read_rows.Given as goal

abbrev pub invariant-loop-i : goal.invariant-loop-i
invariant-loop-i g l = record {
  read : in_rows (take l.i l.rows) ≡ numbers_of_words (take (2 * g.row.N * l.i) l.words);
  numbers : AllWithin (λ row. length row ≡ g.row.N) l.rows 0 l.i;
}
