use Rattle.std.proofs.Common.{◌≡◌, ◌*◌, take}
use Rattle.cpl_stocks.specs.Partials.{words_of_numbers}
use Rattle.cpl_stocks.proofs.words.write_numbers.Given as goal

abbrev pub invariant-loop-i : goal.invariant-loop-i
invariant-loop-i l = take (2 * l.i) l.words ≡ words_of_numbers (take l.i l.numbers)
