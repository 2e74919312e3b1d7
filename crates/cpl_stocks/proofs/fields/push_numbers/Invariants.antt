use Rattle.std.proofs.Common.{map, take}
use Rattle.std.specs.Fmt.{signed_decimal}
use Rattle.cpl_stocks.specs.Lines.{Adds}
use Rattle.cpl_stocks.proofs.fields.push_numbers.Given as goal

abbrev pub invariant-loop-number : goal.invariant-loop-number
invariant-loop-number l = Adds l.initial.line l.line (map (λ number. signed_decimal number.now) (take l.number-index l.numbers))
