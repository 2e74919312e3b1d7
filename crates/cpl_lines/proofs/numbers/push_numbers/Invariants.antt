use Rattle.std.proofs.Common.{◌≡◌, ◌-◌, true, replicate}
use Rattle.cpl_lines.specs.Fields.{AnyNumber}
use Rattle.cpl_lines.specs.Reading.{fields_at}
use Rattle.cpl_lines.specs.Steps.{numbers_added}
use Rattle.cpl_lines.proofs.numbers.push_numbers.Given as goal

abbrev pub invariant-loop : goal.invariant-loop
invariant-loop l =
    numbers_added l.most l.keeps l.list.items (fields_at (replicate (l.count - l.counter) AnyNumber) l.rest)
    ≡ numbers_added l.most true l.fn.list.items (fields_at (replicate l.count AnyNumber) l.bytes)
