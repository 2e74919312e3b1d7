use Rattle.std.proofs.Common.{◌≡◌, ◌-◌, replicate}
use Rattle.cpl_lines.specs.Reading.{fields_at}
use Rattle.cpl_mkx.specs.BoxFormat.{flag}
use Rattle.cpl_mkx.specs.Readers.{digits_added}
use Rattle.cpl_mkx.proofs.digits.push_digits.Given as goal

abbrev pub invariant-loop : goal.invariant-loop
invariant-loop l =
    digits_added l.list.items (fields_at (replicate (l.count - l.counter) flag) l.rest)
    ≡ digits_added l.fn.list.items (fields_at (replicate l.count flag) l.bytes)
