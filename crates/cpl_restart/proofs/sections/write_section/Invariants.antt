use Rattle.std.proofs.Common.{◌≡◌, ◌++◌, length, pos, take}
use Rattle.std.specs.List.{flat_map}
use Rattle.cpl_restart.specs.Numbers.{number_bytes}
use Rattle.cpl_restart.proofs.sections.write_section.Given as goal

abbrev pub invariant-loop-number : goal.invariant-loop-number
invariant-loop-number l = l.out.items ≡ (l.fn.out.items ++ number_bytes (pos (length l.numbers))) ++ flat_map number_bytes (take l.number-index l.numbers)
