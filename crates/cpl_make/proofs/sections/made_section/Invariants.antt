use Rattle.std.proofs.Common.{◌≡◌, map, length}
use Rattle.std.specs.List.{range_with_len}
use Rattle.cpl_make.specs.Sections.{number_at}
use Rattle.cpl_make.proofs.sections.made_section.Given as goal

abbrev pub invariant-loop-place : goal.invariant-loop-place
invariant-loop-place l = (l.cells ≡ length l.areas) × (l.numbers.items ≡ map (number_at l.number l.section l.areas) (range_with_len 0 l.place))
