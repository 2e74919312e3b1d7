use Rattle.std.proofs.Common.{◌≡◌, map, length}
use Rattle.std.specs.List.{range_with_len}
use Rattle.cpl_make.specs.Sections.{part_at}
use Rattle.cpl_make.proofs.sections.made_parts.Given as goal

abbrev pub invariant-loop-place : goal.invariant-loop-place
invariant-loop-place l = (l.cells ≡ length l.areas) × (l.parts.items ≡ map (part_at l.width l.areas) (range_with_len 0 l.place))
