use Rattle.std.proofs.Common.{◌≡◌, ◌++◌, ◌-◌, take}
use Rattle.std.specs.List.{flat_map}
use Rattle.cpl_restart.specs.Numbers.{section_bytes}
use Rattle.cpl_restart.specs.RestartBytes.{sections_of}
use Rattle.cpl_combine.specs.Cuts.{all_gathered}
use Rattle.cpl_combine.specs.Lists.{lists_of}
use Rattle.cpl_combine.specs.Places.{of_component, sections_before}
use Rattle.cpl_combine.proofs.cutting.write_parts.Given as goal

abbrev pub invariant-loop-k : goal.invariant-loop-k
invariant-loop-k l = l.out.items ≡ l.fn.out.items ++ flat_map section_bytes (take (l.k - sections_before l.fn.component) (all_gathered (of_component l.fn.component (sections_of l.whole)) (of_component l.fn.component (lists_of l.places))))
