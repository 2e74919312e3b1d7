use Rattle.std.proofs.Common.{◌≡◌, map, [], replicate}
use Rattle.cpl_strip.proofs.table.Table.new.Given as goal

abbrev pub invariant-loop-pair : goal.invariant-loop-pair
invariant-loop-pair g l = map (λ list. list.items) l.lists.items ≡ replicate l._pair []
