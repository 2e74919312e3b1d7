use Rattle.std.proofs.Common.{◌≡◌, ◌++◌}
use Rattle.std.specs.List.{flat_map, range_with_len}
use Rattle.cpl_wires.specs.Tables.{edge_if}
use Rattle.cpl_wires.proofs.edges.add_from.Given as goal

abbrev pub invariant-loop-k : goal.invariant-loop-k
invariant-loop-k l = l.edges.items ≡ l.initial.edges.items ++ flat_map (edge_if l.shared l.purpose l.from) (range_with_len l.first l.k)
