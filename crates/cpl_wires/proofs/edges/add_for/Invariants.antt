use Rattle.std.proofs.Common.{◌≡◌, ◌++◌}
use Rattle.std.specs.List.{flat_map, range_with_len}
use Rattle.cpl_wires.specs.Edges.{edges_from}
use Rattle.cpl_wires.proofs.edges.add_for.Given as goal

abbrev pub invariant-loop-k : goal.invariant-loop-k
invariant-loop-k l = l.edges.items ≡ l.initial.edges.items ++ flat_map (edges_from l.shared l.purpose) (range_with_len l.first l.k)
