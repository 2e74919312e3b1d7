use Rattle.std.proofs.Common.{◌≡◌, take}
use Rattle.std.specs.List.{flat_map}
use Rattle.cpl_wires.specs.Edges.{edges_for}
use Rattle.cpl_wires.specs.Purposes.{purposes}
use Rattle.cpl_wires.proofs.edges.edges_of.Given as goal

abbrev pub invariant-loop-purpose : goal.invariant-loop-purpose
invariant-loop-purpose l = l.edges.items ≡ flat_map (edges_for l.shared) (take l.purpose-index purposes)
