use Rattle.std.proofs.Common.{◌≡◌, take, map}
use Rattle.cpl_wires.specs.Edges.{length_of}
use Rattle.cpl_wires.proofs.edges.lens_of.Given as goal

abbrev pub invariant-loop-edge : goal.invariant-loop-edge
invariant-loop-edge l = l.lens.items ≡ map (length_of l.shared) (take l.edge-index l.list)
