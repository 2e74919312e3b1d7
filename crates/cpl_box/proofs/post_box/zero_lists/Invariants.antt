use Rattle.std.proofs.Common.{◌≡◌, take}
use Rattle.cpl_box.specs.Passes.{lens_of, lens_in}
use Rattle.cpl_box.proofs.post_box.zero_lists.Given as goal

abbrev pub invariant-loop-edge : goal.invariant-loop-edge
invariant-loop-edge g l = lens_in l.lists.items ≡ take l.edge (lens_of (g.W.Wiring.wires l.wiring))
