use Rattle.std.proofs.Common.{◌≡◌, ℕ, ◌<◌, length, map, [], get_or}
use Rattle.cpl_core.specs.Wires.{len_of}
use Rattle.cpl_core.proofs.plain.PlainBoxes.new.Given as goal

abbrev pub invariant-loop-edge : goal.invariant-loop-edge
invariant-loop-edge g l = record {
  len : length l.lists.items ≡ l.edge;
  lens : (edge : ℕ) → edge < l.edge → length (get_or (map (λ list. list.items) l.lists.items) edge []) ≡ len_of (g.W.Wiring.wires l.wiring) edge;
}
