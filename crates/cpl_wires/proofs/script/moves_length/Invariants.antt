use Rattle.std.proofs.Common.{◌≡◌, ◌≤◌, ◌*◌, take}
use Rattle.cpl_wires.specs.Lengths.{moves_length}
use Rattle.cpl_wires.proofs.script.moves_length.Given as goal

abbrev pub invariant-loop-kind : goal.invariant-loop-kind
invariant-loop-kind l = record {
  count : l.count ≡ moves_length l.edges l.piece (take l.kind-index l.moves);
  few : l.count ≤ 37_120 * l.kind-index;
}
