use Rattle.std.proofs.Common.{◌≡◌, ◌+◌, take}
use Rattle.cpl_wires.specs.Lengths.{moves_length}
use Rattle.cpl_wires.proofs.script.stop_among.Given as goal

abbrev pub invariant-loop-kind : goal.invariant-loop-kind
invariant-loop-kind l = l.rest + moves_length l.edges l.piece (take l.kind-index l.moves) ≡ l.m
