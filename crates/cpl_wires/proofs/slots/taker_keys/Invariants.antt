use Rattle.std.proofs.Common.{◌≡◌, map, take}
use Rattle.cpl_wires.specs.Tables.{taker_key}
use Rattle.cpl_wires.proofs.slots.taker_keys.Given as goal

abbrev pub invariant-loop-edge : goal.invariant-loop-edge
invariant-loop-edge l = l.keys.items ≡ map taker_key (take l.edge-index l.list)
