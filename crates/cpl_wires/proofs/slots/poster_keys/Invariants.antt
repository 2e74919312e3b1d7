use Rattle.std.proofs.Common.{◌≡◌, map, take}
use Rattle.cpl_wires.specs.Tables.{poster_key}
use Rattle.cpl_wires.proofs.slots.poster_keys.Given as goal

abbrev pub invariant-loop-edge : goal.invariant-loop-edge
invariant-loop-edge l = l.keys.items ≡ map poster_key (take l.edge-index l.list)
