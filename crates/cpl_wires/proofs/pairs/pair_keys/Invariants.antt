use Rattle.std.proofs.Common.{◌≡◌, map, take}
use Rattle.cpl_wires.specs.Tables.{pair_key}
use Rattle.cpl_wires.proofs.pairs.pair_keys.Given as goal

abbrev pub invariant-loop-pair : goal.invariant-loop-pair
invariant-loop-pair l = l.keys.items ≡ map (pair_key l.one l.other) (take l.pair-index l.pairs)
