use Rattle.std.proofs.Common.{◌≡◌, map, take}
use Rattle.cpl_wires.specs.Tables.{strip_key}
use Rattle.cpl_wires.proofs.pairs.strip_keys.Given as goal

abbrev pub invariant-loop-strip : goal.invariant-loop-strip
invariant-loop-strip l = l.keys.items ≡ map strip_key (take l.strip-index l.strips)
