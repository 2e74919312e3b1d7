use Rattle.std.proofs.Common.{◌≡◌, map, take}
use Rattle.cpl_wires.specs.Tables.{face_strip_key}
use Rattle.cpl_wires.proofs.pairs.face_strip_keys.Given as goal

abbrev pub invariant-loop-strip : goal.invariant-loop-strip
invariant-loop-strip l = l.keys.items ≡ map face_strip_key (take l.strip-index l.strips)
