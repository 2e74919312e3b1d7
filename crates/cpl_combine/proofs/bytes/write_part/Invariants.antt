use Rattle.std.proofs.Common.{◌≡◌, ◌++◌, length, pos, take}
use Rattle.std.specs.List.{flat_map}
use Rattle.cpl_restart.specs.Numbers.{number_bytes}
use Rattle.cpl_combine.specs.Cuts.{gathered}
use Rattle.cpl_combine.proofs.bytes.write_part.Given as goal

abbrev pub invariant-loop-place : goal.invariant-loop-place
invariant-loop-place l = l.out.items ≡ (l.fn.out.items ++ number_bytes (pos (length l.places))) ++ flat_map number_bytes (gathered l.numbers (take l.place-index l.places))
