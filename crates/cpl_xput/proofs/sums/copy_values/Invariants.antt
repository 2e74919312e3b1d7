use Rattle.std.proofs.Common.{◌≡◌, take}
use Rattle.cpl_xput.specs.Sums.{copied}
use Rattle.cpl_xput.proofs.sums.copy_values.Given as goal

abbrev pub invariant-loop-k : goal.invariant-loop-k
invariant-loop-k l = take l.k l.to ≡ copied (take l.k l.places) l.values
