use Rattle.cpl_divided.proofs.Built.{IsBuilt}
use Rattle.cpl_divided.proofs.Parts.{IsEnd}
use Rattle.cpl_divided.proofs.halos.ends_of.Given as goal

abbrev pub invariant-loop-strip : goal.invariant-loop-strip
invariant-loop-strip l = IsBuilt (IsEnd l.strips) (0, 0) l.strip-index l.ends.items
