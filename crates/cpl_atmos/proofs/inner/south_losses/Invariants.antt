use Rattle.cpl_atmos.proofs.Carried.{AreSouthsTo}
use Rattle.cpl_atmos.proofs.inner.south_losses.Given as goal

abbrev pub invariant-loop-i : goal.invariant-loop-i
invariant-loop-i l = AreSouthsTo l.areas l.x l.j l.i l.souths
