use Rattle.cpl_ocean.proofs.Carried.{AreSouthsTo}
use Rattle.cpl_ocean.proofs.inner.south_flows.Given as goal

abbrev pub invariant-loop-i : goal.invariant-loop-i
invariant-loop-i l = AreSouthsTo l.basin l.slope l.fields l.j l.i l.souths
