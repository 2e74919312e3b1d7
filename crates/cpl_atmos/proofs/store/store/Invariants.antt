use Rattle.cpl_atmos.proofs.Finished.{StoredTo}
use Rattle.cpl_atmos.proofs.store.store.Given as goal

abbrev pub invariant-loop-j : goal.invariant-loop-j
invariant-loop-j l = StoredTo l.areas.nx l.values l.j l.fn.x l.x
