use Rattle.cpl_atmos.proofs.Divisors.{EastwardTo}
use Rattle.cpl_atmos.proofs.faces.eastward_faces.Given as goal

abbrev pub invariant-loop-n : goal.invariant-loop-n
invariant-loop-n l = EastwardTo l.area l.nx l.faces.items l.n
