use Rattle.cpl_atmos.proofs.Divisors.{NorthwardTo}
use Rattle.cpl_atmos.proofs.faces.northward_faces.Given as goal

abbrev pub invariant-loop-n : goal.invariant-loop-n
invariant-loop-n l = NorthwardTo l.area l.nx l.faces.items l.n
