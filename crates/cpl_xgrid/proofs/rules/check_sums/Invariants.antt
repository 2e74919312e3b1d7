use Rattle.cpl_xgrid.specs.Indexes.{group_fault}
use Rattle.cpl_xgrid.proofs.Faults.{JudgedTo}
use Rattle.cpl_xgrid.proofs.rules.check_sums.Given as goal

abbrev pub invariant-loop-n : goal.invariant-loop-n
invariant-loop-n l = JudgedTo (group_fault l.of l.land_rows l.ocean_rows l.groups) l.areas l.n
