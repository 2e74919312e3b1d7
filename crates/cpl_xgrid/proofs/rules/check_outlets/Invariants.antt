use Rattle.cpl_xgrid.specs.Rules.{outlet_fault}
use Rattle.cpl_xgrid.proofs.Faults.{JudgedTo}
use Rattle.cpl_xgrid.proofs.rules.check_outlets.Given as goal

abbrev pub invariant-loop-n : goal.invariant-loop-n
invariant-loop-n l = JudgedTo (outlet_fault l.land l.ocean) l.outlets l.n
