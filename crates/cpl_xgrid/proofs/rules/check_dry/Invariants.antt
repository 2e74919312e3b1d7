use Rattle.cpl_xgrid.specs.Indexes.{dry_fault}
use Rattle.cpl_xgrid.proofs.Faults.{JudgedTo}
use Rattle.cpl_xgrid.proofs.rules.check_dry.Given as goal

abbrev pub invariant-loop-n : goal.invariant-loop-n
invariant-loop-n l = JudgedTo (dry_fault l.groups) l.areas l.n
