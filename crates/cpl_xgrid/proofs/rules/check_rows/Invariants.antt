use Rattle.cpl_xgrid.specs.Rules.{row_fault, tiles_of}
use Rattle.cpl_xgrid.proofs.Faults.{JudgedTo}
use Rattle.cpl_xgrid.proofs.rules.check_rows.Given as goal

abbrev pub invariant-loop-n : goal.invariant-loop-n
invariant-loop-n l = JudgedTo (row_fault l.list (tiles_of l.air) (tiles_of l.other)) l.rows l.n
