use Rattle.cpl_mosaic.proofs.Twice.{Joined}
use Rattle.cpl_mosaic.proofs.table.join_all.Given as goal

abbrev pub invariant-loop-n : goal.invariant-loop-n
invariant-loop-n l = Joined l.tiles l.contacts l.n l.table
