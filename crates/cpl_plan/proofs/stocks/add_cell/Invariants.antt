use Rattle.cpl_plan.proofs.Places.{AreAddedTo}
use Rattle.cpl_plan.proofs.stocks.add_cell.Given as goal

-- the numbers of the places so far are added
abbrev pub invariant-loop-k : goal.invariant-loop-k
invariant-loop-k g l = AreAddedTo g.row.N l.n l.k l.amounts l.initial.sums l.sums
