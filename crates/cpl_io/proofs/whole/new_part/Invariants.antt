use Rattle.std.proofs.Common.{IsTrue, ℕ, List}
use Rattle.cpl_io.specs.Whole.{Untouched}
use Rattle.cpl_io.proofs.whole.new_part.Given as goal

abbrev pub invariant-loop-number : goal.invariant-loop-number
invariant-loop-number g l =
    let d = g.D.Disk in
    IsTrue d.told → (other : List ℕ) → Untouched d.place d.since l.fn.disk l.disk other
