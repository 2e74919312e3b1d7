use Rattle.std.proofs.Common.{length, take}
use Rattle.cpl_sea.specs.Lists.{HasSides, by_both}
use Rattle.cpl_sea.proofs.cell_faces.enter_seconds.Given as goal

abbrev pub invariant-loop-f : goal.invariant-loop-f
invariant-loop-f l = HasSides l.cells (length l.fn.cells) (by_both l.faces (take l.f l.faces))
