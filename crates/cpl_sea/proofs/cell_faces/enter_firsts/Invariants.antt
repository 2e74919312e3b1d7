use Rattle.std.proofs.Common.{length, take}
use Rattle.cpl_sea.specs.Lists.{HasSides, by_firsts}
use Rattle.cpl_sea.proofs.cell_faces.enter_firsts.Given as goal

abbrev pub invariant-loop-f : goal.invariant-loop-f
invariant-loop-f l = HasSides l.cells (length l.fn.cells) (by_firsts (take l.f l.faces))
