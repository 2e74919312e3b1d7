use Rattle.cpl_ocean.specs.Columns.{Fills, IsCellBefore, height_at}
use Rattle.cpl_ocean.proofs.heights.raise_row.Given as goal

abbrev pub invariant-loop-i : goal.invariant-loop-i
invariant-loop-i l = Fills l.area (height_at l.area l.layers) (IsCellBefore l.i l.j) l.fn.heights l.heights
