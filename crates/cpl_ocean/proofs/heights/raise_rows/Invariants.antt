use Rattle.cpl_ocean.specs.Columns.{Fills, IsCellBelow, height_at}
use Rattle.cpl_ocean.proofs.heights.raise_rows.Given as goal

abbrev pub invariant-loop-j : goal.invariant-loop-j
invariant-loop-j l = Fills l.area (height_at l.area l.layers) (IsCellBelow l.j) l.fn.heights l.heights
