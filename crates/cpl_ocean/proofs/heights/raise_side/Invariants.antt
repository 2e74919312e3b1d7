use Rattle.cpl_ocean.specs.Columns.{Fills, IsHoleBefore, height_at}
use Rattle.cpl_ocean.proofs.heights.raise_side.Given as goal

abbrev pub invariant-loop-at : goal.invariant-loop-at
invariant-loop-at l = Fills l.area (height_at l.area l.layers) (IsHoleBefore l.side 1 l.at) l.fn.heights l.heights
