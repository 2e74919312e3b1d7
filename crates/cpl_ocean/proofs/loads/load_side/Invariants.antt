use Rattle.cpl_field.specs.Spots.{number_at}
use Rattle.cpl_ocean.specs.Columns.{Fills, IsHoleBefore}
use Rattle.cpl_ocean.proofs.loads.load_side.Given as goal

abbrev pub invariant-loop-at : goal.invariant-loop-at
invariant-loop-at l = Fills l.from (number_at l.from) (IsHoleBefore l.side l.depth l.at) l.fn.to l.to
