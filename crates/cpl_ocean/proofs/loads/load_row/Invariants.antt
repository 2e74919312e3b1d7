use Rattle.cpl_field.specs.Spots.{number_at}
use Rattle.cpl_ocean.specs.Columns.{Fills, IsCellBefore}
use Rattle.cpl_ocean.proofs.loads.load_row.Given as goal

abbrev pub invariant-loop-i : goal.invariant-loop-i
invariant-loop-i l = Fills l.from (number_at l.from) (IsCellBefore l.i l.j) l.fn.to l.to
