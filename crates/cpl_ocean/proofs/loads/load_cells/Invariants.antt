use Rattle.cpl_field.specs.Spots.{number_at}
use Rattle.cpl_ocean.specs.Columns.{Fills, IsCellBelow}
use Rattle.cpl_ocean.proofs.loads.load_cells.Given as goal

abbrev pub invariant-loop-j : goal.invariant-loop-j
invariant-loop-j l = Fills l.from (number_at l.from) (IsCellBelow l.j) l.fn.to l.to
