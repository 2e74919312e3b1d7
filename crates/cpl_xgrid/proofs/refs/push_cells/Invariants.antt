use Rattle.std.proofs.Common.{◌≡◌, ◌++◌, take, map}
use Rattle.cpl_xgrid.specs.Rows.{air_cell}
use Rattle.cpl_xgrid.proofs.refs.push_cells.Given as goal

abbrev pub invariant-loop-row : goal.invariant-loop-row
invariant-loop-row l = l.cells.items ≡ l.initial.cells.items ++ map air_cell (take l.row-index l.rows)
