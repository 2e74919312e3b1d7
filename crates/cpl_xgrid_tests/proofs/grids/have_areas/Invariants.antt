use Rattle.std.proofs.Common.{ℕ, ◌<◌, get_or}
use Rattle.cpl_xgrid.specs.declared.parts.XRow.{XRow}
use Rattle.cpl_xgrid.specs.Lists.{IsArea}
use Rattle.cpl_xgrid_tests.proofs.grids.have_areas.Given as goal

abbrev pub invariant-loop-row : goal.invariant-loop-row
invariant-loop-row l = (k : ℕ) (d : XRow) → k < l.row-index → IsArea (get_or l.rows k d).area
