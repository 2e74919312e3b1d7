-- Judging a grid whose lines are read.
use Rattle.std.proofs.Common.{◌≡◌, ap, ℕ, List, Ok}
use Rattle.cpl_fixed.specs.Results.{Fails}
use Rattle.cpl_lines.specs.declared.fault.LinesError.{LinesError}
use Rattle.cpl_lines.specs.declared.fault.LinesError.TheVariants as lines
use Rattle.cpl_lines.specs.Steps.{is_out_of_memory}
use Rattle.cpl_gridfile.specs.GridFormat.{Parts}
use Rattle.cpl_gridfile.specs.Faults.{of_lines, is_memory}
use Rattle.cpl_gridfile.specs.Grids.{Kind, judged, judged_parts, parts_in, grid_in}

module _ {Grid : Type 0} (kind : Kind Grid) (bytes : List ℕ) where
  -- the fault of the lines is that of the grid
  pub lines_fail : (fault : LinesError) → Fails is_out_of_memory fault (parts_in kind.kind bytes) → Fails is_memory (of_lines fault) (grid_in kind bytes)
  lines_fail (lines.Syntax number) e = ap (judged_parts kind) e
  lines_fail (lines.Limit number) e = ap (judged_parts kind) e
  lines_fail lines.Memory e = tt

  -- what the rules say of the parts that were read is the answer
  pub parts_judged : (parts : Parts) → parts_in kind.kind bytes ≡ Ok parts → grid_in kind bytes ≡ judged (kind.broken_rule (kind.of_parts parts)) (kind.of_parts parts)
  parts_judged parts e = ap (judged_parts kind) e
