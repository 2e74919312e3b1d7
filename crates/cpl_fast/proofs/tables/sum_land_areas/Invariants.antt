use Rattle.std.proofs.Common.{◌≡◌, ℕ, ◌<◌, length}
use Rattle.cpl_fixed.specs.Amounts.{at}
use Rattle.cpl_xgrid.specs.declared.parts.Surface.TheVariants.{Land}
use Rattle.cpl_fast.specs.Tables.{area_over, cells_on}
use Rattle.cpl_fast.proofs.tables.sum_land_areas.Given as goal

abbrev pub invariant-loop-n : goal.invariant-loop-n
invariant-loop-n l = record {
  count : length l.sums ≡ length l.fn.sums;
  done : (n : ℕ) → n < l.n → at l.sums n ≡ area_over (cells_on l.xgrid Land n) l.areas (length l.xgrid.land_rows) 0;
}
