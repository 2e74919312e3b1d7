use Rattle.std.proofs.Common.{◌≡◌, ℕ, ◌<◌, length}
use Rattle.cpl_fixed.specs.Amounts.{at}
use Rattle.cpl_xgrid.specs.declared.parts.Surface.TheVariants.{Ocean}
use Rattle.cpl_fast.specs.Places.{IsEnd, place_in, used_at}
use Rattle.cpl_fast.specs.Tables.{area_over, cells_on}
use Rattle.cpl_fast.proofs.tables.sum_ocean_areas.Given as goal

abbrev pub invariant-loop-n : goal.invariant-loop-n
invariant-loop-n l = record {
  count : length l.sums ≡ length l.fn.sums;
  used_count : length l.used ≡ l.cells;
  done : (n k : ℕ) → n < l.n → k < l.width → at l.sums (place_in l.cells n k) ≡ area_over (cells_on l.xgrid Ocean n) l.areas (length l.xgrid.ocean_rows) k;
  ends : (n : ℕ) → n < l.n → IsEnd l.sums l.cells l.width n (used_at l.used n);
}
