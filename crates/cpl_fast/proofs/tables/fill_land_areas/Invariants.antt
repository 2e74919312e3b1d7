use Rattle.std.proofs.Common.{◌≡◌, ℕ, ◌<◌, length}
use Rattle.cpl_fixed.specs.Amounts.{at}
use Rattle.cpl_fast.specs.Places.{used_at}
use Rattle.cpl_fast.specs.Tables.{row_in}
use Rattle.cpl_fast.proofs.tables.fill_land_areas.Given as goal

abbrev pub invariant-loop-m : goal.invariant-loop-m
invariant-loop-m l = record {
  count : length l.areas ≡ length l.fn.areas;
  used_count : length l.used ≡ length l.rows;
  value : (k : ℕ) → k < l.m → at l.areas k ≡ (row_in l.rows k).area;
  used : (k : ℕ) → k < l.m → used_at l.used k ≡ 1;
}
