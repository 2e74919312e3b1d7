use Rattle.std.proofs.Common.{◌≡◌, ℕ, ◌<◌, ◌+◌, length, take}
use Rattle.cpl_fixed.specs.Amounts.{at}
use Rattle.cpl_fixed.specs.Shares.{share}
use Rattle.cpl_fixed.specs.Totals.{total_of}
use Rattle.cpl_fixed.specs.declared.limits.TheConstants.{PARTS}
use Rattle.cpl_fast.specs.Places.{IsEnd, place_in, used_at}
use Rattle.cpl_fast.specs.Tables.{parts_of, row_in}
use Rattle.cpl_fast.proofs.tables.fill_ocean_areas.Given as goal

abbrev pub invariant-loop-m : goal.invariant-loop-m
invariant-loop-m l = record {
  count : length l.areas ≡ length l.fn.areas;
  used_count : length l.used ≡ length l.rows;
  done : (m k : ℕ) → m < l.m → k < l.width
      → at l.areas (place_in (length l.rows) m k) ≡ share (row_in l.rows m).area (total_of (take k (parts_of l.links l.parts l.width m))) (total_of (take (k + 1) (parts_of l.links l.parts l.width m))) PARTS;
  ends : (m : ℕ) → m < l.m → IsEnd l.areas (length l.rows) l.width m (used_at l.used m);
}
