use Rattle.std.proofs.Common.{◌≡◌, ◌≢◌, ℕ, ◌<◌, ◌+◌, length, take}
use Rattle.cpl_fixed.specs.Amounts.{at}
use Rattle.cpl_fixed.specs.Shares.{share}
use Rattle.cpl_fixed.specs.Totals.{total_of}
use Rattle.cpl_fixed.specs.declared.limits.TheConstants.{PARTS}
use Rattle.cpl_fast.specs.Flows.{ArePortions}
use Rattle.cpl_fast.specs.Places.{IsEnd, place_in}
use Rattle.cpl_fast.proofs.tables.fill_row_areas.Given as goal

abbrev pub invariant-loop-k : goal.invariant-loop-k
invariant-loop-k l = record {
  portions : ArePortions l.portions;
  amount : l.portions.amount ≡ l.row_area;
  whole : l.portions.whole ≡ PARTS;
  from : l.portions.from ≡ total_of (take l.k l.parts);
  count : length l.areas ≡ length l.fn.areas;
  own : (j : ℕ) → j < l.k → at l.areas (place_in l.rows l.row j) ≡ share l.row_area (total_of (take j l.parts)) (total_of (take (j + 1) l.parts)) PARTS;
  others : (r j : ℕ) → r < l.rows → r ≢ l.row → at l.areas (place_in l.rows r j) ≡ at l.fn.areas (place_in l.rows r j);
  used : IsEnd l.areas l.rows l.k l.row l.used;
}
