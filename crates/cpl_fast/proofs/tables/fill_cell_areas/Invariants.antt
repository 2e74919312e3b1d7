use Rattle.std.proofs.Common.{◌≡◌, ◌≢◌, ℕ, ◌<◌, length}
use Rattle.cpl_fixed.specs.Amounts.{at}
use Rattle.cpl_fast.specs.Places.{IsEnd, place_in}
use Rattle.cpl_fast.specs.Tables.{area_over}
use Rattle.cpl_fast.proofs.tables.fill_cell_areas.Given as goal

abbrev pub invariant-loop-k : goal.invariant-loop-k
invariant-loop-k l = record {
  count : length l.sums ≡ length l.fn.sums;
  own : (j : ℕ) → j < l.k → at l.sums (place_in l.cells l.n j) ≡ area_over l.refs l.areas l.rows j;
  others : (m j : ℕ) → m < l.cells → m ≢ l.n → at l.sums (place_in l.cells m j) ≡ at l.fn.sums (place_in l.cells m j);
  used : IsEnd l.sums l.cells l.k l.n l.used;
}
