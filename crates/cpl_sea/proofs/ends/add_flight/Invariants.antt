use Rattle.std.proofs.Common.{◌≡◌, ℕ, ◌+◌, ◌*◌, ◌<◌, ◌≤◌}
use Rattle.std.specs.Prelude.{◌+ℤ◌}
use Rattle.cpl_fixed.specs.Amounts.{at}
use Rattle.cpl_sea.proofs.ends.add_flight.Given as goal

abbrev pub invariant-loop-n : goal.invariant-loop-n
invariant-loop-n l = record {
  water : (j : ℕ) → j < l.n → at l.water j ≡ at l.initial.water j +ℤ at l.flight (3 * j);
  heat : (j : ℕ) → j < l.n → at l.heat j ≡ at l.initial.heat j +ℤ at l.flight (3 * j + 1);
  salt : (j : ℕ) → j < l.n → at l.salt j ≡ at l.initial.salt j +ℤ at l.flight (3 * j + 2);
  water_below : (place : ℕ) → l.n ≤ place → at l.water place ≡ at l.initial.water place;
  heat_below : (place : ℕ) → l.n ≤ place → at l.heat place ≡ at l.initial.heat place;
  salt_below : (place : ℕ) → l.n ≤ place → at l.salt place ≡ at l.initial.salt place;
}
