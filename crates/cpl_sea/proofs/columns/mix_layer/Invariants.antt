use Rattle.std.proofs.Common.{◌≡◌, ℕ, ◌+◌, ◌<◌, ◌≤◌}
use Rattle.cpl_fixed.specs.Amounts.{at}
use Rattle.cpl_transport.specs.Cells.{mixed_cell}
use Rattle.cpl_sea.specs.Passes.{column_at}
use Rattle.cpl_sea.proofs.columns.mix_layer.Given as goal

abbrev pub invariant-loop-n : goal.invariant-loop-n
invariant-loop-n l = record {
  water : (k : ℕ) → k < l.n → at l.water (l.begin + k) ≡ (mixed_cell l.mix l.layers (column_at l.width l.rest k) l.layer).water;
  heat : (k : ℕ) → k < l.n → at l.heat (l.begin + k) ≡ (mixed_cell l.mix l.layers (column_at l.width l.rest k) l.layer).heat;
  salt : (k : ℕ) → k < l.n → at l.salt (l.begin + k) ≡ (mixed_cell l.mix l.layers (column_at l.width l.rest k) l.layer).salt;
  water_before : (place : ℕ) → place < l.begin → at l.water place ≡ at l.initial.water place;
  heat_before : (place : ℕ) → place < l.begin → at l.heat place ≡ at l.initial.heat place;
  salt_before : (place : ℕ) → place < l.begin → at l.salt place ≡ at l.initial.salt place;
  water_behind : (place : ℕ) → l.begin + l.n ≤ place → at l.water place ≡ at l.initial.water place;
  heat_behind : (place : ℕ) → l.begin + l.n ≤ place → at l.heat place ≡ at l.initial.heat place;
  salt_behind : (place : ℕ) → l.begin + l.n ≤ place → at l.salt place ≡ at l.initial.salt place;
}
