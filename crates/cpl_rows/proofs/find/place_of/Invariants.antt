use Rattle.std.proofs.Common.{◌≡◌, ℕ, ◌<◌, length, get_or}
use Rattle.cpl_rows.specs.Rows.{items_on}
use Rattle.cpl_rows.proofs.find.place_of.Given as goal

abbrev pub invariant-loop-edge : goal.invariant-loop-edge
invariant-loop-edge l = (s k : ℕ) → s < l.edge → k < length (items_on l.exchanges (get_or l.edges s 0)) → get_or (items_on l.exchanges (get_or l.edges s 0)) k 0 ≡ l.item → ⊥
