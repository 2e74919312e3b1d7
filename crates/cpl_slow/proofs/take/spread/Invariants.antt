use Rattle.std.proofs.Common.{◌≡◌, ℕ, ◌<◌, ◌*◌}
use Rattle.std.specs.Prelude.{pos}
use Rattle.cpl_fixed.specs.Amounts.{at}
use Rattle.cpl_state.specs.States.{of_cell}
use Rattle.cpl_slow.specs.Blocks.{IsPartWay}
use Rattle.cpl_slow.proofs.take.spread.Given as goal

-- the cells so far have their numbers, and nothing flies to them any more
abbrev pub invariant-loop-n : goal.invariant-loop-n
invariant-loop-n l = record {
  flights : IsPartWay (l.n * 5) (λ i. pos 0) l.initial.flights l.flights;
  frazil_water : (k : ℕ) → k < l.n → at l.frazil_water k ≡ of_cell 5 k 0 l.initial.flights;
  frazil_heat : (k : ℕ) → k < l.n → at l.frazil_heat k ≡ of_cell 5 k 1 l.initial.flights;
  skin_water : (k : ℕ) → k < l.n → at l.skin_water k ≡ of_cell 5 k 2 l.initial.flights;
  skin_heat : (k : ℕ) → k < l.n → at l.skin_heat k ≡ of_cell 5 k 3 l.initial.flights;
  skin_salt : (k : ℕ) → k < l.n → at l.skin_salt k ≡ of_cell 5 k 4 l.initial.flights;
}
