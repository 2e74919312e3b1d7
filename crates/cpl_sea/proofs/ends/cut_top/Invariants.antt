use Rattle.std.proofs.Common.{◌≡◌, ℕ, ◌*◌, ◌<◌, ◌≤◌, take}
use Rattle.std.specs.List.{flat_map, range_with_len}
use Rattle.cpl_transport.specs.Cuts.{cut_of, uncut}
use Rattle.cpl_state.specs.Cut.{to_ice_numbers}
use Rattle.cpl_sea.specs.Passes.{top_at}
use Rattle.cpl_sea.proofs.ends.cut_top.Given as goal

abbrev pub invariant-loop-n : goal.invariant-loop-n
invariant-loop-n l = record {
  top : (k : ℕ) → k < l.n → top_at l.water l.heat l.salt k ≡ uncut (top_at l.initial.water l.initial.heat l.initial.salt k);
  below : (k : ℕ) → l.n ≤ k → top_at l.water l.heat l.salt k ≡ top_at l.initial.water l.initial.heat l.initial.salt k;
  flights : take (5 * l.n) l.flights ≡ flat_map (λ n. to_ice_numbers (cut_of (top_at l.initial.water l.initial.heat l.initial.salt n))) (range_with_len 0 l.n);
}
