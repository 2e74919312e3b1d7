use Rattle.std.proofs.Common.{◌≡◌, ℕ, ◌<◌}
use Rattle.cpl_state.specs.Diffusion.{at}
use Rattle.cpl_diffusion.specs.Steps.{flow_next, left_in}
use Rattle.cpl_diffusion.proofs.sweep.step.Given as goal

abbrev pub invariant-loop-n : goal.invariant-loop-n
invariant-loop-n l = record {
  eastward : (k : ℕ) → k < l.n → at l.eastward k ≡ flow_next l.area l.before l.east k;
  northward : (k : ℕ) → k < l.n → at l.northward k ≡ flow_next l.area l.before l.north k;
  after : (k : ℕ) → k < l.n → at l.after k ≡ left_in l.area l.before l.east l.north k;
}
