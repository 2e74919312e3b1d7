-- No cell so far has an area.
use Rattle.std.proofs.Common.{◌≡◌, ◌≤◌, ◌<◌, ℕ, false}
use Rattle.cpl_made_grid.specs.Outlets.{is_wet}
use Rattle.cpl_made_grid.proofs.outlets.wet_from.Given as goal

abbrev pub invariant-loop-n : goal.invariant-loop-n
invariant-loop-n l = (k : ℕ) → l.start ≤ k → k < l.n → is_wet l.areas k ≡ false
