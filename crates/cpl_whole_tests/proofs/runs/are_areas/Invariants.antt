use Rattle.std.proofs.Common.{ℕ, ◌<◌, get_or}
use Rattle.std.specs.Prelude.{ℤ}
use Rattle.cpl_state.specs.Diffusion.{IsAirArea}
use Rattle.cpl_whole_tests.proofs.runs.are_areas.Given as goal

abbrev pub invariant-loop-a : goal.invariant-loop-a
invariant-loop-a l = (k : ℕ) (d : ℤ) → k < l.a-index → IsAirArea (get_or l.area k d)
