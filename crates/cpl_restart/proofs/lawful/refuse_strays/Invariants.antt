use Rattle.std.proofs.Common.{◌≡◌, ℕ, ◌<◌, false}
use Rattle.cpl_restart.specs.Lawful.{is_stray, spot_at}
use Rattle.cpl_state.specs.States.{cells_in}
use Rattle.cpl_restart.proofs.lawful.refuse_strays.Given as goal

abbrev pub invariant-loop-place : goal.invariant-loop-place
invariant-loop-place l = record {
  spot : l.spot ≡ spot_at l.width (cells_in l.mesh) l.place;
  before : (k : ℕ) → k < l.place → is_stray l.mesh l.width l.numbers k ≡ false;
}
