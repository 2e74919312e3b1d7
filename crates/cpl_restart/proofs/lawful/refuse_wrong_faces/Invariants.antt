use Rattle.std.proofs.Common.{◌≡◌, ℕ, ◌<◌, false, length}
use Rattle.cpl_restart.specs.Lawful.{is_wrong_at, spot_at}
use Rattle.cpl_restart.proofs.lawful.refuse_wrong_faces.Given as goal

abbrev pub invariant-loop-place : goal.invariant-loop-place
invariant-loop-place l = record {
  spot : l.spot ≡ spot_at 1 (length l.faces) l.place;
  before : (k : ℕ) → k < l.place → is_wrong_at l.ocean l.faces l.numbers k ≡ false;
}
