use Rattle.std.proofs.Common.{◌≡◌, ℕ, ◌+◌, ◌<◌}
use Rattle.cpl_transport.specs.Salts.{without}
use Rattle.cpl_sea.specs.Before.{cell_at}
use Rattle.cpl_sea.specs.Passes.{cell_faces_at, out_of, salty_at}
use Rattle.cpl_sea.proofs.moving.leave_layer.Given as goal

abbrev pub invariant-loop-n : goal.invariant-loop-n
invariant-loop-n l = record {
  left : (k : ℕ) → k < l.n → salty_at l.rest (l.place + k) ≡ without (cell_at l.before (l.begin + k)) (out_of (salty_at l.flows) (cell_faces_at l.faces k));
  before : (spot : ℕ) → spot < l.place → salty_at l.rest spot ≡ salty_at l.initial.rest spot;
}
