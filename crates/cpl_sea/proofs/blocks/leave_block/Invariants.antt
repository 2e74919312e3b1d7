use Rattle.std.proofs.Common.{◌≡◌, ℕ, ◌+◌, ◌*◌, ◌<◌}
use Rattle.cpl_sea.specs.Before.{face_place, left_by}
use Rattle.cpl_sea.specs.Passes.{salty_at}
use Rattle.cpl_sea.proofs.blocks.leave_block.Given as goal

abbrev pub invariant-loop-layer : goal.invariant-loop-layer
invariant-loop-layer l = (k n : ℕ) → k < l.layer → n < l.block.width
    → salty_at l.rest (k * l.block.width + n) ≡ left_by l.before (λ f. salty_at l.flows (face_place l.before k f)) k (l.block.from + n)
