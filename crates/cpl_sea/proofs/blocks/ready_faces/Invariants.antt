use Rattle.std.proofs.Common.{ℕ, ◌<◌, ◌≤◌}
use Rattle.std.specs.Prelude.{All}
use Rattle.cpl_sea.specs.Passes.{AreSidesWithin, cell_faces_at}
use Rattle.cpl_sea.proofs.blocks.ready_faces.Given as goal

abbrev pub invariant-loop-n : goal.invariant-loop-n
invariant-loop-n l = record {
  done : l.done ≤ l.ready;
  within : (k : ℕ) → k < l.n → AreSidesWithin l.ready (cell_faces_at l.faces k);
  least : (most : ℕ) → l.done ≤ most → All (AreSidesWithin most) l.faces → l.ready ≤ most;
}
