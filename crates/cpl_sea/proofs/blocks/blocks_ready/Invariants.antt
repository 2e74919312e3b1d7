use Rattle.std.proofs.Common.{◌≡◌, ◌-◌, ◌+◌, ◌*◌, ◌<◌, ◌≤◌, ℕ, length, slice_index_or}
use Rattle.std.specs.Prelude.{All}
use Rattle.cpl_sea.specs.declared.blocks.TheConstants.{BLOCK}
use Rattle.cpl_sea.specs.Passes.{AreSidesWithin, cell_faces_at}
use Rattle.cpl_sea.proofs.blocks.blocks_ready.Given as goal

abbrev pub invariant-loop-from : goal.invariant-loop-from
invariant-loop-from l = record {
  cells : l.from ≤ length l.cell_faces;
  blocks : l.from ≤ length l.ready.items * BLOCK;
  whole : l.from < length l.cell_faces → l.from ≡ length l.ready.items * BLOCK;
  sides : (b k : ℕ) → k < BLOCK → b * BLOCK + k < l.from → AreSidesWithin (slice_index_or l.ready.items b 0) (cell_faces_at l.cell_faces (b * BLOCK + k));
  order : (b c : ℕ) → b < c → c < length l.ready.items → slice_index_or l.ready.items b 0 ≤ slice_index_or l.ready.items c 0;
  most : (b : ℕ) → b < length l.ready.items → slice_index_or l.ready.items b 0 ≤ l.done;
  least : (faces : ℕ) → All (AreSidesWithin faces) l.cell_faces → l.done ≤ faces;
}

abbrev pub decreases-loop-from : goal.decreases-loop-from
decreases-loop-from l = length l.cell_faces - l.from
