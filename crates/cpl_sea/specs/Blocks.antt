-- Blocks of cells, and how many faces have to move before each.
use Rattle.std.specs.Prelude.{ℕ, ◌+◌, ◌*◌, ◌<◌, ◌≤◌, List, length, slice_index_or}
use Rattle.cpl_sea.specs.declared.links.CellFaces.{CellFaces}
use Rattle.cpl_sea.specs.declared.blocks.TheConstants.{BLOCK}
use Rattle.cpl_sea.specs.Passes.{AreSidesWithin, cell_faces_at}

-- For each block of cells, how many faces have to move before what its cells see is known: never fewer than for the blocks before
-- it, and no more than there are.
pub record AreReady (faces : ℕ) (cell_faces : List CellFaces) (ready : List ℕ) : Type 0 where
  pub blocks : length cell_faces ≤ length ready * BLOCK
  pub sides : (b k : ℕ) → k < BLOCK → b * BLOCK + k < length cell_faces → AreSidesWithin (slice_index_or ready b 0) (cell_faces_at cell_faces (b * BLOCK + k))
  pub order : (b c : ℕ) → b < c → c < length ready → slice_index_or ready b 0 ≤ slice_index_or ready c 0
  pub most : (b : ℕ) → b < length ready → slice_index_or ready b 0 ≤ faces
