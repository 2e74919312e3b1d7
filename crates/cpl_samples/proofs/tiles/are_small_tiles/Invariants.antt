use Rattle.std.proofs.Common.{ℕ, ◌<◌, get_or}
use Rattle.cpl_mosaic.specs.declared.parts.Tile.{Tile}
use Rattle.cpl_samples.specs.Small.{IsSmall}
use Rattle.cpl_samples.proofs.tiles.are_small_tiles.Given as goal

abbrev pub invariant-loop-tile : goal.invariant-loop-tile
invariant-loop-tile l = (k : ℕ) (d : Tile) → k < l.tile-index → IsSmall (get_or l.tiles k d)
