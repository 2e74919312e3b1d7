use Rattle.std.proofs.Common.{◌++◌}
use Rattle.cpl_gridfile.proofs.PrintedLines.{TilesLeft, tiles_text}
use Rattle.cpl_gridfile.proofs.print.print_tiles.Given as goal

abbrev pub invariant-loop-tile : goal.invariant-loop-tile
invariant-loop-tile l = TilesLeft l.tiles l.tile-index (l.initial.text.items ++ tiles_text l.tiles l.areas) l.text.items l.rest
