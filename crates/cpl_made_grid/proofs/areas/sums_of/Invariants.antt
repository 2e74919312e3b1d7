-- The sums of the exchange cells so far.
use Rattle.std.proofs.Common.{◌≡◌, take}
use Rattle.cpl_made_grid.specs.Areas.{sums_of}
use Rattle.cpl_made_grid.proofs.areas.sums_of.Given as goal

abbrev pub invariant-loop-row : goal.invariant-loop-row
invariant-loop-row l = l.sums.items ≡ sums_of l.mosaic.tiles (take l.row-index l.rows)
