use Rattle.std.proofs.Common.{◌≡◌, take, map}
use Rattle.cpl_mosaic.specs.Cells.{number_of}
use Rattle.cpl_xgrid.proofs.cells.numbers_of.Given as goal

abbrev pub invariant-loop-cell : goal.invariant-loop-cell
invariant-loop-cell l = l.numbers.items ≡ map (number_of l.mosaic.tiles) (take l.cell-index l.cells)
