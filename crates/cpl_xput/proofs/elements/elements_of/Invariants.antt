use Rattle.std.proofs.Common.{◌≡◌, map}
use Rattle.std.specs.List.{range_with_len}
use Rattle.cpl_mosaic.specs.Cells.{cell_of}
use Rattle.cpl_xgrid.specs.Rules.{tiles_of}
use Rattle.cpl_xput.specs.Exchanges.{elements_of}
use Rattle.cpl_xput.proofs.elements.elements_of.Given as goal

abbrev pub invariant-loop-cell : goal.invariant-loop-cell
invariant-loop-cell l = l.counts.items ≡ map (λ n. elements_of l.grid (cell_of (tiles_of l.grid.air) n)) (range_with_len 0 l.cell)
