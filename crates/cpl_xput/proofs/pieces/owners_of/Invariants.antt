use Rattle.std.proofs.Common.{◌≡◌, take, map}
use Rattle.cpl_layout.specs.Pieces.{owner_of}
use Rattle.cpl_xput.proofs.pieces.owners_of.Given as goal

abbrev pub invariant-loop-cell : goal.invariant-loop-cell
invariant-loop-cell l = l.owners.items ≡ map (owner_of l.layout) (take l.cell-index l.cells)
