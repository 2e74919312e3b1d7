use Rattle.std.proofs.Common.{◌≡◌, take, map}
use Rattle.cpl_xput.specs.Places.{place_of}
use Rattle.cpl_xput.proofs.pieces.places_of.Given as goal

abbrev pub invariant-loop-cell : goal.invariant-loop-cell
invariant-loop-cell l = l.places.items ≡ map (place_of l.layout) (take l.cell-index l.cells)
