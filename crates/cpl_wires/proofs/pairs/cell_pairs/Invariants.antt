use Rattle.std.proofs.Common.{◌≡◌, map}
use Rattle.std.specs.List.{range_with_len}
use Rattle.cpl_mosaic.specs.Cells.{cell_of}
use Rattle.cpl_wires.specs.Tables.{same_pair}
use Rattle.cpl_wires.proofs.pairs.cell_pairs.Given as goal

abbrev pub invariant-loop-n : goal.invariant-loop-n
invariant-loop-n l = l.pairs.items ≡ map (λ n. same_pair (cell_of l.mosaic.tiles n)) (range_with_len 0 l.n)
