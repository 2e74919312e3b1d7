use Rattle.std.proofs.Common.{◌≡◌, map}
use Rattle.std.specs.List.{range_with_len}
use Rattle.cpl_wires.specs.Lengths.{lengths_of}
use Rattle.cpl_wires.proofs.exchanges.all_lengths.Given as goal

abbrev pub invariant-loop-piece : goal.invariant-loop-piece
invariant-loop-piece l = l.lengths.items ≡ map (lengths_of l.edges) (range_with_len 0 l.piece)
