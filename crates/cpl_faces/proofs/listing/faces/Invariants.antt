use Rattle.std.proofs.Common.{◌≡◌}
use Rattle.std.specs.List.{flat_map, range_with_len}
use Rattle.cpl_faces.specs.Faces.{faces_from}
use Rattle.cpl_faces.proofs.listing.faces.Given as goal

abbrev pub invariant-loop-n : goal.invariant-loop-n
invariant-loop-n l = l.faces.items ≡ flat_map (faces_from l.mosaic) (range_with_len 0 l.n)
