use Rattle.std.proofs.Common.{pos}
use Rattle.cpl_divided.proofs.Built.{IsBuilt}
use Rattle.cpl_divided.proofs.Parts.{IsNumber}
use Rattle.cpl_divided.proofs.load.gather.Given as goal

abbrev pub invariant-loop-n : goal.invariant-loop-n
invariant-loop-n l = IsBuilt (IsNumber l.mosaic.tiles l.layout l.fields) (pos 0) l.n l.xs.items
