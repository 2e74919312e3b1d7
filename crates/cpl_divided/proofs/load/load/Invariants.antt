use Rattle.std.proofs.Common.{[]}
use Rattle.cpl_divided.proofs.Built.{IsBuilt}
use Rattle.cpl_divided.proofs.Parts.{IsLoaded}
use Rattle.cpl_divided.proofs.load.load.Given as goal

abbrev pub invariant-loop-p : goal.invariant-loop-p
invariant-loop-p l = IsBuilt (IsLoaded l.mosaic l.layout l.xs) (record { nx = 0; ny = 0; width = 0; numbers = [] }) l.p l.fields.items
