use Rattle.std.proofs.Common.{[]}
use Rattle.cpl_divided.proofs.Built.{IsBuilt}
use Rattle.cpl_divided.proofs.Parts.{IsOver}
use Rattle.cpl_divided.proofs.airs.airs_over.Given as goal

abbrev pub invariant-loop-p : goal.invariant-loop-p
invariant-loop-p l = IsBuilt (IsOver l.mesh l.layout) (record { area = record { nx = 0; ny = 0; width = 0; numbers = [] }; values = [] }) l.p l.airs.items
