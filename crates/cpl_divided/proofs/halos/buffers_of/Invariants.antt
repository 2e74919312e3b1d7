use Rattle.std.proofs.Common.{[]}
use Rattle.cpl_divided.proofs.Built.{IsBuilt}
use Rattle.cpl_divided.proofs.Parts.{IsSized}
use Rattle.cpl_divided.proofs.halos.buffers_of.Given as goal

abbrev pub invariant-loop-m : goal.invariant-loop-m
invariant-loop-m l = IsBuilt (IsSized l.group.strips) [] l.m l.buffers.items
