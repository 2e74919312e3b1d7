use Rattle.cpl_divided.proofs.Links.{CompletedTo}
use Rattle.cpl_divided.proofs.halos.complete_all.Given as goal

abbrev pub invariant-loop-m : goal.invariant-loop-m
invariant-loop-m l = CompletedTo l.group.strips l.buffers l.m l.fn.fields l.fields
