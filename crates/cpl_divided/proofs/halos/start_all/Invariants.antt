use Rattle.cpl_divided.proofs.Links.{StartedTo}
use Rattle.cpl_divided.proofs.halos.start_all.Given as goal

abbrev pub invariant-loop-m : goal.invariant-loop-m
invariant-loop-m l = StartedTo l.group.strips l.fields l.m l.buffers
