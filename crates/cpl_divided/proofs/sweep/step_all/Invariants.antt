use Rattle.cpl_divided.specs.Steps.{KeepsAreas}
use Rattle.cpl_divided.proofs.Stepped.{SteppedTo}
use Rattle.cpl_divided.proofs.sweep.step_all.Given as goal

abbrev pub invariant-loop-p : goal.invariant-loop-p
invariant-loop-p l = record {
  areas : KeepsAreas l.fn.airs l.airs;
  steps : SteppedTo l.fn.airs l.p l.fn.fields l.fields;
}
