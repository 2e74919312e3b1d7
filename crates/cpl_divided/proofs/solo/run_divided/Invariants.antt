use Rattle.cpl_strip.specs.Strips.{AreStrips}
use Rattle.cpl_divided.specs.Whole.{HaveAreas}
use Rattle.cpl_divided.proofs.Run.{RunsTo}
use Rattle.cpl_divided.proofs.solo.run_divided.Given as goal

abbrev pub invariant-loop-step : goal.invariant-loop-step
invariant-loop-step l = record {
  strips : AreStrips l.mesh.mosaic l.layout 1 l.halos;
  airs : HaveAreas l.mesh l.layout l.airs.items;
  heat : RunsTo l.mesh l.layout l.fn.air.heat l._step l.heats.items;
  vapour : RunsTo l.mesh l.layout l.fn.air.vapour l._step l.vapours.items;
}
