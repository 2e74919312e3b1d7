use Rattle.std.proofs.Common.{arith}
use Rattle.cpl_whole.proofs.Steps.{ocean_cut, ocean_more}
use Rattle.cpl_whole.proofs.ocean.go_ocean.Goals as goal

pub loop-done-preserved : goal.loop-done-preserved
loop-done-preserved c = record {
  value = ocean_more c.args.grid.now c.args.names.now c.args.whole.now c.args.flight.now.items c.loop-done._done c.loop-done.whole c.loop-done.invariant.value c.step.new.whole c.step.ensures.whole;
  is_room = c.step.ensures.room;
}

pub returns-clause-value : goal.returns-clause-value
returns-clause-value c =
    ocean_cut c.args.grid.now c.args.names.now c.args.whole.now c.args.flight.now.items c.loop-done._done c.loop-done.whole c.loop-done.invariant.value c.cut.new.whole c.cut.ensures.whole
    c.args.names.now.ocean_steps (omega arith)
