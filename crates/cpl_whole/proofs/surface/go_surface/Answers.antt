use Rattle.std.proofs.Common.{arith}
use Rattle.cpl_whole.proofs.Steps.{can_take, month_is, fast_can, fast_range, moved_is, slow_can, runoff_is, arrival_is, last_is, last_skins}
use Rattle.cpl_whole.proofs.surface.go_surface.Goals as goal

pub take_flights-requires-clause-can : goal.take_flights-requires-clause-can
take_flights-requires-clause-can c = can_take c.args.grid.now c.args.mid.now c.requires.can.run.is_whole c.requires.skins

pub divide-requires-clause-can : goal.divide-requires-clause-can
divide-requires-clause-can c =
    let month = month_is c.args.names.now c.args.mid.now.whole c.month_of-month.result c.requires.can.run.is_whole.stored.elapsed c.month_of-month.ensures in
    let some = c.requires.can.run.are_names.fast.0 in
    fast_can c.args.grid.now c.args.names.now c.args.mid.now.whole c.requires.can c.month_of-month.result c.take_flights.new.mid month c.take_flights.ensures.value 0 (omega (arith, some))

pub go_fast-moved-requires : goal.go_fast-moved-requires
go_fast-moved-requires c =
    let month = month_is c.args.names.now c.args.mid.now.whole c.month_of-month.result c.requires.can.run.is_whole.stored.elapsed c.month_of-month.ensures in
    record {
      can = fast_can c.args.grid.now c.args.names.now c.args.mid.now.whole c.requires.can c.month_of-month.result c.take_flights.new.mid month c.take_flights.ensures.value;
      range = fast_range c.args.grid.now c.args.names.now c.args.mid.now.whole c.requires.can c.month_of-month.result c.take_flights.new.mid month c.take_flights.ensures.value;
      room = c.divide.ensures;
    }

pub slow_step-drained-requires : goal.slow_step-drained-requires
slow_step-drained-requires c =
    let month = month_is c.args.names.now c.args.mid.now.whole c.month_of-month.result c.requires.can.run.is_whole.stored.elapsed c.month_of-month.ensures in
    record {
      can = slow_can c.args.grid.now c.args.names.now c.args.mid.now.whole c.requires.can c.month_of-month.result c.take_flights.new.mid month c.take_flights.ensures.value
          c.go_fast-moved.new.mid c.go_fast-moved.ensures.value;
      room = c.requires.slow;
    }

pub returns : goal.returns
returns c =
    let grid = c.args.grid.now in
    let names = c.args.names.now in
    let whole = c.args.mid.now.whole in
    let can = c.requires.can in
    let month = c.month_of-month.result in
    let mid = c.take_flights.new.mid in
    let in_month = month_is names whole month can.run.is_whole.stored.elapsed c.month_of-month.ensures in
    let taken = c.take_flights.ensures.value in
    let out = c.go_fast-moved.new.mid in
    let went = c.go_fast-moved.ensures.value in
    let last = c.slow_step-drained.new.mid in
    let slowed = c.slow_step-drained.ensures.value in
    record {
      whole = last_is grid names whole can month mid in_month taken out went last slowed;
      skins = last_skins grid names whole can month mid in_month taken out went last slowed;
      flight = c.take_flights.ensures.flight;
      fast = c.go_fast-moved.ensures.room;
      slow = c.slow_step-drained.ensures.room;
      moved = moved_is grid names whole can month mid in_month taken c.go_fast-moved.result c.go_fast-moved.ensures.tally;
      gave = runoff_is grid names whole can month mid in_month taken out went c.slow_step-drained.result.gave c.slow_step-drained.ensures.gave;
      took = arrival_is grid names whole can month mid in_month taken out went c.slow_step-drained.result.took c.slow_step-drained.ensures.took;
    }
