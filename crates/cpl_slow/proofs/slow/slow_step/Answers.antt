use Rattle.std.proofs.Common.{◌∙◌, ◌≤◌, ◌^◌, arith}
use Rattle.cpl_laws.specs.Once.{IsNumbered}
use Rattle.cpl_laws.proofs.SlowKept.{keeps_slow}
use Rattle.cpl_state.specs.States.{land_cells, ocean_cells}
use Rattle.cpl_state.specs.Slow.{arrived, runoff_of}
use Rattle.cpl_slow.proofs.Summed.{gains_are, sums_are}
use Rattle.cpl_slow.proofs.Whole.{has_ice, ready, slow_is}
use Rattle.cpl_slow.proofs.slow.slow_step.Goals as goal

pub drain_land-requires-clause-can : goal.drain_land-requires-clause-can
drain_land-requires-clause-can c =
    let is : IsNumbered c.args.grid.now = record { rules = c.requires.can.rules; air = c.cells-airs.ensures.numbers; land = c.cells-lands.ensures.numbers; ocean = c.cells-oceans.ensures.numbers } in
    let keeps = keeps_slow c.args.grid.now c.args.rates.now c.args.mid.now is c.requires.can in
    record {
      heat_count = c.requires.can.is_mid.whole.lengths.land_heat;
      water_count = c.requires.can.is_mid.whole.lengths.land_water;
      cell = keeps.land;
      arrival = keeps.arrival;
    }

pub slow_ice-requires-clause-mid : goal.slow_ice-requires-clause-mid
slow_ice-requires-clause-mid c =
    has_ice c.args.grid.now c.args.rates.now c.args.mid.now c.drain_land.new.whole c.drain_land.new.room.arrived.items c.drain_land.ensures.whole c.drain_land.ensures.arrived c.requires.can.is_mid

pub slow_ice-requires-clause-can : goal.slow_ice-requires-clause-can
slow_ice-requires-clause-can c =
    let is : IsNumbered c.args.grid.now = record { rules = c.requires.can.rules; air = c.cells-airs.ensures.numbers; land = c.cells-lands.ensures.numbers; ocean = c.cells-oceans.ensures.numbers } in
    ready c.args.grid.now c.args.rates.now c.args.mid.now c.drain_land.new.whole c.drain_land.new.room.arrived.items c.drain_land.ensures.whole c.drain_land.ensures.arrived
    (keeps_slow c.args.grid.now c.args.rates.now c.args.mid.now is c.requires.can)

pub returns-clause-value : goal.returns-clause-value
returns-clause-value c =
    c.slow_ice.ensures.value
    ∙ slow_is c.args.grid.now c.args.rates.now c.args.mid.now c.drain_land.new.whole c.drain_land.new.room.arrived.items c.drain_land.ensures.whole c.drain_land.ensures.arrived

pub returns-clause-keeps : goal.returns-clause-keeps
returns-clause-keeps c =
    let is : IsNumbered c.args.grid.now = record { rules = c.requires.can.rules; air = c.cells-airs.ensures.numbers; land = c.cells-lands.ensures.numbers; ocean = c.cells-oceans.ensures.numbers } in
    keeps_slow c.args.grid.now c.args.rates.now c.args.mid.now is c.requires.can

pub tally-tally-requires-clause-runoffs : goal.tally-tally-requires-clause-runoffs
tally-tally-requires-clause-runoffs c =
    let grid = c.args.grid.now in
    let is : IsNumbered grid = record { rules = c.requires.can.rules; air = c.cells-airs.ensures.numbers; land = c.cells-lands.ensures.numbers; ocean = c.cells-oceans.ensures.numbers } in
    let keeps = keeps_slow grid c.args.rates.now c.args.mid.now is c.requires.can in
    let few : land_cells grid ≤ 2 ^ 32 = omega (arith, c.cells-lands.ensures.rules.sizes.cells) in
    gains_are (land_cells grid) (runoff_of grid c.args.rates.now c.args.mid.now.whole) c.drain_land.new.room.runoffs.items c.drain_land.ensures.runoff.count c.drain_land.ensures.runoff.each few keeps.runoff

pub tally-tally-requires-clause-arrived : goal.tally-tally-requires-clause-arrived
tally-tally-requires-clause-arrived c =
    let grid = c.args.grid.now in
    let is : IsNumbered grid = record { rules = c.requires.can.rules; air = c.cells-airs.ensures.numbers; land = c.cells-lands.ensures.numbers; ocean = c.cells-oceans.ensures.numbers } in
    let keeps = keeps_slow grid c.args.rates.now c.args.mid.now is c.requires.can in
    let few : ocean_cells grid ≤ 2 ^ 32 = omega (arith, c.cells-oceans.ensures.rules.sizes.cells) in
    gains_are (ocean_cells grid) (arrived grid c.args.rates.now c.args.mid.now.whole) c.drain_land.new.room.arrived.items c.drain_land.ensures.arrived.count c.drain_land.ensures.arrived.each few keeps.arrival

pub returns-clause-gave : goal.returns-clause-gave
returns-clause-gave c =
    c.tally-tally.ensures.gave
    ∙ sums_are (land_cells c.args.grid.now) (runoff_of c.args.grid.now c.args.rates.now c.args.mid.now.whole) c.drain_land.new.room.runoffs.items c.drain_land.ensures.runoff.count c.drain_land.ensures.runoff.each

pub returns-clause-took : goal.returns-clause-took
returns-clause-took c =
    c.tally-tally.ensures.took
    ∙ sums_are (ocean_cells c.args.grid.now) (arrived c.args.grid.now c.args.rates.now c.args.mid.now.whole) c.drain_land.new.room.arrived.items c.drain_land.ensures.arrived.count c.drain_land.ensures.arrived.each
