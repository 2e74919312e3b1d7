use Rattle.cpl_laws.specs.Once.{IsNumbered}
use Rattle.cpl_fast.specs.Stages.{step_of}
use Rattle.cpl_fast.proofs.AfterStep.{lawful_is}
use Rattle.cpl_fast.proofs.Looking.{room_seen}
use Rattle.cpl_fast.proofs.room.FastRoom.fill.Goals as goal

pub flow-flown-requires : goal.flow-flown-requires
flow-flown-requires c =
    let s = step_of c.args.view.now in
    let is : IsNumbered s.grid = record { rules = c.requires.can.grid; air = c.cells-airs.ensures.numbers; land = c.cells-lands.ensures.numbers; ocean = c.cells-oceans.ensures.numbers } in
    let lawful = lawful_is s c.requires.can is c.cells-airs.ensures.mates c.cells-airs.ensures.rules c.cells-lands.ensures.rules c.cells-oceans.ensures.rules in
    room_seen s c.args.self.now c.look_up.new.self lawful c.requires.room c.look_up.ensures.skies c.look_up.ensures.room
