use Rattle.cpl_laws.specs.Once.{IsNumbered}
use Rattle.cpl_fast.specs.Stages.{step_of}
use Rattle.cpl_fast.proofs.AfterStep.{lawful_is}
use Rattle.cpl_fast.proofs.stages.step_law.Goals as goal

pub returns : goal.returns
returns c =
    let s = step_of c.args.view.now in
    let is : IsNumbered s.grid = record { rules = c.requires.grid; air = c.cells-airs.ensures.numbers; land = c.cells-lands.ensures.numbers; ocean = c.cells-oceans.ensures.numbers } in
    lawful_is s c.requires is c.cells-airs.ensures.mates c.cells-airs.ensures.rules c.cells-lands.ensures.rules c.cells-oceans.ensures.rules
