use Rattle.cpl_words.specs.Arguments.{texts}
use Rattle.cpl_top.specs.Commands.{command_of}
use Rattle.cpl_top.proofs.Walking.{runs_prepared}
use Rattle.cpl_top.proofs.top.prepare.Goals as goal

pub returns : goal.returns
returns g c =
    let shelf = g.S.Shelf in
    runs_prepared shelf.told shelf.files shelf.faults shelf.failed c.args.shelf.now c.run_command.new.shelf (command_of (texts c.args.words.now)) _ c.run_command.ensures
