use Rattle.std.proofs.Common.{ap, Err}
use Rattle.cpl_words.specs.Arguments.{texts}
use Rattle.cpl_top.specs.Commands.{command_of}
use Rattle.cpl_top.proofs.Conserving.{conserves}
use Rattle.cpl_top.proofs.Walking.{refusal_complete, reading_rose}
use Rattle.cpl_top.proofs.top.still_top.Goals as goal

pub returns-in-Err-clause-complete : goal.returns-in-Err-clause-complete
returns-in-Err-clause-complete g c told shelf sink =
    refusal_complete c.in-Err.refusal _ (c.in-Err.ensures.answer told)
    (λ file is. shelf (reading_rose _ _ (command_of (texts c.args.words.now)) file _ _ _ (c.in-Err.ensures.read file (ap Err is))))

pub returns-in-Ok-clause-conserving : goal.returns-in-Ok-clause-conserving
returns-in-Ok-clause-conserving g c = conserves

pub returns-in-Err-clause-conserving : goal.returns-in-Err-clause-conserving
returns-in-Err-clause-conserving g c = conserves
