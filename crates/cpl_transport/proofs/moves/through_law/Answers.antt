use Rattle.cpl_transport.proofs.Leaving.{through_face, through_outflow, through_turned}
use Rattle.cpl_transport.proofs.moves.through_law.Goals as goal

pub returns-clause-turned : goal.returns-clause-turned
returns-clause-turned c = through_turned

pub returns-clause-outflow : goal.returns-clause-outflow
returns-clause-outflow c = through_outflow

pub returns-clause-face : goal.returns-clause-face
returns-clause-face c = through_face
