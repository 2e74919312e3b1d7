use Rattle.cpl_wires.proofs.Members.{is_edge}
use Rattle.cpl_wires.proofs.Stopped.{is_used}
use Rattle.cpl_wires.proofs.laws.edge_law.Goals as goal

pub returns-clause-pieces : goal.returns-clause-pieces
returns-clause-pieces c = is_edge

pub returns-clause-used : goal.returns-clause-used
returns-clause-used c = is_used
