use Rattle.cpl_wires.proofs.Few.{pieces_few, edges_some, edges_few, stops_few}
use Rattle.cpl_wires.proofs.laws.few_law.Goals as goal

pub returns-clause-pieces : goal.returns-clause-pieces
returns-clause-pieces c = pieces_few

pub returns-clause-edges : goal.returns-clause-edges
returns-clause-edges c = λ setting is. (edges_some setting is, edges_few setting is)

pub returns-clause-actions : goal.returns-clause-actions
returns-clause-actions c = λ setting piece is. stops_few setting is piece
