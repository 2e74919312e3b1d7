use Rattle.cpl_wires.proofs.InTime.{has_turn, in_time}
use Rattle.cpl_wires.proofs.Rising.{rises_by}
use Rattle.cpl_wires.proofs.laws.time_law.Goals as goal

pub returns-clause-turns : goal.returns-clause-turns
returns-clause-turns c = has_turn

pub returns-clause-rising : goal.returns-clause-rising
returns-clause-rising c = rises_by

pub returns-clause-uses : goal.returns-clause-uses
returns-clause-uses c = in_time
