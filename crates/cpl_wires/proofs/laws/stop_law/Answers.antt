use Rattle.cpl_wires.proofs.Stopped.{is_own, post_is_use, take_is_use}
use Rattle.cpl_wires.proofs.laws.stop_law.Goals as goal

pub returns-clause-own : goal.returns-clause-own
returns-clause-own c = is_own

pub returns-clause-posts : goal.returns-clause-posts
returns-clause-posts c = post_is_use

pub returns-clause-takes : goal.returns-clause-takes
returns-clause-takes c = take_is_use
