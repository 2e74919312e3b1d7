use Rattle.cpl_wires.proofs.Wired.{is_wired, is_spelled_out}
use Rattle.cpl_wires.proofs.laws.wired_law.Goals as goal

pub returns-clause-wired : goal.returns-clause-wired
returns-clause-wired c = is_wired

pub returns-clause-spelled : goal.returns-clause-spelled
returns-clause-spelled c = is_spelled_out
