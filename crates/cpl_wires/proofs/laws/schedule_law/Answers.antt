use Rattle.cpl_wires.proofs.Scheduled.{goes_by_schedule}
use Rattle.cpl_wires.proofs.laws.schedule_law.Goals as goal

pub returns : goal.returns
returns c = goes_by_schedule
