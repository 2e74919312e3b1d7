use Rattle.cpl_sea.proofs.Steps.{heat_total, salt_total, stepped_is, water_total}
use Rattle.cpl_sea.proofs.laws.sea_law.Goals as goal

pub returns-clause-water : goal.returns-clause-water
returns-clause-water c = water_total

pub returns-clause-heat : goal.returns-clause-heat
returns-clause-heat c = heat_total

pub returns-clause-salt : goal.returns-clause-salt
returns-clause-salt c = salt_total

pub returns-clause-kept : goal.returns-clause-kept
returns-clause-kept c = stepped_is
