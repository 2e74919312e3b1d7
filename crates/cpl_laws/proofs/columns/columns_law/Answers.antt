use Rattle.cpl_laws.proofs.CellColumns.{entered_is, gave_is, left_is, stocks_are, took_is}
use Rattle.cpl_laws.proofs.columns.columns_law.Goals as goal

pub returns-clause-stocks : goal.returns-clause-stocks
returns-clause-stocks c = stocks_are

pub returns-clause-entered : goal.returns-clause-entered
returns-clause-entered c = entered_is

pub returns-clause-left : goal.returns-clause-left
returns-clause-left c = left_is

pub returns-clause-gave : goal.returns-clause-gave
returns-clause-gave c = gave_is

pub returns-clause-took : goal.returns-clause-took
returns-clause-took c = took_is
