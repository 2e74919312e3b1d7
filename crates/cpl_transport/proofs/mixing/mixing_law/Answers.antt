use Rattle.cpl_transport.proofs.Columns.{sum_same, mixed_least}
use Rattle.cpl_transport.proofs.mixing.mixing_law.Goals as goal

pub returns-clause-total : goal.returns-clause-total
returns-clause-total c = sum_same

pub returns-clause-least : goal.returns-clause-least
returns-clause-least c = λ mix layers n column le least l. mixed_least mix layers column le least n l
