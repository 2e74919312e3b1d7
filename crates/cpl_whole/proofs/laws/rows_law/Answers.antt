use Rattle.cpl_whole.proofs.Kept.{loses_nothing}
use Rattle.cpl_whole.proofs.laws.rows_law.Goals as goal

pub returns : goal.returns
returns c = λ plan is mosaics. loses_nothing plan is mosaics
