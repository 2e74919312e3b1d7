use Rattle.cpl_layout.proofs.OwnCells.{own_cells_agree}
use Rattle.cpl_layout.proofs.own.own_law.Goals as goal

pub returns : goal.returns
returns c = λ layout is. own_cells_agree layout is
