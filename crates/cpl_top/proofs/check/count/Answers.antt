use Rattle.cpl_top.proofs.Meshes.{coupled_is}
use Rattle.cpl_top.proofs.check.count.Goals as goal

pub count_coupled-requires : goal.count_coupled-requires
count_coupled-requires c = coupled_is c.in_ok-grid.grid c.in_ok-grid.ensures.found
