use Rattle.std.specs.Prelude.{◌+◌}
use Rattle.cpl_state.specs.States.{layers}
use Rattle.cpl_rounds.specs.Rounds.{ocean_at}
use Rattle.cpl_rounds.specs.Values.{ocean_halo}
use Rattle.cpl_rounds.proofs.Halos.{has_sea}
use Rattle.cpl_rounds.proofs.values.ocean_halo_law.Goals as goal

pub returns : goal.returns
unfolding ocean_halo
returns c = λ plan n i cells sides. has_sea plan.grid.ocean (layers plan.grid) (ocean_at plan n (i + 1)) cells sides
