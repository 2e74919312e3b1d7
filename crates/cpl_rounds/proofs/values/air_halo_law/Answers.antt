use Rattle.std.specs.Prelude.{◌+◌, ◌*◌}
use Rattle.cpl_rounds.specs.Rounds.{air_at}
use Rattle.cpl_rounds.specs.Values.{air_halo}
use Rattle.cpl_rounds.proofs.Halos.{has_pairs}
use Rattle.cpl_rounds.proofs.values.air_halo_law.Goals as goal

pub returns : goal.returns
unfolding air_halo
returns c = λ plan n i cells. has_pairs (λ c. (air_at plan n (2 * i + 1) c).heat) (λ c. (air_at plan n (2 * i + 1) c).vapour) cells
