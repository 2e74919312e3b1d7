use Rattle.std.proofs.Common.{refl}
use Rattle.cpl_rounds.specs.Rounds.{fast_step}
use Rattle.cpl_rounds.specs.Values.{air_to_land, element_flows, on_land}
use Rattle.cpl_rounds.proofs.Blocks.{has_blocks}
use Rattle.cpl_rounds.proofs.values.air_to_land_law.Goals as goal

pub returns : goal.returns
unfolding air_to_land
returns c = λ plan n i rows. has_blocks 4 (λ row. element_flows (fast_step plan n i) (on_land row) 0) (λ x. refl) rows
