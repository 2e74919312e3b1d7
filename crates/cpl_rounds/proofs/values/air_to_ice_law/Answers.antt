use Rattle.std.proofs.Common.{refl}
use Rattle.cpl_state.specs.States.{part_count}
use Rattle.cpl_rounds.specs.Rounds.{fast_step}
use Rattle.cpl_rounds.specs.Values.{air_to_ice, element_flows, on_ocean}
use Rattle.cpl_rounds.proofs.Blocks.{has_elements}
use Rattle.cpl_rounds.proofs.values.air_to_ice_law.Goals as goal

pub returns : goal.returns
unfolding air_to_ice
returns c = λ plan n i rows. has_elements (part_count plan.grid) (λ row. element_flows (fast_step plan n i) (on_ocean row)) (λ row k. refl) rows
