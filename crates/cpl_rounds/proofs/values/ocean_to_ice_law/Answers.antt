use Rattle.std.proofs.Common.{refl, ap, ◌+◌}
use Rattle.cpl_state.specs.Cut.{cut_at, to_ice_numbers}
use Rattle.cpl_rounds.specs.Rounds.{ocean_at, to_ice_at}
use Rattle.cpl_rounds.specs.Values.{ocean_to_ice}
use Rattle.cpl_rounds.specs.Blocks.{item}
use Rattle.cpl_rounds.proofs.Blocks.{has_blocks, blocks_same}
use Rattle.cpl_rounds.proofs.Seas.{sea_cut}
use Rattle.cpl_rounds.proofs.values.ocean_to_ice_law.Goals as goal

pub returns : goal.returns
unfolding ocean_to_ice
returns c = record {
  numbers = λ plan n cells. has_blocks 5 (λ c. to_ice_numbers (cut_at plan.grid.ocean (ocean_at plan n (plan.names.ocean_steps + 1)) c)) (λ x. refl) cells;
  rounds = λ plan n cells below.
      blocks_same 5 (λ c. to_ice_numbers (cut_at plan.grid.ocean (ocean_at plan n (plan.names.ocean_steps + 1)) c)) (λ c. to_ice_numbers (to_ice_at plan (n + 1) c)) cells (ocean_to_ice plan n cells) (λ q l. ap to_ice_numbers (sea_cut plan n (item cells q) (below q l))) (has_blocks 5 (λ c. to_ice_numbers (cut_at plan.grid.ocean (ocean_at plan n (plan.names.ocean_steps + 1)) c)) (λ x. refl) cells);
}
