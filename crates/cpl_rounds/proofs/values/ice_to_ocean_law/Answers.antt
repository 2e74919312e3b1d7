use Rattle.std.proofs.Common.{refl, ap, ◌+◌}
use Rattle.cpl_state.specs.Slow.{returned_at}
use Rattle.cpl_rounds.specs.Rounds.{mid_at, to_ocean_at}
use Rattle.cpl_rounds.specs.Values.{ice_to_ocean, salty_numbers}
use Rattle.cpl_rounds.specs.Blocks.{item}
use Rattle.cpl_rounds.proofs.Blocks.{has_blocks, blocks_same}
use Rattle.cpl_rounds.proofs.Ices.{flight_back}
use Rattle.cpl_rounds.proofs.values.ice_to_ocean_law.Goals as goal

pub returns : goal.returns
unfolding ice_to_ocean
returns c = record {
  numbers = λ plan n cells. has_blocks 3 (λ c. salty_numbers (returned_at plan.grid plan.names.rates (mid_at plan n plan.names.fast) c)) (λ x. refl) cells;
  rounds = λ plan n cells below.
      blocks_same 3 (λ c. salty_numbers (returned_at plan.grid plan.names.rates (mid_at plan n plan.names.fast) c)) (λ c. salty_numbers (to_ocean_at plan (n + 1) c)) cells (ice_to_ocean plan n cells) (λ q l. ap salty_numbers (flight_back plan n (item cells q) (below q l))) (has_blocks 3 (λ c. salty_numbers (returned_at plan.grid plan.names.rates (mid_at plan n plan.names.fast) c)) (λ x. refl) cells);
}
