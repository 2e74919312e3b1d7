use Rattle.std.proofs.Common.{refl}
use Rattle.cpl_land.specs.Land.{runoff}
use Rattle.cpl_state.specs.Slow.{drain, drained_cell}
use Rattle.cpl_rounds.specs.Rounds.{mid_at, land_at}
use Rattle.cpl_rounds.specs.Values.{land_to_ice, runoff_numbers, share_of_runoff}
use Rattle.cpl_rounds.specs.Blocks.{item}
use Rattle.cpl_rounds.proofs.Blocks.{has_blocks, blocks_same}
use Rattle.cpl_rounds.proofs.Numbers.{outlet_runoff}
use Rattle.cpl_rounds.proofs.values.land_to_ice_law.Goals as goal

pub returns : goal.returns
unfolding land_to_ice
returns c = record {
  numbers = λ plan n outlets. has_blocks 2 (λ o. runoff_numbers (drain plan.grid plan.names.rates (mid_at plan n plan.names.fast).whole o)) (λ x. refl) outlets;
  rounds = λ plan n outlets.
      blocks_same 2 (λ o. runoff_numbers (drain plan.grid plan.names.rates (mid_at plan n plan.names.fast).whole o)) (λ o. runoff_numbers (share_of_runoff plan.grid (runoff plan.names.rates (land_at plan n plan.names.fast (drained_cell plan.grid o))) o)) outlets (land_to_ice plan n outlets) (λ q l. outlet_runoff plan n (item outlets q)) (has_blocks 2 (λ o. runoff_numbers (drain plan.grid plan.names.rates (mid_at plan n plan.names.fast).whole o)) (λ x. refl) outlets);
}
