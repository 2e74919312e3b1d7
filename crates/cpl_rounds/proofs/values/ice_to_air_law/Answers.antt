use Rattle.std.proofs.Common.{refl}
use Rattle.cpl_state.specs.States.{part_count}
use Rattle.cpl_rounds.specs.Rounds.{mid_at}
use Rattle.cpl_rounds.specs.Values.{ice_to_air, element_numbers, seen_numbers}
use Rattle.cpl_rounds.proofs.Blocks.{has_elements, elements_same}
use Rattle.cpl_rounds.proofs.Numbers.{element_seen}
use Rattle.cpl_rounds.proofs.values.ice_to_air_law.Goals as goal

pub returns : goal.returns
unfolding ice_to_air
returns c = record {
  numbers = λ plan n i rows. has_elements (part_count plan.grid) (element_numbers plan.grid (mid_at plan n i)) (λ row k. refl) rows;
  rounds = λ plan n i rows column.
      elements_same (part_count plan.grid) (element_numbers plan.grid (mid_at plan n i)) (seen_numbers plan n i) rows (ice_to_air plan n i rows) (λ row k l. element_seen plan n i row k column l)
      (has_elements (part_count plan.grid) (element_numbers plan.grid (mid_at plan n i)) (λ row k. refl) rows);
}
