use Rattle.std.proofs.Common.{refl}
use Rattle.cpl_rounds.specs.Rounds.{mid_at, state_at}
use Rattle.cpl_rounds.specs.Values.{ice_to_air}
use Rattle.cpl_state.specs.CouplingStep.{taken}
use Rattle.cpl_state.specs.Elements.{areas_in, part_area, refs_of_surface_cell, surface_number}
use Rattle.cpl_rounds_tests.proofs.pieces.split_values.Goals as goal

pub returns : goal.returns
unfolding ice_to_air mid_at state_at taken surface_number areas_in part_area refs_of_surface_cell
returns c = refl
