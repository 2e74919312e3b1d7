use Rattle.std.proofs.Common.{refl}
use Rattle.cpl_faces.specs.Faces.{faces_of}
use Rattle.cpl_layout.specs.Own.{own_cells}
use Rattle.cpl_layout.specs.Pieces.{piece_of}
use Rattle.cpl_namelist.specs.Civil.{date_from}
use Rattle.cpl_state.specs.CouplingStep.{after_fast, month_of, sea_after, step_after, taken}
use Rattle.cpl_state.specs.Cut.{after_cut, cut_off, with_flight}
use Rattle.cpl_state.specs.Diffusion.{diffused}
use Rattle.cpl_state.specs.Elements.{air_number, area_before, areas_in, part_area, refs_between, refs_of_air_cell, refs_of_surface_cell, share_at, surface_number}
use Rattle.cpl_state.specs.FastStep.{absorbed, air_heat_after, air_vapour_after, category_taken, fast_after, flux, heat_before_rain, land_taken, rain, rain_on, rain_on_ice, skin_taken, sun_on, to_space, vapour_before_rain}
use Rattle.cpl_state.specs.Slow.{arrived, drained_cell, outlet_share, outlets_to, returned_at, runoff_of, slow_after, slow_cell, weight_before}
use Rattle.cpl_state.specs.Transport.{behind, flow_through, next_number, outward, stepped, transported}
use Rattle.cpl_wires.specs.Settings.{pieces_in}
use Rattle.cpl_rounds.specs.Rounds.{state_at}
use Rattle.cpl_plan.specs.PieceSums.{part_sums}
use Rattle.cpl_rounds_tests.proofs.pieces.column_step_sums.Goals as goal

pub returns-clause-entered : goal.returns-clause-entered
unfolding part_sums pieces_in own_cells piece_of state_at taken month_of date_from surface_number air_number refs_between refs_of_air_cell refs_of_surface_cell areas_in part_area area_before share_at flux sun_on absorbed to_space heat_before_rain vapour_before_rain rain rain_on fast_after air_heat_after air_vapour_after diffused land_taken skin_taken rain_on_ice category_taken drained_cell weight_before outlet_share runoff_of outlets_to arrived slow_cell returned_at after_fast slow_after sea_after after_cut cut_off step_after with_flight stepped transported flow_through next_number outward behind faces_of
returns-clause-entered c = refl

pub returns-clause-air : goal.returns-clause-air
unfolding part_sums pieces_in own_cells piece_of state_at taken month_of date_from surface_number air_number refs_between refs_of_air_cell refs_of_surface_cell areas_in part_area area_before share_at flux sun_on absorbed to_space heat_before_rain vapour_before_rain rain rain_on fast_after air_heat_after air_vapour_after diffused land_taken skin_taken rain_on_ice category_taken drained_cell weight_before outlet_share runoff_of outlets_to arrived slow_cell returned_at after_fast slow_after sea_after after_cut cut_off step_after with_flight stepped transported flow_through next_number outward behind faces_of
returns-clause-air c = refl

pub returns-clause-land : goal.returns-clause-land
unfolding part_sums pieces_in own_cells piece_of state_at taken month_of date_from surface_number air_number refs_between refs_of_air_cell refs_of_surface_cell areas_in part_area area_before share_at flux sun_on absorbed to_space heat_before_rain vapour_before_rain rain rain_on fast_after air_heat_after air_vapour_after diffused land_taken skin_taken rain_on_ice category_taken drained_cell weight_before outlet_share runoff_of outlets_to arrived slow_cell returned_at after_fast slow_after sea_after after_cut cut_off step_after with_flight stepped transported flow_through next_number outward behind faces_of
returns-clause-land c = refl

pub returns-clause-ice : goal.returns-clause-ice
unfolding part_sums pieces_in own_cells piece_of state_at taken month_of date_from surface_number air_number refs_between refs_of_air_cell refs_of_surface_cell areas_in part_area area_before share_at flux sun_on absorbed to_space heat_before_rain vapour_before_rain rain rain_on fast_after air_heat_after air_vapour_after diffused land_taken skin_taken rain_on_ice category_taken drained_cell weight_before outlet_share runoff_of outlets_to arrived slow_cell returned_at after_fast slow_after sea_after after_cut cut_off step_after with_flight stepped transported flow_through next_number outward behind faces_of
returns-clause-ice c = refl

pub returns-clause-ocean : goal.returns-clause-ocean
unfolding part_sums pieces_in own_cells piece_of state_at taken month_of date_from surface_number air_number refs_between refs_of_air_cell refs_of_surface_cell areas_in part_area area_before share_at flux sun_on absorbed to_space heat_before_rain vapour_before_rain rain rain_on fast_after air_heat_after air_vapour_after diffused land_taken skin_taken rain_on_ice category_taken drained_cell weight_before outlet_share runoff_of outlets_to arrived slow_cell returned_at after_fast slow_after sea_after after_cut cut_off step_after with_flight stepped transported flow_through next_number outward behind faces_of
returns-clause-ocean c = refl
