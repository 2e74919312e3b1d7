use Rattle.std.proofs.Common.{refl}
use Rattle.cpl_namelist.specs.Civil.{date_from}
use Rattle.cpl_rounds.specs.Rounds.{mid_at, state_at}
use Rattle.cpl_rounds.specs.Values.{ice_to_ocean, land_to_ice}
use Rattle.cpl_state.specs.CouplingStep.{month_of, taken}
use Rattle.cpl_state.specs.Diffusion.{diffused}
use Rattle.cpl_state.specs.Elements.{air_number, area_before, areas_in, part_area, refs_of_air_cell, refs_of_surface_cell, share_at, surface_number}
use Rattle.cpl_state.specs.FastStep.{absorbed, air_heat_after, air_vapour_after, category_taken, fast_after, flux, heat_before_rain, land_taken, rain, rain_on, rain_on_ice, skin_taken, sun_on, to_space, vapour_before_rain}
use Rattle.cpl_state.specs.Slow.{arrived, drained_cell, outlet_share, outlets_to, returned_at, runoff_of, slow_cell, weight_before}
use Rattle.cpl_rounds_tests.proofs.one_column.slow_values.Goals as goal

pub returns-clause-land_to_ice : goal.returns-clause-land_to_ice
unfolding land_to_ice mid_at state_at taken month_of date_from surface_number air_number refs_of_air_cell refs_of_surface_cell areas_in part_area area_before share_at flux sun_on absorbed to_space heat_before_rain vapour_before_rain rain rain_on fast_after air_heat_after air_vapour_after diffused land_taken skin_taken rain_on_ice category_taken drained_cell weight_before outlet_share runoff_of outlets_to arrived slow_cell returned_at
returns-clause-land_to_ice c = refl

pub returns-clause-ice_to_ocean : goal.returns-clause-ice_to_ocean
unfolding ice_to_ocean mid_at state_at taken month_of date_from surface_number air_number refs_of_air_cell refs_of_surface_cell areas_in part_area area_before share_at flux sun_on absorbed to_space heat_before_rain vapour_before_rain rain rain_on fast_after air_heat_after air_vapour_after diffused land_taken skin_taken rain_on_ice category_taken drained_cell weight_before outlet_share runoff_of outlets_to arrived slow_cell returned_at
returns-clause-ice_to_ocean c = refl
