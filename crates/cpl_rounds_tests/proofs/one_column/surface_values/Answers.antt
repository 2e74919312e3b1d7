use Rattle.std.proofs.Common.{refl}
use Rattle.cpl_namelist.specs.Civil.{date_from}
use Rattle.cpl_rounds.specs.Rounds.{air_at, land_at, mid_at, state_at}
use Rattle.cpl_rounds.specs.Values.{air_halo, air_to_ice, air_to_land, ice_to_air, land_to_air}
use Rattle.cpl_state.specs.CouplingStep.{month_of, taken}
use Rattle.cpl_state.specs.Elements.{air_number, area_before, areas_in, part_area, refs_of_air_cell, refs_of_surface_cell, share_at, surface_number}
use Rattle.cpl_state.specs.FastStep.{absorbed, flux, heat_before_rain, rain, rain_on, sun_on, to_space, vapour_before_rain}
use Rattle.cpl_rounds_tests.proofs.one_column.surface_values.Goals as goal

pub returns-clause-land_to_air : goal.returns-clause-land_to_air
unfolding land_to_air land_at mid_at state_at taken surface_number
returns-clause-land_to_air c = refl

pub returns-clause-ice_to_air : goal.returns-clause-ice_to_air
unfolding ice_to_air mid_at state_at taken surface_number areas_in part_area refs_of_surface_cell
returns-clause-ice_to_air c = refl

pub returns-clause-air_to_land : goal.returns-clause-air_to_land
unfolding air_to_land mid_at state_at taken month_of date_from surface_number air_number refs_of_air_cell refs_of_surface_cell areas_in part_area area_before share_at flux sun_on absorbed to_space heat_before_rain vapour_before_rain rain rain_on
returns-clause-air_to_land c = refl

pub returns-clause-air_to_ice : goal.returns-clause-air_to_ice
unfolding air_to_ice mid_at state_at taken month_of date_from surface_number air_number refs_of_air_cell refs_of_surface_cell areas_in part_area area_before share_at flux sun_on absorbed to_space heat_before_rain vapour_before_rain rain rain_on
returns-clause-air_to_ice c = refl

pub returns-clause-air_halo : goal.returns-clause-air_halo
unfolding air_halo air_at mid_at state_at taken month_of date_from surface_number air_number refs_of_air_cell refs_of_surface_cell areas_in part_area area_before share_at flux sun_on absorbed to_space heat_before_rain vapour_before_rain rain rain_on
returns-clause-air_halo c = refl
