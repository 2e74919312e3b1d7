use Rattle.cpl_rounds.proofs.Flows.{land_flux, ice_flux, sun_part, absorbed_same, space_part, heat_so_far, vapour_so_far, rain_share}
use Rattle.cpl_rounds.proofs.rounds.flows_law.Goals as goal

pub returns : goal.returns
returns c = record {
  land = land_flux;
  ice = ice_flux;
  sun = sun_part;
  absorbed = absorbed_same;
  space = space_part;
  heat = heat_so_far;
  vapour = vapour_so_far;
  rain_on = rain_share;
}
