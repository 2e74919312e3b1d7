use Rattle.std.proofs.Common.{refl}
use Rattle.cpl_namelist.specs.Table.{name_in_group}
use Rattle.cpl_namelist.proofs.table.table_law.Goals as goal

pub returns : goal.returns
unfolding name_in_group
returns c = record {
  current_date = refl;
  calendar = refl;
  days = refl;
  hours = refl;
  minutes = refl;
  seconds = refl;
  dt_atmos = refl;
  dt_cpld = refl;
  concurrent = refl;
  use_lag_fluxes = refl;
  atmos_layout = refl;
  land_layout = refl;
  ice_layout = refl;
  ocean_layout = refl;
  ca = refl;
  kh = refl;
  ke = refl;
  hs = refl;
  ko = refl;
  rc = refl;
  month = refl;
  cl = refl;
  cap = refl;
  land_albedo = refl;
  h0 = refl;
  bounds = refl;
  ice_albedo = refl;
  water_albedo = refl;
  dt_ocean = refl;
  slope = refl;
  mix = refl;
}
