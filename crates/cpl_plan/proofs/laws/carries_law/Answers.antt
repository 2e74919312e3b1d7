use Rattle.std.proofs.Common.{refl}
use Rattle.std.proofs.lemmas.Nat.{div-mul-add, mod-mul-add}
use Rattle.cpl_wires.specs.Pairs.{ice_rows_between, land_rows_between}
use Rattle.cpl_rounds.specs.Values.{air_halo, air_to_ice, air_to_land, ice_to_air, land_to_air, ocean_halo}
use Rattle.cpl_plan.specs.Plans.{setting_of}
use Rattle.cpl_plan.specs.Values.{air_halo_cells, ocean_halo_cells, ocean_halo_sides, value}
use Rattle.cpl_plan.proofs.laws.carries_law.Goals as goal

pub returns : goal.returns
unfolding value
returns c = record {
  air_halo = λ plan from to n i l t. air_halo plan (div-mul-add n plan.names.fast i l t) (mod-mul-add n plan.names.fast i l t) (air_halo_cells (setting_of plan) from to);
  land_to_air = λ plan land air n i l t. land_to_air plan (div-mul-add n plan.names.fast i l t) (mod-mul-add n plan.names.fast i l t) (land_rows_between (setting_of plan) air land);
  ice_to_air = λ plan ice air n i l t. ice_to_air plan (div-mul-add n plan.names.fast i l t) (mod-mul-add n plan.names.fast i l t) (ice_rows_between (setting_of plan) air ice);
  air_to_land = λ plan air land n i l t. air_to_land plan (div-mul-add n plan.names.fast i l t) (mod-mul-add n plan.names.fast i l t) (land_rows_between (setting_of plan) air land);
  air_to_ice = λ plan air ice n i l t. air_to_ice plan (div-mul-add n plan.names.fast i l t) (mod-mul-add n plan.names.fast i l t) (ice_rows_between (setting_of plan) air ice);
  land_to_ice = λ plan land ice n. refl;
  ice_to_ocean = λ plan ice ocean n. refl;
  ocean_to_ice = λ plan ocean ice n. refl;
  ocean_halo = λ plan from to n i l t. ocean_halo plan (div-mul-add n plan.names.ocean_steps i l t) (mod-mul-add n plan.names.ocean_steps i l t) (ocean_halo_cells (setting_of plan) from to) (ocean_halo_sides (setting_of plan) from to);
  sums = λ plan from to n. refl;
}
