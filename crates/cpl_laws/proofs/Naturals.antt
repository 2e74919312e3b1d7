-- No total of what a state holds within a coupling step is below 0.
use Rattle.std.specs.Prelude.{pos, ◌≤ℤ◌}
use Rattle.cpl_fixed.specs.Totals.{total_of}
use Rattle.cpl_xgrid.specs.declared.grid.Grid.{Grid}
use Rattle.cpl_state.specs.declared.whole.Mid.{Mid}
use Rattle.cpl_state.specs.States.{IsMid}
use Rattle.cpl_laws.proofs.FastRanges.{stored_total}

pub record AreNatural (mid : Mid) : Type 0 where
  pub air_heat : pos 0 ≤ℤ total_of mid.whole.air_heat
  pub air_vapour : pos 0 ≤ℤ total_of mid.whole.air_vapour
  pub land_heat : pos 0 ≤ℤ total_of mid.whole.land_heat
  pub land_water : pos 0 ≤ℤ total_of mid.whole.land_water
  pub ice : pos 0 ≤ℤ total_of mid.whole.ice
  pub ice_heat : pos 0 ≤ℤ total_of mid.whole.ice_heat
  pub water : pos 0 ≤ℤ total_of mid.whole.water
  pub heat : pos 0 ≤ℤ total_of mid.whole.heat
  pub salt : pos 0 ≤ℤ total_of mid.whole.salt
  pub skin_water : pos 0 ≤ℤ total_of mid.skin_water
  pub skin_heat : pos 0 ≤ℤ total_of mid.skin_heat
  pub frazil_water : pos 0 ≤ℤ total_of mid.frazil_water
  pub frazil_heat : pos 0 ≤ℤ total_of mid.frazil_heat

pub are_natural : (grid : Grid) (mid : Mid) → IsMid grid mid → AreNatural mid
are_natural grid mid is =
    let stored = is.whole.stored in
    record {
      air_heat = stored_total mid.whole.air_heat stored.air_heat;
      air_vapour = stored_total mid.whole.air_vapour stored.air_vapour;
      land_heat = stored_total mid.whole.land_heat stored.land_heat;
      land_water = stored_total mid.whole.land_water stored.land_water;
      ice = stored_total mid.whole.ice stored.ice;
      ice_heat = stored_total mid.whole.ice_heat stored.ice_heat;
      water = stored_total mid.whole.water stored.water;
      heat = stored_total mid.whole.heat stored.heat;
      salt = stored_total mid.whole.salt stored.salt;
      skin_water = stored_total mid.skin_water is.skin_water.stored;
      skin_heat = stored_total mid.skin_heat is.skin_heat.stored;
      frazil_water = stored_total mid.frazil_water is.frazil_water.stored;
      frazil_heat = stored_total mid.frazil_heat is.frazil_heat.stored;
    }
