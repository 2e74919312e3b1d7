-- No amount of a lawful state is above what the state holds in all.
use Rattle.std.proofs.Common.{ℕ, ◌+◌, ◌*◌, ◌<◌, arith, List}
use Rattle.std.specs.Prelude.{ℤ, pos, ◌+ℤ◌, ◌≤ℤ◌, All}
use Rattle.std.proofs.lemmas.Int.{ints}
use Rattle.std.proofs.lemmas.List.Elements.{All-from_get_or}
use Rattle.cpl_fixed.specs.Amounts.{at}
use Rattle.cpl_fixed.specs.Totals.{total_of}
use Rattle.cpl_fixed.specs.declared.words.Quantity.{Quantity}
use Rattle.cpl_fixed.specs.declared.words.Quantity.TheVariants.{Heat, Water, Salt}
use Rattle.cpl_xgrid.specs.declared.grid.Grid.{Grid}
use Rattle.cpl_state.specs.declared.whole.Whole.{Whole}
use Rattle.cpl_state.specs.declared.whole.Mid.{Mid}
use Rattle.cpl_state.specs.Stored.{IsStored}
use Rattle.cpl_state.specs.States.{ocean_cells, of_cell, flight_to_ice, flight_to_ocean, IsWhole, IsMid}
use Rattle.cpl_state.specs.Stocks.{held, held_within, stocks_of, flying_to_ice, flying_to_ocean, quantity_of, whole_flight}
use Rattle.cpl_state.specs.Bounds.{IsUpTo, AreUpTo, IsFlightUpTo, IsSaltyUpTo, IsWholeUpTo, IsMidUpTo}
use Rattle.cpl_laws.proofs.Flows.{stored_natural}
use Rattle.cpl_laws.proofs.FastRanges.{one_of_cells, stored_total}
use Rattle.cpl_laws.proofs.Held.{flights_to_ice, flights_to_ocean, stored_most}

-- a list whose total is no more
pub list_up_to : (total : ℤ) (xs : List ℤ) → All IsStored xs → total_of xs ≤ℤ total → AreUpTo total xs
list_up_to total xs all le = All-from_get_or (IsUpTo total) xs (pos 0) (λ n l. let own = stored_most xs all n in (stored_natural xs all n, omega (arith, ints, own, le)))

module _ (total : Quantity → ℤ) (grid : Grid) (whole : Whole) (lawful : IsWhole grid whole) (room : (q : Quantity) → held grid whole q ≤ℤ total q) where
  -- what the parts of the model hold of each quantity, none below 0
  record HasHeat : Type 0 where
    air : total_of whole.air_heat ≤ℤ total Heat
    land : total_of whole.land_heat ≤ℤ total Heat
    ice : total_of whole.ice_heat ≤ℤ total Heat
    ocean : total_of whole.heat ≤ℤ total Heat
    to_ice : flying_to_ice grid whole Heat ≤ℤ total Heat
    to_ocean : flying_to_ocean grid whole Heat ≤ℤ total Heat

  has_heat : HasHeat
  unfolding stocks_of
  has_heat =
      let a = stored_total whole.air_heat lawful.stored.air_heat in
      let b = stored_total whole.land_heat lawful.stored.land_heat in
      let c = stored_total whole.ice_heat lawful.stored.ice_heat in
      let d = stored_total whole.heat lawful.stored.heat in
      let e = flights_to_ice grid whole lawful.stored Heat in
      let f = flights_to_ocean grid whole lawful.stored Heat in
      let all = room Heat in
      record {
        air = omega (arith, ints, all, b, c, d, e, f);
        land = omega (arith, ints, all, a, c, d, e, f);
        ice = omega (arith, ints, all, a, b, d, e, f);
        ocean = omega (arith, ints, all, a, b, c, e, f);
        to_ice = omega (arith, ints, all, a, b, c, d, f);
        to_ocean = omega (arith, ints, all, a, b, c, d, e);
      }

  record HasWater : Type 0 where
    air : total_of whole.air_vapour ≤ℤ total Water
    land : total_of whole.land_water ≤ℤ total Water
    ice : total_of whole.ice ≤ℤ total Water
    ocean : total_of whole.water ≤ℤ total Water
    to_ice : flying_to_ice grid whole Water ≤ℤ total Water
    to_ocean : flying_to_ocean grid whole Water ≤ℤ total Water

  has_water : HasWater
  unfolding stocks_of
  has_water =
      let a = stored_total whole.air_vapour lawful.stored.air_vapour in
      let b = stored_total whole.land_water lawful.stored.land_water in
      let c = stored_total whole.ice lawful.stored.ice in
      let d = stored_total whole.water lawful.stored.water in
      let e = flights_to_ice grid whole lawful.stored Water in
      let f = flights_to_ocean grid whole lawful.stored Water in
      let all = room Water in
      record {
        air = omega (arith, ints, all, b, c, d, e, f);
        land = omega (arith, ints, all, a, c, d, e, f);
        ice = omega (arith, ints, all, a, b, d, e, f);
        ocean = omega (arith, ints, all, a, b, c, e, f);
        to_ice = omega (arith, ints, all, a, b, c, d, f);
        to_ocean = omega (arith, ints, all, a, b, c, d, e);
      }

  record HasSalt : Type 0 where
    ocean : total_of whole.salt ≤ℤ total Salt
    to_ice : flying_to_ice grid whole Salt ≤ℤ total Salt
    to_ocean : flying_to_ocean grid whole Salt ≤ℤ total Salt

  has_salt : HasSalt
  unfolding stocks_of
  has_salt =
      let d = stored_total whole.salt lawful.stored.salt in
      let e = flights_to_ice grid whole lawful.stored Salt in
      let f = flights_to_ocean grid whole lawful.stored Salt in
      let all = room Salt in
      record { ocean = omega (arith, ints, all, e, f); to_ice = omega (arith, ints, all, d, f); to_ocean = omega (arith, ints, all, d, e) }

  -- WHAT FLIES

  ice_number : (n k : ℕ) → pos 0 ≤ℤ of_cell 5 n k whole.to_ice
  ice_number n k = stored_natural whole.to_ice lawful.stored.to_ice (n * 5 + k)

  ocean_number : (n k : ℕ) → pos 0 ≤ℤ of_cell 3 n k whole.to_ocean
  ocean_number n k = stored_natural whole.to_ocean lawful.stored.to_ocean (n * 3 + k)

  ice_flight : (n : ℕ) → n < ocean_cells grid → IsFlightUpTo total (flight_to_ice whole n)
  ice_flight n l =
      let water = one_of_cells (λ n. quantity_of Water (whole_flight (flight_to_ice whole n))) (ocean_cells grid) (λ i h. let a = ice_number i 0 in let b = ice_number i 2 in omega (arith, ints, a, b)) n l in
      let heat = one_of_cells (λ n. quantity_of Heat (whole_flight (flight_to_ice whole n))) (ocean_cells grid) (λ i h. let a = ice_number i 1 in let b = ice_number i 3 in omega (arith, ints, a, b)) n l in
      let salt = one_of_cells (λ n. quantity_of Salt (whole_flight (flight_to_ice whole n))) (ocean_cells grid) (λ i h. ice_number i 4) n l in
      let frazil_water = ice_number n 0 in
      let frazil_heat = ice_number n 1 in
      let skin_water = ice_number n 2 in
      let skin_heat = ice_number n 3 in
      let waters = has_water.to_ice in
      let heats = has_heat.to_ice in
      let salts = has_salt.to_ice in
      record {
        frazil_water = (frazil_water, omega (arith, ints, water, waters, skin_water));
        frazil_heat = (frazil_heat, omega (arith, ints, heat, heats, skin_heat));
        skin = record {
          water = (skin_water, omega (arith, ints, water, waters, frazil_water));
          heat = (skin_heat, omega (arith, ints, heat, heats, frazil_heat));
          salt = (ice_number n 4, omega (arith, ints, salt, salts));
        };
      }

  ocean_flight : (n : ℕ) → n < ocean_cells grid → IsSaltyUpTo total (flight_to_ocean whole n)
  ocean_flight n l =
      let water = one_of_cells (λ n. quantity_of Water (flight_to_ocean whole n)) (ocean_cells grid) (λ i h. ocean_number i 0) n l in
      let heat = one_of_cells (λ n. quantity_of Heat (flight_to_ocean whole n)) (ocean_cells grid) (λ i h. ocean_number i 1) n l in
      let salt = one_of_cells (λ n. quantity_of Salt (flight_to_ocean whole n)) (ocean_cells grid) (λ i h. ocean_number i 2) n l in
      let waters = has_water.to_ocean in
      let heats = has_heat.to_ocean in
      let salts = has_salt.to_ocean in
      record {
        water = (ocean_number n 0, omega (arith, ints, water, waters));
        heat = (ocean_number n 1, omega (arith, ints, heat, heats));
        salt = (ocean_number n 2, omega (arith, ints, salt, salts));
      }

  pub whole_up_to : IsWholeUpTo total grid whole
  whole_up_to = record {
    air_heat = list_up_to (total Heat) whole.air_heat lawful.stored.air_heat has_heat.air;
    air_vapour = list_up_to (total Water) whole.air_vapour lawful.stored.air_vapour has_water.air;
    land_heat = list_up_to (total Heat) whole.land_heat lawful.stored.land_heat has_heat.land;
    land_water = list_up_to (total Water) whole.land_water lawful.stored.land_water has_water.land;
    ice = list_up_to (total Water) whole.ice lawful.stored.ice has_water.ice;
    ice_heat = list_up_to (total Heat) whole.ice_heat lawful.stored.ice_heat has_heat.ice;
    water = list_up_to (total Water) whole.water lawful.stored.water has_water.ocean;
    heat = list_up_to (total Heat) whole.heat lawful.stored.heat has_heat.ocean;
    salt = list_up_to (total Salt) whole.salt lawful.stored.salt has_salt.ocean;
    to_ice = ice_flight;
    to_ocean = ocean_flight;
  }

-- WITHIN A COUPLING STEP

module _ (total : Quantity → ℤ) (grid : Grid) (mid : Mid) (lawful : IsMid grid mid) (room : (q : Quantity) → held_within grid mid q ≤ℤ total q) where
  -- what a lawful state holds isn't negative
  held_natural : (q : Quantity) → pos 0 ≤ℤ held grid mid.whole q
  unfolding stocks_of
  held_natural Heat =
      let stored = lawful.whole.stored in
      let a = stored_total mid.whole.air_heat stored.air_heat in
      let b = stored_total mid.whole.land_heat stored.land_heat in
      let c = stored_total mid.whole.ice_heat stored.ice_heat in
      let d = stored_total mid.whole.heat stored.heat in
      let e = flights_to_ice grid mid.whole stored Heat in
      let f = flights_to_ocean grid mid.whole stored Heat in
      omega (arith, ints, a, b, c, d, e, f)
  held_natural Water =
      let stored = lawful.whole.stored in
      let a = stored_total mid.whole.air_vapour stored.air_vapour in
      let b = stored_total mid.whole.land_water stored.land_water in
      let c = stored_total mid.whole.ice stored.ice in
      let d = stored_total mid.whole.water stored.water in
      let e = flights_to_ice grid mid.whole stored Water in
      let f = flights_to_ocean grid mid.whole stored Water in
      omega (arith, ints, a, b, c, d, e, f)
  held_natural Salt =
      let stored = lawful.whole.stored in
      let d = stored_total mid.whole.salt stored.salt in
      let e = flights_to_ice grid mid.whole stored Salt in
      let f = flights_to_ocean grid mid.whole stored Salt in
      omega (arith, ints, d, e, f)

  skin_water : pos 0 ≤ℤ total_of mid.skin_water
  skin_water = stored_total mid.skin_water lawful.skin_water.stored

  skin_heat : pos 0 ≤ℤ total_of mid.skin_heat
  skin_heat = stored_total mid.skin_heat lawful.skin_heat.stored

  skin_salt : pos 0 ≤ℤ total_of mid.skin_salt
  skin_salt = stored_total mid.skin_salt lawful.skin_salt.stored

  frazil_water : pos 0 ≤ℤ total_of mid.frazil_water
  frazil_water = stored_total mid.frazil_water lawful.frazil_water.stored

  frazil_heat : pos 0 ≤ℤ total_of mid.frazil_heat
  frazil_heat = stored_total mid.frazil_heat lawful.frazil_heat.stored

  whole_room : (q : Quantity) → held grid mid.whole q ≤ℤ total q
  whole_room Heat = let all = room Heat in let a = skin_heat in let b = frazil_heat in omega (arith, ints, all, a, b)
  whole_room Water = let all = room Water in let a = skin_water in let b = frazil_water in omega (arith, ints, all, a, b)
  whole_room Salt = let all = room Salt in let a = skin_salt in omega (arith, ints, all, a)

  pub mid_up_to : IsMidUpTo total grid mid
  mid_up_to =
      let heat = room Heat in
      let water = room Water in
      let salt = room Salt in
      let heats = held_natural Heat in
      let waters = held_natural Water in
      let salts = held_natural Salt in
      let a = skin_water in
      let b = skin_heat in
      let d = frazil_water in
      let e = frazil_heat in
      record {
        whole = whole_up_to total grid mid.whole lawful.whole whole_room;
        skin_water = list_up_to (total Water) mid.skin_water lawful.skin_water.stored (omega (arith, ints, water, waters, d));
        skin_heat = list_up_to (total Heat) mid.skin_heat lawful.skin_heat.stored (omega (arith, ints, heat, heats, e));
        skin_salt = list_up_to (total Salt) mid.skin_salt lawful.skin_salt.stored (omega (arith, ints, salt, salts));
        frazil_water = list_up_to (total Water) mid.frazil_water lawful.frazil_water.stored (omega (arith, ints, water, waters, a));
        frazil_heat = list_up_to (total Heat) mid.frazil_heat lawful.frazil_heat.stored (omega (arith, ints, heat, heats, b));
      }
