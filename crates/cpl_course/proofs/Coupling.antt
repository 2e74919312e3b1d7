-- A coupling step keeps all.
use Rattle.std.proofs.Common.{◌≡◌, ◌∙◌, refl, ap, ℕ, zero, suc, ◌+◌, ◌*◌, ◌≤◌, ◌^◌, arith}
use Rattle.std.specs.Prelude.{pos, ◌+ℤ◌, ◌-ℤ◌, ◌≤ℤ◌, ◌<ℤ◌}
use Rattle.std.specs.List.{range_with_len}
use Rattle.std.proofs.lemmas.Int.{ints}
use Rattle.cpl_fixed.specs.Amounts.{at}
use Rattle.cpl_fixed.specs.Totals.{total_of}
use Rattle.cpl_fixed.specs.declared.limits.TheConstants.{MOST_TOTAL}
use Rattle.cpl_fixed.specs.declared.words.Quantity.{Quantity}
use Rattle.cpl_fixed.specs.declared.words.Quantity.TheVariants.{Heat, Water, Salt}
use Rattle.cpl_namelist.specs.declared.names.Names.{Names}
use Rattle.cpl_namelist.specs.Ranges.{AreNames}
use Rattle.cpl_xgrid.specs.declared.grid.Grid.{Grid}
use Rattle.cpl_state.specs.declared.whole.Whole.{Whole}
use Rattle.cpl_state.specs.States.{land_cells, ocean_cells, layers, IsWhole, IsDry, HasLengths, AreStored, IsEmptyColumn}
use Rattle.cpl_state.specs.FastStep.{for_each}
use Rattle.cpl_state.specs.Stocks.{held, stocks_of, flying_to_ice, flying_to_ocean, whole_flight, quantity_of}
use Rattle.cpl_state.specs.Slow.{slow_after}
use Rattle.cpl_state.specs.SurfaceLaws.{CanCouple, KeepsSurface, sun_of_step}
use Rattle.cpl_state.specs.Cut.{cut_at, after_cut}
use Rattle.cpl_state.specs.CouplingStep.{after_fast, surface_after, sea_after, step_after, step_entered, step_left, step_gave, step_took, step_returned, added_at}
use Rattle.cpl_laws.proofs.Sums.{cells_same}
use Rattle.cpl_laws.proofs.Groups.{total_zeros}
use Rattle.cpl_laws.proofs.SlowSums.{zeros_at, cells_none, flight_heat, flight_water, flight_salt}
use Rattle.cpl_laws.proofs.SurfaceKept.{keeps_surface}
use Rattle.cpl_sea.proofs.TopTotals.{cut_number, cut_length}
use Rattle.cpl_sea.specs.Seas.{IsSea}
use Rattle.cpl_course.specs.Course.{IsGround, KeepsCoupling, in_flight, sea_at}
use Rattle.cpl_course.proofs.Seas.{face_range, face_dry, amounts_stored}
use Rattle.cpl_course.proofs.Taken.{ice_took, ocean_took}
use Rattle.cpl_course.proofs.Oceans.{total_in, sea_steps, sea_cut, cut_nothing, no_cut, cut_stored, cut_total}

module _ (grid : Grid) (names : Names) (whole : Whole) (ground : IsGround grid) (are : AreNames names) (lawful : IsWhole grid whole)
    (room : (q : Quantity) → held grid whole q ≤ℤ pos MOST_TOTAL)
    (heat : (held grid whole Heat +ℤ sun_of_step names whole) ≤ℤ pos MOST_TOTAL)
    (time : (whole.elapsed +ℤ names.dt) <ℤ pos (2 ^ 63)) where
  abbrev C : ℕ
  C = ocean_cells grid

  can : CanCouple grid names whole
  can = record {
    rules = ground.numbered.rules;
    air = ground.air;
    are_names = are;
    is_whole = lawful;
    heat = heat;
    water = room Water;
    salt = room Salt;
  }

  surface : KeepsSurface grid names whole
  surface = keeps_surface grid names whole ground.numbered ground.mates can

  cut_is : (q : Quantity) → total_in q (after_cut grid.ocean (sea_after grid names whole)) +ℤ total_of (for_each C (λ n. quantity_of q (whole_flight (cut_at grid.ocean (sea_after grid names whole) n))))
      ≡ total_in q (record { water = whole.water; heat = whole.heat; salt = whole.salt; faces = whole.faces }) +ℤ flying_to_ocean grid whole q
  unfolding sea_after
  cut_is q = cut_total grid names whole ground are lawful room q

  -- WHAT FLIES

  -- nothing flies to the ice before the cut
  none_to_ice : (q : Quantity) → flying_to_ice grid (surface_after grid names whole) q ≡ pos 0
  unfolding slow_after
  none_to_ice Heat = cells_none _ C (λ n l. let a = zeros_at (after_fast grid names whole).whole.to_ice surface.can_slow.flights.to_ice (n * 5 + 1) in let b = zeros_at (after_fast grid names whole).whole.to_ice surface.can_slow.flights.to_ice (n * 5 + 3) in omega (arith, ints, a, b))
  none_to_ice Water = cells_none _ C (λ n l. let a = zeros_at (after_fast grid names whole).whole.to_ice surface.can_slow.flights.to_ice (n * 5 + 0) in let b = zeros_at (after_fast grid names whole).whole.to_ice surface.can_slow.flights.to_ice (n * 5 + 2) in omega (arith, ints, a, b))
  none_to_ice Salt = cells_none _ C (λ n l. zeros_at (after_fast grid names whole).whole.to_ice surface.can_slow.flights.to_ice (n * 5 + 4))

  -- what is cut off flies to the ice
  cut_flies : (q : Quantity) → flying_to_ice grid (step_after grid names whole) q ≡ total_of (for_each C (λ n. quantity_of q (whole_flight (cut_at grid.ocean (sea_after grid names whole) n))))
  unfolding step_after
  cut_flies Heat = cells_same _ _ C (λ n l. let a = cut_number grid.ocean (sea_after grid names whole) n 1 l (omega arith) in let b = cut_number grid.ocean (sea_after grid names whole) n 3 l (omega arith) in λ i. a i +ℤ b i)
  cut_flies Water = cells_same _ _ C (λ n l. let a = cut_number grid.ocean (sea_after grid names whole) n 0 l (omega arith) in let b = cut_number grid.ocean (sea_after grid names whole) n 2 l (omega arith) in λ i. a i +ℤ b i)
  cut_flies Salt = cells_same _ _ C (λ n l. cut_number grid.ocean (sea_after grid names whole) n 4 l (omega arith))

  -- what the ice gives back flies to the ocean
  back_flies : (q : Quantity) → flying_to_ocean grid (step_after grid names whole) q ≡ flying_to_ocean grid (surface_after grid names whole) q
  unfolding step_after
  back_flies Heat = refl
  back_flies Water = refl
  back_flies Salt = refl

  -- TOTALS

  step_held : (q : Quantity) → held grid (step_after grid names whole) q ≡ held grid (surface_after grid names whole) q +ℤ flying_to_ocean grid whole q
  unfolding step_after stocks_of
  step_held Heat =
      let a = cut_is Heat in
      let b = cut_flies Heat in
      let c = none_to_ice Heat in
      let d = ap total_of surface.same.heat in
      omega (arith, ints, a, b, c, d)
  step_held Water =
      let a = cut_is Water in
      let b = cut_flies Water in
      let c = none_to_ice Water in
      let d = ap total_of surface.same.water in
      omega (arith, ints, a, b, c, d)
  step_held Salt =
      let a = cut_is Salt in
      let b = cut_flies Salt in
      let c = none_to_ice Salt in
      let d = ap total_of surface.same.salt in
      omega (arith, ints, a, b, c, d)

  heat_total : held grid (step_after grid names whole) Heat ≡ held grid whole Heat +ℤ step_entered grid names whole -ℤ step_left grid names whole
  heat_total = step_held Heat ∙ surface.heat

  water_total : held grid (step_after grid names whole) Water ≡ held grid whole Water
  water_total = step_held Water ∙ surface.water

  salt_total : held grid (step_after grid names whole) Salt ≡ held grid whole Salt
  salt_total = step_held Salt ∙ surface.salt

  -- THE STATE

  lengths_after : HasLengths grid (step_after grid names whole)
  unfolding step_after sea_after
  lengths_after =
      let own = surface.after.lengths in
      let sea = sea_cut grid names whole ground are lawful room in
      record {
        air_heat = own.air_heat;
        air_vapour = own.air_vapour;
        air_sun = own.air_sun;
        land_heat = own.land_heat;
        land_water = own.land_water;
        parts = own.parts;
        ice = own.ice;
        ice_heat = own.ice_heat;
        water = sea.water.count;
        heat = sea.heat.count;
        salt = sea.salt.count;
        faces = sea.faces.count;
        to_ice = cut_length grid.ocean (sea_at grid names whole names.ocean_steps);
        to_ocean = own.to_ocean;
      }

  stored_after : AreStored (step_after grid names whole)
  unfolding step_after sea_after
  stored_after =
      let own = surface.after.stored in
      let sea = sea_cut grid names whole ground are lawful room in
      let start = lawful.stored.elapsed in
      let dt = are.dt in
      record {
        elapsed = (omega (arith, ints, start.0, dt.0), time);
        air_heat = own.air_heat;
        air_vapour = own.air_vapour;
        air_sun = own.air_sun;
        land_heat = own.land_heat;
        land_water = own.land_water;
        parts = own.parts;
        ice = own.ice;
        ice_heat = own.ice_heat;
        water = amounts_stored grid ground.ocean (after_cut grid.ocean (sea_at grid names whole names.ocean_steps)).water sea.water;
        heat = amounts_stored grid ground.ocean (after_cut grid.ocean (sea_at grid names whole names.ocean_steps)).heat sea.heat;
        salt = amounts_stored grid ground.ocean (after_cut grid.ocean (sea_at grid names whole names.ocean_steps)).salt sea.salt;
        to_ice = cut_stored grid names whole ground are lawful room;
        to_ocean = own.to_ocean;
      }

  dry_after : (n : ℕ) → IsDry grid.ocean n → IsEmptyColumn grid (step_after grid names whole) n
  unfolding step_after sea_after
  dry_after n dry =
      let own = surface.after.dry_ocean n dry in
      let sea = cut_nothing grid names whole ground are lawful room n dry in
      record {
        parts = own.parts;
        ice = own.ice;
        ice_heat = own.ice_heat;
        water = sea.water;
        heat = sea.heat;
        salt = sea.salt;
        to_ice = λ k h. no_cut grid names whole ground are lawful room n k dry h;
        to_ocean = own.to_ocean;
      }

  whole_after : IsWhole grid (step_after grid names whole)
  unfolding step_after sea_after
  whole_after =
      let own = surface.after in
      let sea = sea_cut grid names whole ground are lawful room in
      let last = after_cut grid.ocean (sea_at grid names whole names.ocean_steps) in
      record {
        lengths = lengths_after;
        stored = stored_after;
        parts = own.parts;
        dry_land_heat = own.dry_land_heat;
        dry_land_water = own.dry_land_water;
        dry_ocean = dry_after;
        faces = record { range = face_range grid ground.ocean last sea; dry = face_dry grid ground.ocean last sea };
      }

  -- EXCHANGES

  -- what the ice gives back is what flies to the ocean
  back_is : (q : Quantity) → flying_to_ocean grid (surface_after grid names whole) q ≡ total_of (for_each C (λ n. quantity_of q (step_returned grid names whole n)))
  unfolding slow_after
  back_is Heat = flight_heat grid names.rates (after_fast grid names whole) ground.numbered surface.can_slow
  back_is Water = flight_water grid names.rates (after_fast grid names whole) ground.numbered surface.can_slow
  back_is Salt = flight_salt grid names.rates (after_fast grid names whole) ground.numbered surface.can_slow

  -- what the ocean added is what flew to it
  sea_took : (q : Quantity) → total_of (for_each C (λ n. quantity_of q (added_at grid whole n))) ≡ flying_to_ocean grid whole q
  sea_took q = ocean_took grid whole ground.numbered.rules.column.layers.0 lawful.lengths q

  balance : (place : ℕ) → at (in_flight grid whole) place +ℤ at (step_gave grid names whole) place ≡ at (step_took grid names whole) place +ℤ at (in_flight grid (step_after grid names whole)) place
  unfolding step_gave step_took
  balance zero = let e = surface.land_heat in omega (arith, ints, e)
  balance (suc zero) = let e = surface.land_water in omega (arith, ints, e)
  balance (suc (suc zero)) = refl
  balance (suc (suc (suc zero))) = let e = surface.ice_heat in omega (arith, ints, e)
  balance (suc (suc (suc (suc zero)))) = let e = surface.ice_water in omega (arith, ints, e)
  balance (suc (suc (suc (suc (suc zero))))) = refl
  balance (suc (suc (suc (suc (suc (suc zero)))))) = let e = surface.slow.exchange_heat in omega (arith, ints, e)
  balance (suc (suc (suc (suc (suc (suc (suc zero))))))) = let e = surface.slow.exchange_water in omega (arith, ints, e)
  balance (suc (suc (suc (suc (suc (suc (suc (suc zero)))))))) =
      let a = total_zeros (range_with_len 0 (land_cells grid)) in
      let b = total_zeros (range_with_len 0 C) in
      omega (arith, ints, a, b)
  balance (suc (suc (suc (suc (suc (suc (suc (suc (suc zero))))))))) = let e = cut_flies Heat in let t = ice_took grid whole Heat in omega (arith, ints, e, t)
  balance (suc (suc (suc (suc (suc (suc (suc (suc (suc (suc zero)))))))))) = let e = cut_flies Water in let t = ice_took grid whole Water in omega (arith, ints, e, t)
  balance (suc (suc (suc (suc (suc (suc (suc (suc (suc (suc (suc zero))))))))))) = let e = cut_flies Salt in let t = ice_took grid whole Salt in omega (arith, ints, e, t)
  balance (suc (suc (suc (suc (suc (suc (suc (suc (suc (suc (suc (suc zero)))))))))))) = let a = back_flies Heat in let b = back_is Heat in let t = sea_took Heat in omega (arith, ints, a, b, t)
  balance (suc (suc (suc (suc (suc (suc (suc (suc (suc (suc (suc (suc (suc zero))))))))))))) = let a = back_flies Water in let b = back_is Water in let t = sea_took Water in omega (arith, ints, a, b, t)
  balance (suc (suc (suc (suc (suc (suc (suc (suc (suc (suc (suc (suc (suc (suc zero)))))))))))))) = let a = back_flies Salt in let b = back_is Salt in let t = sea_took Salt in omega (arith, ints, a, b, t)
  balance (suc (suc (suc (suc (suc (suc (suc (suc (suc (suc (suc (suc (suc (suc (suc place))))))))))))))) = refl

  -- all that was in flight was taken
  landed : (place : ℕ) → 9 ≤ place → at (step_took grid names whole) place ≡ at (in_flight grid whole) place
  unfolding step_took
  landed zero l = absurd (omega arith)
  landed (suc zero) l = absurd (omega arith)
  landed (suc (suc zero)) l = absurd (omega arith)
  landed (suc (suc (suc zero))) l = absurd (omega arith)
  landed (suc (suc (suc (suc zero)))) l = absurd (omega arith)
  landed (suc (suc (suc (suc (suc zero))))) l = absurd (omega arith)
  landed (suc (suc (suc (suc (suc (suc zero)))))) l = absurd (omega arith)
  landed (suc (suc (suc (suc (suc (suc (suc zero))))))) l = absurd (omega arith)
  landed (suc (suc (suc (suc (suc (suc (suc (suc zero)))))))) l = absurd (omega arith)
  landed (suc (suc (suc (suc (suc (suc (suc (suc (suc zero))))))))) l = ice_took grid whole Heat
  landed (suc (suc (suc (suc (suc (suc (suc (suc (suc (suc zero)))))))))) l = ice_took grid whole Water
  landed (suc (suc (suc (suc (suc (suc (suc (suc (suc (suc (suc zero))))))))))) l = ice_took grid whole Salt
  landed (suc (suc (suc (suc (suc (suc (suc (suc (suc (suc (suc (suc zero)))))))))))) l = sea_took Heat
  landed (suc (suc (suc (suc (suc (suc (suc (suc (suc (suc (suc (suc (suc zero))))))))))))) l = sea_took Water
  landed (suc (suc (suc (suc (suc (suc (suc (suc (suc (suc (suc (suc (suc (suc zero)))))))))))))) l = sea_took Salt
  landed (suc (suc (suc (suc (suc (suc (suc (suc (suc (suc (suc (suc (suc (suc (suc place))))))))))))))) l = refl

  cut_kept : IsSea grid.ocean (layers grid) (after_cut grid.ocean (sea_after grid names whole))
  unfolding sea_after
  cut_kept = sea_cut grid names whole ground are lawful room

  pub keeps_coupling : KeepsCoupling grid names whole
  keeps_coupling = record {
    surface = surface;
    sea = λ i l. sea_steps grid names whole ground are lawful room i;
    cut = cut_kept;
    after = whole_after;
    heat = heat_total;
    water = water_total;
    salt = salt_total;
    balance = balance;
    landed = landed;
  }
