-- The slow part of a coupling step keeps all: ranges, totals, and that the state is lawful.
use Rattle.std.proofs.Common.{◌≡◌, ◌∙◌, sym, ap, ℕ, zero, suc, ◌+◌, ◌*◌, ◌/◌, ◌%◌, ◌<◌, ◌≤◌, arith, inl, inr, List}
use Rattle.std.specs.Prelude.{ℤ, pos, ◌+ℤ◌, ◌≤ℤ◌, All}
use Rattle.std.specs.List.{range_with_len}
use Rattle.std.proofs.lemmas.Int.{ints}
use Rattle.std.proofs.lemmas.Nat.{div_below, mod_below}
use Rattle.std.proofs.lemmas.List.Elements.{All-from_get_or}
use Rattle.std.proofs.lemmas.List.FromFn.{length-map-range_with_len}
use Rattle.cpl_fixed.specs.Amounts.{IsAmount, at}
use Rattle.cpl_fixed.specs.Totals.{total_of}
use Rattle.cpl_fixed.specs.declared.limits.TheConstants.{MOST_TOTAL, PARTS}
use Rattle.cpl_fixed.specs.declared.rates.Rates.{Rates}
use Rattle.cpl_fixed.specs.declared.words.Quantity.TheVariants.{Heat, Water, Salt}
use Rattle.cpl_land.specs.Land.{IsLandCell, dried}
use Rattle.cpl_ice.specs.declared.cell.IceCell.{IceCell}
use Rattle.cpl_ice.specs.declared.parts.Salty.{Salty}
use Rattle.cpl_ice.specs.Cells.{IsIceCell, IsSalty}
use Rattle.cpl_ice.specs.Slow.{CanSlow, water_of, heat_of}
use Rattle.cpl_xgrid.specs.declared.grid.Grid.{Grid}
use Rattle.cpl_state.specs.declared.whole.Mid.{Mid}
use Rattle.cpl_state.specs.Stored.{IsStored}
use Rattle.cpl_state.specs.States.{land_cells, ocean_cells, categories, part_count, of_cell, all_of_cell, land_cell, ice_cell, IsWet, IsDry, IsWhole, HasLengths, AreStored, IsEmptyColumn}
use Rattle.cpl_state.specs.FastStep.{for_each}
use Rattle.cpl_state.specs.Stocks.{stocks_of}
use Rattle.cpl_state.specs.Slow.{runoff_of, arrived, slow_cell, returned_at, for_each_place, to_ocean_number, slow_after}
use Rattle.cpl_state.specs.SlowLaws.{CanSlowAll, KeepsSlow, IsGainAmount}
use Rattle.cpl_diffusion.proofs.Sums.{sum_to-same}
use Rattle.cpl_laws.specs.Once.{IsNumbered}
use Rattle.cpl_laws.proofs.Sums.{total_range, total_add}
use Rattle.cpl_laws.proofs.Flows.{stored_natural}
use Rattle.cpl_laws.proofs.FastRanges.{cells_natural, one_of_cells}
use Rattle.cpl_laws.proofs.Naturals.{are_natural}
use Rattle.cpl_laws.proofs.Held.{flights_to_ice, stored_amount, all_amounts, read_cell}
use Rattle.cpl_laws.proofs.IceSteps.{IsBlock}
use Rattle.cpl_laws.proofs.IceCells.{some, few, sound, block_sum, read_place, ice_block, heat_block, no_parts, no_ice, no_heat, wet_or_dry}
use Rattle.cpl_laws.proofs.SlowSums.{block_most, block_amounts, runs, came_heat, came_water, exchange_heat, exchange_water, came_least, slow_is, back_salt, ice_before, heat_before, next_ice, next_heat, ice_after, heat_after, next_land_heat, next_land_water, land_heat_sum, land_water_sum, no_flight, water_kept, heat_kept, salt_kept, heat_total, water_total, salt_total}

-- a place among those of all cells
in_place : (grid : Grid) (width : ℕ) → 0 < width → (i : ℕ) → i < width * ocean_cells grid → (i / width < ocean_cells grid) × (i % width < width)
in_place grid width some i l = (div_below i width (ocean_cells grid) some (omega arith), mod_below i width some)

places_amounts : (grid : Grid) (width : ℕ) (f : ℕ → ℕ → ℤ) → 0 < width → ((n k : ℕ) → n < ocean_cells grid → k < width → IsAmount (f n k)) → All IsStored (for_each_place grid width f)
places_amounts grid width f some h = all_amounts (λ i. f (i / width) (i % width)) (width * ocean_cells grid) (λ i l. let here = in_place grid width some i l in h (i / width) (i % width) here.0 here.1)

-- a number of a flight is one of its three
one_of_three : (it : Salty) → IsSalty it → (k : ℕ) → k < 3 → IsAmount (to_ocean_number it k)
one_of_three it is zero l = is.water
one_of_three it is (suc zero) l = is.heat
one_of_three it is (suc (suc zero)) l = is.salt
one_of_three it is (suc (suc (suc k))) l = absurd (omega arith)

none_of_three : (it : Salty) → it.water ≡ pos 0 → it.heat ≡ pos 0 → it.salt ≡ pos 0 → (k : ℕ) → k < 3 → to_ocean_number it k ≡ pos 0
none_of_three it water heat salt zero l = water
none_of_three it water heat salt (suc zero) l = heat
none_of_three it water heat salt (suc (suc zero)) l = salt
none_of_three it water heat salt (suc (suc (suc k))) l = absurd (omega arith)

module _ (grid : Grid) (rates : Rates) (mid : Mid) (is : IsNumbered grid) (can : CanSlowAll grid rates mid) where
  back_salt_least : (n : ℕ) → n < ocean_cells grid → pos 0 ≤ℤ (returned_at grid rates mid n).salt
  back_salt_least n l =
      let e = back_salt grid rates mid is can n l in
      let least = stored_natural mid.skin_salt can.is_mid.skin_salt.stored n in
      omega (arith, ints, e, least)

  next_land_heat_least : (n : ℕ) → pos 0 ≤ℤ (dried rates (land_cell grid mid.whole n)).heat
  next_land_heat_least n = let most = (runs grid rates mid is can n).heat_most in omega (arith, ints, most)

  next_land_water_least : (n : ℕ) → pos 0 ≤ℤ (dried rates (land_cell grid mid.whole n)).water
  next_land_water_least n = let most = (runs grid rates mid is can n).water_most in omega (arith, ints, most)

  -- ROOM

  record HasRoom : Type 0 where
    land_heat : total_of mid.whole.land_heat ≤ℤ pos MOST_TOTAL
    land_water : total_of mid.whole.land_water ≤ℤ pos MOST_TOTAL
    frazil_heat : total_of mid.frazil_heat ≤ℤ pos MOST_TOTAL
    frazil_water : total_of mid.frazil_water ≤ℤ pos MOST_TOTAL
    skin_heat : total_of mid.skin_heat ≤ℤ pos MOST_TOTAL
    skin_water : total_of mid.skin_water ≤ℤ pos MOST_TOTAL
    skin_salt : total_of mid.skin_salt ≤ℤ pos MOST_TOTAL
    with_heat : (total_of mid.whole.ice_heat +ℤ total_of mid.frazil_heat +ℤ total_of mid.skin_heat +ℤ total_of (for_each (ocean_cells grid) (came_heat grid rates mid is can))) ≤ℤ pos MOST_TOTAL
    with_water : (total_of mid.whole.ice +ℤ total_of mid.frazil_water +ℤ total_of mid.skin_water +ℤ total_of (for_each (ocean_cells grid) (came_water grid rates mid is can))) ≤ℤ pos MOST_TOTAL

  has_room : HasRoom
  unfolding stocks_of
  has_room =
      let s = can.is_mid.whole.stored in
      let heat = can.heat in
      let water = can.water in
      let salt = can.salt in
      let natural = are_natural grid mid can.is_mid in
      let to_ice_heat = flights_to_ice grid mid.whole s Heat in
      let to_ocean_heat = no_flight grid rates mid is can Heat in
      let to_ice_water = flights_to_ice grid mid.whole s Water in
      let to_ocean_water = no_flight grid rates mid is can Water in
      let to_ice_salt = flights_to_ice grid mid.whole s Salt in
      let to_ocean_salt = no_flight grid rates mid is can Salt in
      let land = land_heat_sum grid rates mid is can in
      let land_left = cells_natural (next_land_heat grid rates mid is can) (land_cells grid) (λ n l. next_land_heat_least n) in
      let exchange = exchange_heat grid rates mid is can in
      let lands = land_water_sum grid rates mid is can in
      let lands_left = cells_natural (next_land_water grid rates mid is can) (land_cells grid) (λ n l. next_land_water_least n) in
      let exchanges = exchange_water grid rates mid is can in
      record {
        land_heat = omega (arith, ints, heat, natural.air_heat, natural.ice_heat, natural.heat, to_ice_heat, to_ocean_heat, natural.skin_heat, natural.frazil_heat);
        land_water = omega (arith, ints, water, natural.air_vapour, natural.ice, natural.water, to_ice_water, to_ocean_water, natural.skin_water, natural.frazil_water);
        frazil_heat = omega (arith, ints, heat, natural.air_heat, natural.land_heat, natural.ice_heat, natural.heat, to_ice_heat, to_ocean_heat, natural.skin_heat);
        frazil_water = omega (arith, ints, water, natural.air_vapour, natural.land_water, natural.ice, natural.water, to_ice_water, to_ocean_water, natural.skin_water);
        skin_heat = omega (arith, ints, heat, natural.air_heat, natural.land_heat, natural.ice_heat, natural.heat, to_ice_heat, to_ocean_heat, natural.frazil_heat);
        skin_water = omega (arith, ints, water, natural.air_vapour, natural.land_water, natural.ice, natural.water, to_ice_water, to_ocean_water, natural.frazil_water);
        skin_salt = omega (arith, ints, salt, natural.salt, to_ice_salt, to_ocean_salt);
        with_heat = omega (arith, ints, heat, natural.air_heat, natural.heat, to_ice_heat, to_ocean_heat, land, land_left, exchange);
        with_water = omega (arith, ints, water, natural.air_vapour, natural.water, to_ice_water, to_ocean_water, lands, lands_left, exchanges);
      }

  -- THE LAND

  land_is : (n : ℕ) → n < land_cells grid → IsLandCell (land_cell grid mid.whole n)
  land_is n l = record {
    heat = stored_amount mid.whole.land_heat can.is_mid.whole.stored.land_heat has_room.land_heat n;
    water = stored_amount mid.whole.land_water can.is_mid.whole.stored.land_water has_room.land_water n;
    area = is.rules.land.each n (pos 0) (let e = is.rules.land.count in omega arith);
  }

  runoff_is : (n : ℕ) → n < land_cells grid → IsGainAmount (runoff_of grid rates mid.whole n)
  unfolding runoff_of
  runoff_is n l =
      let run = runs grid rates mid is can n in
      let cell = land_is n l in
      record { heat = (run.heat_least, omega (arith, ints, run.heat_most, cell.heat.1)); water = (run.water_least, omega (arith, ints, run.water_most, cell.water.1)) }

  drained_is : (n : ℕ) → n < land_cells grid → IsLandCell (dried rates (land_cell grid mid.whole n))
  drained_is n l =
      let run = runs grid rates mid is can n in
      let cell = land_is n l in
      record {
        heat = (next_land_heat_least n, omega (arith, ints, run.heat_least, cell.heat.1));
        water = (next_land_water_least n, omega (arith, ints, run.water_least, cell.water.1));
        area = cell.area;
      }

  -- WHAT ARRIVES, AND WHAT GOES BACK

  ice_heat_least : pos 0 ≤ℤ total_of mid.whole.ice_heat
  ice_heat_least = (are_natural grid mid can.is_mid).ice_heat

  ice_least : pos 0 ≤ℤ total_of mid.whole.ice
  ice_least = (are_natural grid mid can.is_mid).ice

  arrival_is : (n : ℕ) → n < ocean_cells grid → IsGainAmount (arrived grid rates mid.whole n)
  arrival_is n l =
      let room = has_room in
      let heat = one_of_cells (came_heat grid rates mid is can) (ocean_cells grid) (λ m h. (came_least grid rates mid is can m).1) n l in
      let water = one_of_cells (came_water grid rates mid is can) (ocean_cells grid) (λ m h. (came_least grid rates mid is can m).0) n l in
      let a = ice_heat_least in
      let b = ice_least in
      let natural = are_natural grid mid can.is_mid in
      record {
        heat = ((came_least grid rates mid is can n).1, omega (arith, ints, heat, room.with_heat, a, natural.skin_heat, natural.frazil_heat));
        water = ((came_least grid rates mid is can n).0, omega (arith, ints, water, room.with_water, b, natural.skin_water, natural.frazil_water));
      }

  -- what the ice has after it, and what goes back, keeps within the most
  record HasRoomAfter : Type 0 where
    ice : total_of (next_ice grid rates mid is can) ≤ℤ pos MOST_TOTAL
    ice_heat : total_of (next_heat grid rates mid is can) ≤ℤ pos MOST_TOTAL
    back_water : total_of (for_each (ocean_cells grid) (λ n. (returned_at grid rates mid n).water)) ≤ℤ pos MOST_TOTAL
    back_heat : total_of (for_each (ocean_cells grid) (λ n. (returned_at grid rates mid n).heat)) ≤ℤ pos MOST_TOTAL
    back_salt : total_of (for_each (ocean_cells grid) (λ n. (returned_at grid rates mid n).salt)) ≤ℤ pos MOST_TOTAL

  block_natural : (count bound : ℕ) (xs : List ℤ) → IsBlock count bound xs → bound ≤ count → pos 0 ≤ℤ total_of xs
  block_natural count bound xs block within =
      let sum = block_sum count bound xs block within in
      let least = cells_natural (at xs) bound (λ k l. block.least k) in
      let same = total_range (at xs) bound in
      omega (arith, ints, sum, least, same)

  has_room_after : HasRoomAfter
  has_room_after =
      let room = has_room in
      let water = water_kept grid rates mid is can in
      let heat = heat_kept grid rates mid is can in
      let salt = salt_kept grid rates mid is can in
      let K_few = few grid rates mid is can.is_mid in
      let a = cells_natural (λ n. (returned_at grid rates mid n).water) (ocean_cells grid) (λ n l. (slow_is grid rates mid is can n l).water_least) in
      let b = cells_natural (λ n. (returned_at grid rates mid n).heat) (ocean_cells grid) (λ n l. (slow_is grid rates mid is can n l).heat_least) in
      let c = cells_natural (λ n. total_of (slow_cell grid rates mid n).ice) (ocean_cells grid) (λ n l. block_natural 5 (categories grid) (slow_cell grid rates mid n).ice (slow_is grid rates mid is can n l).ice K_few) in
      let d = cells_natural (λ n. total_of (slow_cell grid rates mid n).heat) (ocean_cells grid) (λ n l. block_natural 5 (categories grid) (slow_cell grid rates mid n).heat (slow_is grid rates mid is can n l).heat K_few) in
      let e = ice_after grid rates mid is can in
      let f = heat_after grid rates mid is can in
      record {
        ice = omega (arith, ints, room.with_water, water, a);
        ice_heat = omega (arith, ints, room.with_heat, heat, b);
        back_water = omega (arith, ints, room.with_water, water, c, e);
        back_heat = omega (arith, ints, room.with_heat, heat, d, f);
        back_salt = omega (arith, ints, room.skin_salt, salt);
      }

  returned_is : (n : ℕ) → n < ocean_cells grid → IsSalty (returned_at grid rates mid n)
  returned_is n l =
      let room = has_room_after in
      let water = one_of_cells (λ n. (returned_at grid rates mid n).water) (ocean_cells grid) (λ n l. (slow_is grid rates mid is can n l).water_least) n l in
      let heat = one_of_cells (λ n. (returned_at grid rates mid n).heat) (ocean_cells grid) (λ n l. (slow_is grid rates mid is can n l).heat_least) n l in
      let salt = one_of_cells (λ n. (returned_at grid rates mid n).salt) (ocean_cells grid) back_salt_least n l in
      record {
        water = ((slow_is grid rates mid is can n l).water_least, omega (arith, ints, water, room.back_water));
        heat = ((slow_is grid rates mid is can n l).heat_least, omega (arith, ints, heat, room.back_heat));
        salt = (back_salt_least n l, omega (arith, ints, salt, room.back_salt));
      }

  -- CELLS OF THE ICE BEFORE IT

  cell_water_least : (n : ℕ) → pos 0 ≤ℤ water_of (ice_cell grid mid n)
  cell_water_least n =
      let ice = block_natural 5 (categories grid) (ice_cell grid mid n).ice (ice_block grid rates mid is can.is_mid n) (few grid rates mid is can.is_mid) in
      let frazil = stored_natural mid.frazil_water can.is_mid.frazil_water.stored n in
      let skin = stored_natural mid.skin_water can.is_mid.skin_water.stored n in
      omega (arith, ints, ice, frazil, skin)

  cell_heat_least : (n : ℕ) → pos 0 ≤ℤ heat_of (ice_cell grid mid n)
  cell_heat_least n =
      let heat = block_natural 5 (categories grid) (ice_cell grid mid n).heat (heat_block grid rates mid is can.is_mid n) (few grid rates mid is can.is_mid) in
      let frazil = stored_natural mid.frazil_heat can.is_mid.frazil_heat.stored n in
      let skin = stored_natural mid.skin_heat can.is_mid.skin_heat.stored n in
      omega (arith, ints, heat, frazil, skin)

  -- with what arrives, each keeps within the most
  cell_water_most : (n : ℕ) → n < ocean_cells grid → (water_of (ice_cell grid mid n) +ℤ (arrived grid rates mid.whole n).water) ≤ℤ pos MOST_TOTAL
  cell_water_most n l =
      let f = λ (m : ℕ). water_of (ice_cell grid mid m) in
      let own = one_of_cells (λ m. f m +ℤ came_water grid rates mid is can m) (ocean_cells grid) (λ m h. let a = cell_water_least m in let b = came_least grid rates mid is can m in omega (arith, ints, a, b.0)) n l in
      let sum = total_add f (came_water grid rates mid is can) (range_with_len 0 (ocean_cells grid)) in
      let before = ice_before grid rates mid is can in
      let room = has_room in
      omega (arith, ints, own, sum, before, room.with_water)

  cell_heat_most : (n : ℕ) → n < ocean_cells grid → (heat_of (ice_cell grid mid n) +ℤ (arrived grid rates mid.whole n).heat) ≤ℤ pos MOST_TOTAL
  cell_heat_most n l =
      let f = λ (m : ℕ). heat_of (ice_cell grid mid m) in
      let own = one_of_cells (λ m. f m +ℤ came_heat grid rates mid is can m) (ocean_cells grid) (λ m h. let a = cell_heat_least m in let b = came_least grid rates mid is can m in omega (arith, ints, a, b.1)) n l in
      let sum = total_add f (came_heat grid rates mid is can) (range_with_len 0 (ocean_cells grid)) in
      let before = heat_before grid rates mid is can in
      let room = has_room in
      omega (arith, ints, own, sum, before, room.with_heat)

  ice_is : (n : ℕ) → IsWet grid.ocean n → IsIceCell (ice_cell grid mid n)
  ice_is n wet =
      let K_few = few grid rates mid is can.is_mid in
      let cell = sound grid rates mid is can.is_mid n wet in
      let area = is.rules.ocean.each n (pos 0) (let e = is.rules.ocean.count in let l = wet.0 in omega arith) in
      let frazil_water = stored_natural mid.frazil_water can.is_mid.frazil_water.stored n in
      let skin_water = stored_natural mid.skin_water can.is_mid.skin_water.stored n in
      let frazil_heat = stored_natural mid.frazil_heat can.is_mid.frazil_heat.stored n in
      let skin_heat = stored_natural mid.skin_heat can.is_mid.skin_heat.stored n in
      let water = cell_water_most n wet.0 in
      let heat = cell_heat_most n wet.0 in
      let came = came_least grid rates mid is can n in
      record {
        area = (omega (arith, ints, area.0, wet.1), area.1);
        categories = is.rules.column.categories;
        parts = block_amounts 6 (categories grid + 1) (ice_cell grid mid n).parts cell.parts (omega (arith, K_few)) (omega (arith, ints, cell.whole));
        whole = cell.whole;
        ice = block_amounts 5 (categories grid) (ice_cell grid mid n).ice cell.ice K_few (omega (arith, ints, water, frazil_water, skin_water, came.0));
        heat = block_amounts 5 (categories grid) (ice_cell grid mid n).heat cell.heat K_few (omega (arith, ints, heat, frazil_heat, skin_heat, came.1));
        frazil_water = stored_amount mid.frazil_water can.is_mid.frazil_water.stored has_room.frazil_water n;
        frazil_heat = stored_amount mid.frazil_heat can.is_mid.frazil_heat.stored has_room.frazil_heat n;
        skin = record {
          water = stored_amount mid.skin_water can.is_mid.skin_water.stored has_room.skin_water n;
          heat = stored_amount mid.skin_heat can.is_mid.skin_heat.stored has_room.skin_heat n;
          salt = stored_amount mid.skin_salt can.is_mid.skin_salt.stored has_room.skin_salt n;
        };
      }

  can_slow : (n : ℕ) → IsWet grid.ocean n → CanSlow (ice_cell grid mid n) (arrived grid rates mid.whole n)
  can_slow n wet =
      let came = came_least grid rates mid is can n in
      record { runoff_water = came.0; runoff_heat = came.1; water = cell_water_most n wet.0; heat = cell_heat_most n wet.0 }

  -- THE STATE AFTER IT

  dry_part : (n k : ℕ) → IsDry grid.ocean n → k < part_count grid → at (slow_cell grid rates mid n).parts k ≡ pos 0
  dry_part n k dry h = ap (λ (c : IceCell). at c.parts k) ((slow_is grid rates mid is can n dry.0).dry dry).0 ∙ no_parts grid rates mid is can.is_mid n k dry h

  slow_part : (n k : ℕ) → n < ocean_cells grid → k < part_count grid → IsAmount (at (slow_cell grid rates mid n).parts k)
  slow_part n k l h =
      let cell = slow_is grid rates mid is can n l in
      elim (wet_or_dry grid rates mid is can.is_mid n l) [
        | inl wet ↦
            let own = block_most 6 (categories grid + 1) (slow_cell grid rates mid n).parts cell.parts (let e = few grid rates mid is can.is_mid in omega arith) k h in
            let sum = cell.wet wet in
            (cell.parts.least k, omega (arith, ints, own, sum))
        | inr dry ↦ let none = dry_part n k dry h in (cell.parts.least k, omega (arith, ints, none))
      ]

  slow_ice : (n k : ℕ) → n < ocean_cells grid → k < categories grid → IsAmount (at (slow_cell grid rates mid n).ice k)
  slow_ice n k l h =
      let cell = slow_is grid rates mid is can n l in
      let own = block_most 5 (categories grid) (slow_cell grid rates mid n).ice cell.ice (few grid rates mid is can.is_mid) k h in
      let all = one_of_cells (λ m. total_of (slow_cell grid rates mid m).ice) (ocean_cells grid) (λ m j. block_natural 5 (categories grid) (slow_cell grid rates mid m).ice (slow_is grid rates mid is can m j).ice (few grid rates mid is can.is_mid)) n l in
      let sum = ice_after grid rates mid is can in
      let room = has_room_after in
      (cell.ice.least k, omega (arith, ints, own, all, sum, room.ice))

  slow_heat : (n k : ℕ) → n < ocean_cells grid → k < categories grid → IsAmount (at (slow_cell grid rates mid n).heat k)
  slow_heat n k l h =
      let cell = slow_is grid rates mid is can n l in
      let own = block_most 5 (categories grid) (slow_cell grid rates mid n).heat cell.heat (few grid rates mid is can.is_mid) k h in
      let all = one_of_cells (λ m. total_of (slow_cell grid rates mid m).heat) (ocean_cells grid) (λ m j. block_natural 5 (categories grid) (slow_cell grid rates mid m).heat (slow_is grid rates mid is can m j).heat (few grid rates mid is can.is_mid)) n l in
      let sum = heat_after grid rates mid is can in
      let room = has_room_after in
      (cell.heat.least k, omega (arith, ints, own, all, sum, room.ice_heat))

  some_part : 0 < part_count grid
  some_part = omega arith

  lengths_after : HasLengths grid (slow_after grid rates mid)
  unfolding slow_after
  lengths_after = record {
    air_heat = can.is_mid.whole.lengths.air_heat;
    air_vapour = can.is_mid.whole.lengths.air_vapour;
    air_sun = can.is_mid.whole.lengths.air_sun;
    land_heat = length-map-range_with_len (next_land_heat grid rates mid is can) 0 (land_cells grid);
    land_water = length-map-range_with_len (next_land_water grid rates mid is can) 0 (land_cells grid);
    parts = length-map-range_with_len (λ i. at (slow_cell grid rates mid (i / part_count grid)).parts (i % part_count grid)) 0 (part_count grid * ocean_cells grid);
    ice = length-map-range_with_len (λ i. at (slow_cell grid rates mid (i / categories grid)).ice (i % categories grid)) 0 (categories grid * ocean_cells grid);
    ice_heat = length-map-range_with_len (λ i. at (slow_cell grid rates mid (i / categories grid)).heat (i % categories grid)) 0 (categories grid * ocean_cells grid);
    water = can.is_mid.whole.lengths.water;
    heat = can.is_mid.whole.lengths.heat;
    salt = can.is_mid.whole.lengths.salt;
    faces = can.is_mid.whole.lengths.faces;
    to_ice = can.is_mid.whole.lengths.to_ice;
    to_ocean = length-map-range_with_len (λ i. to_ocean_number (returned_at grid rates mid (i / 3)) (i % 3)) 0 (3 * ocean_cells grid);
  }

  stored_after : AreStored (slow_after grid rates mid)
  unfolding slow_after
  stored_after = record {
    elapsed = can.is_mid.whole.stored.elapsed;
    air_heat = can.is_mid.whole.stored.air_heat;
    air_vapour = can.is_mid.whole.stored.air_vapour;
    air_sun = can.is_mid.whole.stored.air_sun;
    land_heat = all_amounts (next_land_heat grid rates mid is can) (land_cells grid) (λ n l. (drained_is n l).heat);
    land_water = all_amounts (next_land_water grid rates mid is can) (land_cells grid) (λ n l. (drained_is n l).water);
    parts = places_amounts grid (part_count grid) (λ n k. at (slow_cell grid rates mid n).parts k) some_part slow_part;
    ice = places_amounts grid (categories grid) (λ n k. at (slow_cell grid rates mid n).ice k) (some grid rates mid is can.is_mid) slow_ice;
    ice_heat = places_amounts grid (categories grid) (λ n k. at (slow_cell grid rates mid n).heat k) (some grid rates mid is can.is_mid) slow_heat;
    water = can.is_mid.whole.stored.water;
    heat = can.is_mid.whole.stored.heat;
    salt = can.is_mid.whole.stored.salt;
    to_ice = can.is_mid.whole.stored.to_ice;
    to_ocean = places_amounts grid 3 (λ n k. to_ocean_number (returned_at grid rates mid n) k) (omega arith) (λ n k l h. one_of_three (returned_at grid rates mid n) (returned_is n l) k h);
  }

  -- the ice, whose total is in range
  amounts_within : (xs : List ℤ) → All IsStored xs → total_of xs ≤ℤ pos MOST_TOTAL → All IsAmount xs
  amounts_within xs all most = All-from_get_or IsAmount xs (pos 0) (λ n l. stored_amount xs all most n)

  ices_after : All IsAmount (slow_after grid rates mid).ice
  unfolding slow_after
  ices_after = amounts_within (next_ice grid rates mid is can) stored_after.ice has_room_after.ice

  heats_after : All IsAmount (slow_after grid rates mid).ice_heat
  unfolding slow_after
  heats_after = amounts_within (next_heat grid rates mid is can) stored_after.ice_heat has_room_after.ice_heat

  parts_after : (n : ℕ) → IsWet grid.ocean n → total_of (all_of_cell (part_count grid) n (slow_after grid rates mid).parts) ≡ PARTS
  unfolding slow_after
  parts_after n wet =
      let cell = slow_is grid rates mid is can n wet.0 in
      let f = λ (n k : ℕ). at (slow_cell grid rates mid n).parts k in
      total_range (λ k. of_cell (part_count grid) n k (for_each_place grid (part_count grid) f)) (part_count grid)
      ∙ sum_to-same (λ k. of_cell (part_count grid) n k (for_each_place grid (part_count grid) f)) (f n) (part_count grid) (λ k h. read_place grid (part_count grid) f n k wet.0 h)
      ∙ sym (block_sum 6 (categories grid + 1) (slow_cell grid rates mid n).parts cell.parts (let e = few grid rates mid is can.is_mid in omega arith))
      ∙ cell.wet wet

  dry_after : (n : ℕ) → IsDry grid.ocean n → IsEmptyColumn grid (slow_after grid rates mid) n
  unfolding slow_after
  dry_after n dry =
      let own = can.is_mid.whole.dry_ocean n dry in
      let same = ((slow_is grid rates mid is can n dry.0).dry dry).0 in
      let back = ((slow_is grid rates mid is can n dry.0).dry dry).1 in
      record {
        parts = λ k h. read_place grid (part_count grid) (λ n k. at (slow_cell grid rates mid n).parts k) n k dry.0 h ∙ dry_part n k dry h;
        ice = λ k h. read_place grid (categories grid) (λ n k. at (slow_cell grid rates mid n).ice k) n k dry.0 h ∙ ap (λ (c : IceCell). at c.ice k) same ∙ no_ice grid rates mid is can.is_mid n k dry h;
        ice_heat = λ k h. read_place grid (categories grid) (λ n k. at (slow_cell grid rates mid n).heat k) n k dry.0 h ∙ ap (λ (c : IceCell). at c.heat k) same ∙ no_heat grid rates mid is can.is_mid n k dry h;
        water = own.water;
        heat = own.heat;
        salt = own.salt;
        to_ice = own.to_ice;
        to_ocean = λ k h. read_place grid 3 (λ n k. to_ocean_number (returned_at grid rates mid n) k) n k dry.0 h
            ∙ none_of_three (returned_at grid rates mid n) (ap (λ (s : Salty). s.water) back) (ap (λ (s : Salty). s.heat) back) (ap (λ (s : Salty). s.salt) back) k h;
      }

  dry_heat : (n : ℕ) → IsDry grid.land n → (dried rates (land_cell grid mid.whole n)).heat ≡ pos 0
  dry_heat n dry =
      let own = can.is_mid.whole.dry_land_heat n dry in
      let run = (runs grid rates mid is can n).none (can.is_mid.whole.dry_land_water n dry) in
      omega (arith, ints, own, run.0)

  dry_water : (n : ℕ) → IsDry grid.land n → (dried rates (land_cell grid mid.whole n)).water ≡ pos 0
  dry_water n dry =
      let own = can.is_mid.whole.dry_land_water n dry in
      let run = (runs grid rates mid is can n).none own in
      omega (arith, ints, own, run.1)

  whole_after : IsWhole grid (slow_after grid rates mid)
  unfolding slow_after
  whole_after = record {
    lengths = lengths_after;
    stored = stored_after;
    parts = parts_after;
    dry_land_heat = λ n dry. read_cell (next_land_heat grid rates mid is can) (land_cells grid) n dry.0 ∙ dry_heat n dry;
    dry_land_water = λ n dry. read_cell (next_land_water grid rates mid is can) (land_cells grid) n dry.0 ∙ dry_water n dry;
    dry_ocean = dry_after;
    faces = record { range = can.is_mid.whole.faces.range; dry = can.is_mid.whole.faces.dry };
  }

  pub keeps_slow : KeepsSlow grid rates mid
  keeps_slow = record {
    land = land_is;
    runoff = runoff_is;
    drained = drained_is;
    arrival = arrival_is;
    exchange_heat = exchange_heat grid rates mid is can;
    exchange_water = exchange_water grid rates mid is can;
    ice = ice_is;
    can_slow = can_slow;
    returned = returned_is;
    slowed_ice = ices_after;
    slowed_heat = heats_after;
    after = whole_after;
    heat = heat_total grid rates mid is can;
    water = water_total grid rates mid is can;
    salt = salt_total grid rates mid is can;
  }
