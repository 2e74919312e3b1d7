-- A fast step keeps all: ranges, totals, and that the state is lawful.
use Rattle.std.proofs.Common.{◌≡◌, ◌∙◌, refl, ap, ℕ, ◌+◌, ◌*◌, ◌/◌, ◌%◌, ◌<◌, arith, List, map}
use Rattle.std.specs.Prelude.{ℤ, pos, ◌+ℤ◌, ◌-ℤ◌, ◌≤ℤ◌, All}
use Rattle.std.specs.List.{range_with_len}
use Rattle.std.proofs.lemmas.Int.{ints}
use Rattle.std.proofs.lemmas.Nat.{div-mul-add, mod-mul-add, mul-add-lt}
use Rattle.std.proofs.lemmas.List.Elements.{All-map, All-from_get_or}
use Rattle.std.proofs.lemmas.List.FromFn.{length-map-range_with_len}
use Rattle.cpl_fixed.specs.Amounts.{IsAmount, at}
use Rattle.cpl_fixed.specs.Totals.{total_of}
use Rattle.cpl_fixed.specs.declared.limits.TheConstants.{MOST_TOTAL}
use Rattle.cpl_fixed.specs.declared.words.Quantity.TheVariants.{Heat, Water, Salt}
use Rattle.cpl_mosaic.specs.Contacts.{cells_of}
use Rattle.cpl_mosaic.specs.Mates.{MatesAgree}
use Rattle.cpl_xgrid.specs.declared.grid.Grid.{Grid}
use Rattle.cpl_xgrid.specs.declared.parts.XRef.{XRef}
use Rattle.cpl_xgrid.specs.declared.parts.Surface.{Surface}
use Rattle.cpl_xgrid.specs.declared.parts.Surface.TheVariants.{Land, Ocean}
use Rattle.cpl_state.specs.declared.whole.Mid.{Mid}
use Rattle.cpl_state.specs.Stored.{IsStored}
use Rattle.cpl_state.specs.Diffusion.{IsAirMesh, AreAmounts}
use Rattle.cpl_state.specs.States.{air_cells, land_cells, ocean_cells, categories, of_cell, IsWhole, IsMid, IsDry, HasLengths, AreStored, IsEmptyColumn}
use Rattle.cpl_state.specs.Elements.{tiles_of, surface_number, refs_of_surface_cell, over_part}
use Rattle.cpl_state.specs.Stocks.{held_within, stocks_of, flying_to_ice, flying_to_ocean}
use Rattle.cpl_state.specs.Budget.{sun_of_strength}
use Rattle.cpl_state.specs.FastStep.{Before, heat_down, heat_taken, water_taken, absorbed, heat_before_rain, vapour_before_rain, heat_after_rain, vapour_after_rain, air_heat_after, air_vapour_after, land_taken, land_after, skin_taken, rain_on, rain_on_ice, skin_after, category_taken, category_heat_after, entered, left, for_each, for_each_category, fast_after}
use Rattle.cpl_state.specs.FastLaws.{CanStep, strength, IsElementOf, IsPlaced, KeepsAll}
use Rattle.cpl_diffusion.proofs.Conserved.{amount_at, diffused_total, diffused_are}
use Rattle.cpl_laws.specs.Once.{IsNumbered}
use Rattle.cpl_laws.specs.Cells.{mesh_of}
use Rattle.cpl_laws.proofs.Groups.{total_none, all_range}
use Rattle.cpl_laws.proofs.Elements.{row_area, air_below, each_of_surface, row_on_surface}
use Rattle.cpl_laws.proofs.Areas.{element_natural, in_part}
use Rattle.cpl_laws.proofs.Placed.{within_air, before_natural}
use Rattle.cpl_laws.proofs.Flows.{part_is, sun_natural}
use Rattle.cpl_laws.proofs.FastSums.{given_is_taken}
use Rattle.cpl_laws.proofs.FastTotals.{some_category}
use Rattle.cpl_laws.proofs.Held.{flights_to_ice, flights_to_ocean, stored, all_amounts, read_cell}
use Rattle.cpl_laws.proofs.Naturals.{are_natural}
use Rattle.cpl_laws.proofs.FastRanges.{cells_natural, one_of_cells, in_category, categories_natural, one_of_categories, heat_before_natural, vapour_before_natural, heat_after_natural, vapour_after_natural, sun_most, sun_strength_natural, entered_range, left_range, land_heat_least, land_water_least, skin_heat_least, skin_water_least, category_least, heat_so_far, water_so_far, heat_now, water_now}

-- what a step leaves as it is: the ocean, what flies, and the frazil
abbrev pub other_heat : Grid → Mid → ℤ
other_heat grid mid = total_of mid.whole.heat +ℤ flying_to_ice grid mid.whole Heat +ℤ flying_to_ocean grid mid.whole Heat +ℤ total_of mid.frazil_heat

abbrev pub other_water : Grid → Mid → ℤ
other_water grid mid = total_of mid.whole.ice +ℤ total_of mid.whole.water +ℤ flying_to_ice grid mid.whole Water +ℤ flying_to_ocean grid mid.whole Water +ℤ total_of mid.frazil_water

pub heat_held : (grid : Grid) (mid : Mid) → held_within grid mid Heat ≡ total_of mid.whole.air_heat +ℤ total_of mid.whole.land_heat +ℤ total_of mid.skin_heat +ℤ total_of mid.whole.ice_heat +ℤ other_heat grid mid
unfolding stocks_of
heat_held grid mid = omega (arith, ints)

pub water_held : (grid : Grid) (mid : Mid) → held_within grid mid Water ≡ total_of mid.whole.air_vapour +ℤ total_of mid.whole.land_water +ℤ total_of mid.skin_water +ℤ other_water grid mid
unfolding stocks_of
water_held grid mid = omega (arith, ints)

cell_amounts : (f : ℕ → ℤ) (n : ℕ) → ((i : ℕ) → i < n → pos 0 ≤ℤ f i) → total_of (for_each n f) ≤ℤ pos MOST_TOTAL → AreAmounts n (for_each n f)
cell_amounts f n least most = record {
  count = length-map-range_with_len f 0 n;
  each = All-map (λ x. pos 0 ≤ℤ x) f (range_with_len 0 n) (all_range (λ i. pos 0 ≤ℤ f i) n least);
  total = most;
}

one_amount : (f : ℕ → ℤ) (n : ℕ) → ((i : ℕ) → i < n → pos 0 ≤ℤ f i) → total_of (for_each n f) ≤ℤ pos MOST_TOTAL → (i : ℕ) → i < n → IsAmount (f i)
one_amount f n least most i l =
    let own = one_of_cells f n least i l in
    (least i l, omega (arith, ints, own, most))

amounts_stored : (cells : ℕ) (xs : List ℤ) → AreAmounts cells xs → All IsStored xs
amounts_stored cells xs are = All-from_get_or IsStored xs (pos 0) (λ n l. stored (at xs n) (amount_at cells xs are n (omega (arith, are.count))))

module _ (s : Before) (is : IsNumbered s.grid) (air : IsAirMesh s.grid.air) (mates : MatesAgree s.grid.air.mosaic) (can : CanStep s) where
  abbrev some : 0 < categories s.grid
  some = some_category s is air can

  -- ROOM

  pub other_heat_natural : pos 0 ≤ℤ other_heat s.grid s.mid
  other_heat_natural =
      let natural = are_natural s.grid s.mid can.mid in
      let b = flights_to_ice s.grid s.mid.whole can.mid.whole.stored Heat in
      let c = flights_to_ocean s.grid s.mid.whole can.mid.whole.stored Heat in
      omega (arith, ints, natural.heat, b, c, natural.frazil_heat)

  other_water_natural : pos 0 ≤ℤ other_water s.grid s.mid
  other_water_natural =
      let natural = are_natural s.grid s.mid can.mid in
      let b = flights_to_ice s.grid s.mid.whole can.mid.whole.stored Water in
      let c = flights_to_ocean s.grid s.mid.whole can.mid.whole.stored Water in
      omega (arith, ints, natural.water, b, c, natural.frazil_water, natural.ice)

  -- the ice is part of the other water
  pub ice_and_more : total_of s.mid.whole.ice ≤ℤ other_water s.grid s.mid
  ice_and_more =
      let natural = are_natural s.grid s.mid can.mid in
      let b = flights_to_ice s.grid s.mid.whole can.mid.whole.stored Water in
      let c = flights_to_ocean s.grid s.mid.whole can.mid.whole.stored Water in
      omega (arith, ints, natural.water, b, c, natural.frazil_water)

  -- the totals keep within the most, and so does each part of them
  record HasRoom : Type 0 where
    sun : sun_of_strength (strength s) s.mid.whole.air_sun ≤ℤ pos MOST_TOTAL
    air_heat : total_of s.mid.whole.air_heat ≤ℤ pos MOST_TOTAL
    heat_before : total_of (for_each (air_cells s.grid) (heat_before_rain s)) ≤ℤ pos MOST_TOTAL
    vapour_before : total_of (for_each (air_cells s.grid) (vapour_before_rain s)) ≤ℤ pos MOST_TOTAL
    heat : total_of (for_each (air_cells s.grid) (heat_after_rain s)) ≤ℤ pos MOST_TOTAL
    vapour : total_of (for_each (air_cells s.grid) (vapour_after_rain s)) ≤ℤ pos MOST_TOTAL
    land_heat : total_of (for_each (land_cells s.grid) (λ n. (land_after s n).heat)) ≤ℤ pos MOST_TOTAL
    land_water : total_of (for_each (land_cells s.grid) (λ n. (land_after s n).water)) ≤ℤ pos MOST_TOTAL
    skin_heat : total_of (for_each (ocean_cells s.grid) (λ n. (skin_after s n).heat)) ≤ℤ pos MOST_TOTAL
    skin_water : total_of (for_each (ocean_cells s.grid) (λ n. (skin_after s n).water)) ≤ℤ pos MOST_TOTAL
    ice_heat : total_of (for_each_category s.grid (category_heat_after s)) ≤ℤ pos MOST_TOTAL

  has_room : HasRoom
  has_room =
      let heat = heat_held s.grid s.mid in
      let water = water_held s.grid s.mid in
      let most_heat = can.heat in
      let most_water = can.water in
      let others = other_heat_natural in
      let other_waters = other_water_natural in
      let sun = sun_strength_natural s is air can in
      let entering = entered_range s is air can in
      let leaving = left_range s is air can in
      let natural = are_natural s.grid s.mid can.mid in
      let so_far = heat_so_far s is air can in
      let water_far = water_so_far s is air can in
      let now = heat_now s is air can in
      let waters = water_now s is air can in
      let a = cells_natural (heat_after_rain s) (air_cells s.grid) (heat_after_natural s is air can) in
      let b = cells_natural (λ n. (land_after s n).heat) (land_cells s.grid) (land_heat_least s is air can) in
      let c = cells_natural (λ n. (skin_after s n).heat) (ocean_cells s.grid) (skin_heat_least s is air can) in
      let d = categories_natural s.grid (category_heat_after s) some (category_least s is air can) in
      let e = cells_natural (vapour_after_rain s) (air_cells s.grid) (vapour_after_natural s is air can) in
      let f = cells_natural (λ n. (land_after s n).water) (land_cells s.grid) (land_water_least s is air can) in
      let g = cells_natural (λ n. (skin_after s n).water) (ocean_cells s.grid) (skin_water_least s is air can) in
      let held : (total_of s.mid.whole.air_heat +ℤ total_of s.mid.whole.land_heat +ℤ total_of s.mid.skin_heat +ℤ total_of s.mid.whole.ice_heat +ℤ sun_of_strength (strength s) s.mid.whole.air_sun) ≤ℤ pos MOST_TOTAL = omega (arith, ints, heat, most_heat, others) in
      let held_water : (total_of s.mid.whole.air_vapour +ℤ total_of s.mid.whole.land_water +ℤ total_of s.mid.skin_water) ≤ℤ pos MOST_TOTAL = omega (arith, ints, water, most_water, other_waters) in
      record {
        sun = omega (arith, ints, held, natural.air_heat, natural.land_heat, natural.skin_heat, natural.ice_heat);
        air_heat = omega (arith, ints, held, sun, natural.land_heat, natural.skin_heat, natural.ice_heat);
        heat_before = omega (arith, ints, held, sun, so_far);
        vapour_before = omega (arith, ints, held_water, water_far);
        heat = omega (arith, ints, held, now, entering.1, leaving.0, b, c, d);
        vapour = omega (arith, ints, held_water, waters, f, g);
        land_heat = omega (arith, ints, held, now, entering.1, leaving.0, a, c, d);
        land_water = omega (arith, ints, held_water, waters, e, g);
        skin_heat = omega (arith, ints, held, now, entering.1, leaving.0, a, b, d);
        skin_water = omega (arith, ints, held_water, waters, e, f);
        ice_heat = omega (arith, ints, held, now, entering.1, leaving.0, a, b, c);
      }

  -- RANGES

  air_heats : AreAmounts (air_cells s.grid) (for_each (air_cells s.grid) (heat_after_rain s))
  air_heats = cell_amounts (heat_after_rain s) (air_cells s.grid) (heat_after_natural s is air can) has_room.heat

  air_vapours : AreAmounts (air_cells s.grid) (for_each (air_cells s.grid) (vapour_after_rain s))
  air_vapours = cell_amounts (vapour_after_rain s) (air_cells s.grid) (vapour_after_natural s is air can) has_room.vapour

  land_heats : (n : ℕ) → n < land_cells s.grid → IsAmount (land_after s n).heat
  land_heats = one_amount (λ n. (land_after s n).heat) (land_cells s.grid) (land_heat_least s is air can) has_room.land_heat

  land_waters : (n : ℕ) → n < land_cells s.grid → IsAmount (land_after s n).water
  land_waters = one_amount (λ n. (land_after s n).water) (land_cells s.grid) (land_water_least s is air can) has_room.land_water

  skin_heats : (n : ℕ) → n < ocean_cells s.grid → IsAmount (skin_after s n).heat
  skin_heats = one_amount (λ n. (skin_after s n).heat) (ocean_cells s.grid) (skin_heat_least s is air can) has_room.skin_heat

  skin_waters : (n : ℕ) → n < ocean_cells s.grid → IsAmount (skin_after s n).water
  skin_waters = one_amount (λ n. (skin_after s n).water) (ocean_cells s.grid) (skin_water_least s is air can) has_room.skin_water

  ice_heats : (n k : ℕ) → n < ocean_cells s.grid → k < categories s.grid → IsAmount (category_heat_after s n k)
  ice_heats n k l h =
      let own = one_of_categories s.grid (category_heat_after s) some (category_least s is air can) n k l h in
      let most = has_room.ice_heat in
      (category_least s is air can n k l h, omega (arith, ints, own, most))

  -- DRY CELLS

  -- an exchange cell has an area, so a cell without one has none
  no_rows : (list : Surface) (n : ℕ) (f : XRef → ℤ) → n < cells_of (tiles_of s.grid list) → at (mesh_of s.grid list).area n ≡ pos 0 → total_of (map f (refs_of_surface_cell s.grid list n)) ≡ pos 0
  no_rows list n f l e =
      total_none f (refs_of_surface_cell s.grid list n) (each_of_surface s.grid is (λ ref. f ref ≡ pos 0) list n l (λ m h same.
      let own = row_area s.grid is list m h in
      let most = row_on_surface s.grid is list m h in
      let here = ap (at (mesh_of s.grid list).area) same in
      absurd (omega (arith, ints, own.0, most, here, e))))

  dry_land_heat : (n : ℕ) → IsDry s.grid.land n → (land_after s n).heat ≡ pos 0
  unfolding land_taken
  dry_land_heat n is_dry =
      let a = no_rows Land n (λ ref. heat_taken s ref 0) is_dry.0 is_dry.1 in
      let b = no_rows Land n (λ ref. absorbed s ref 0) is_dry.0 is_dry.1 in
      let own = can.mid.whole.dry_land_heat n is_dry in
      omega (arith, ints, a, b, own)

  dry_land_water : (n : ℕ) → IsDry s.grid.land n → (land_after s n).water ≡ pos 0
  unfolding land_taken
  dry_land_water n is_dry =
      let a = no_rows Land n (λ ref. water_taken s ref 0) is_dry.0 is_dry.1 in
      let own = can.mid.whole.dry_land_water n is_dry in
      omega (arith, ints, a, own)

  dry_rain : (n : ℕ) → IsDry s.grid.ocean n → rain_on_ice s n ≡ pos 0
  unfolding rain_on_ice
  dry_rain n is_dry = total_none (λ k. over_part (rain_on s) (k + 1) (refs_of_surface_cell s.grid Ocean n)) (range_with_len 0 (categories s.grid)) (λ i d l. no_rows Ocean n (λ ref. rain_on s ref _) is_dry.0 is_dry.1)

  dry_skin_heat : (n : ℕ) → IsDry s.grid.ocean n → (skin_after s n).heat ≡ pos 0
  unfolding skin_taken
  dry_skin_heat n is_dry =
      let a = no_rows Ocean n (λ ref. heat_taken s ref 0) is_dry.0 is_dry.1 in
      let b = no_rows Ocean n (λ ref. absorbed s ref 0) is_dry.0 is_dry.1 in
      let c = dry_rain n is_dry in
      let own = can.mid.skin_heat.dry n is_dry in
      omega (arith, ints, a, b, c, own)

  dry_skin_water : (n : ℕ) → IsDry s.grid.ocean n → (skin_after s n).water ≡ pos 0
  unfolding skin_taken
  dry_skin_water n is_dry =
      let a = no_rows Ocean n (λ ref. water_taken s ref 0) is_dry.0 is_dry.1 in
      let c = dry_rain n is_dry in
      let own = can.mid.skin_water.dry n is_dry in
      omega (arith, ints, a, c, own)

  dry_category : (n k : ℕ) → k < categories s.grid → IsDry s.grid.ocean n → category_heat_after s n k ≡ pos 0
  unfolding category_taken
  dry_category n k h is_dry =
      let a = no_rows Ocean n (λ ref. heat_down s ref (k + 1)) is_dry.0 is_dry.1 in
      let b = no_rows Ocean n (λ ref. absorbed s ref (k + 1)) is_dry.0 is_dry.1 in
      let own = (can.mid.whole.dry_ocean n is_dry).ice_heat k h in
      omega (arith, ints, a, b, own)

  read_category : (n k : ℕ) → n < ocean_cells s.grid → k < categories s.grid → of_cell (categories s.grid) n k (for_each_category s.grid (category_heat_after s)) ≡ category_heat_after s n k
  read_category n k l h =
      let K = categories s.grid in
      let inside : n * K + k < K * ocean_cells s.grid = (let e = mul-add-lt n K k (ocean_cells s.grid) l h in omega arith) in
      read_cell (λ i. category_heat_after s (i / K) (i % K)) (K * ocean_cells s.grid) (n * K + k) inside
      ∙ (λ i. category_heat_after s (div-mul-add n K k h i) (mod-mul-add n K k h i))

  -- THE STATE

  heats_diffused : AreAmounts (air_cells s.grid) (air_heat_after s)
  unfolding air_heat_after
  heats_diffused = diffused_are s.grid.air air mates is.air (for_each (air_cells s.grid) (heat_after_rain s)) air_heats

  vapours_diffused : AreAmounts (air_cells s.grid) (air_vapour_after s)
  unfolding air_vapour_after
  vapours_diffused = diffused_are s.grid.air air mates is.air (for_each (air_cells s.grid) (vapour_after_rain s)) air_vapours

  lengths_after : HasLengths s.grid (fast_after s).whole
  unfolding fast_after
  lengths_after = record {
    air_heat = heats_diffused.count;
    air_vapour = vapours_diffused.count;
    air_sun = can.mid.whole.lengths.air_sun;
    land_heat = length-map-range_with_len (λ n. (land_after s n).heat) 0 (land_cells s.grid);
    land_water = length-map-range_with_len (λ n. (land_after s n).water) 0 (land_cells s.grid);
    parts = can.mid.whole.lengths.parts;
    ice = can.mid.whole.lengths.ice;
    ice_heat = length-map-range_with_len (λ i. category_heat_after s (i / categories s.grid) (i % categories s.grid)) 0 (categories s.grid * ocean_cells s.grid);
    water = can.mid.whole.lengths.water;
    heat = can.mid.whole.lengths.heat;
    salt = can.mid.whole.lengths.salt;
    faces = can.mid.whole.lengths.faces;
    to_ice = can.mid.whole.lengths.to_ice;
    to_ocean = can.mid.whole.lengths.to_ocean;
  }

  stored_after : AreStored (fast_after s).whole
  unfolding fast_after
  stored_after = record {
    elapsed = can.mid.whole.stored.elapsed;
    air_heat = amounts_stored (air_cells s.grid) (air_heat_after s) heats_diffused;
    air_vapour = amounts_stored (air_cells s.grid) (air_vapour_after s) vapours_diffused;
    air_sun = can.mid.whole.stored.air_sun;
    land_heat = all_amounts (λ n. (land_after s n).heat) (land_cells s.grid) land_heats;
    land_water = all_amounts (λ n. (land_after s n).water) (land_cells s.grid) land_waters;
    parts = can.mid.whole.stored.parts;
    ice = can.mid.whole.stored.ice;
    ice_heat = all_amounts (λ i. category_heat_after s (i / categories s.grid) (i % categories s.grid)) (categories s.grid * ocean_cells s.grid)
        (λ i l. let here = in_category s.grid some i l in ice_heats (i / categories s.grid) (i % categories s.grid) here.0 here.1);
    water = can.mid.whole.stored.water;
    heat = can.mid.whole.stored.heat;
    salt = can.mid.whole.stored.salt;
    to_ice = can.mid.whole.stored.to_ice;
    to_ocean = can.mid.whole.stored.to_ocean;
  }

  dry_after : (n : ℕ) → IsDry s.grid.ocean n → IsEmptyColumn s.grid (fast_after s).whole n
  unfolding fast_after
  dry_after n is_dry =
      let own = can.mid.whole.dry_ocean n is_dry in
      record {
        parts = own.parts;
        ice = own.ice;
        ice_heat = λ k h. read_category n k is_dry.0 h ∙ dry_category n k h is_dry;
        water = own.water;
        heat = own.heat;
        salt = own.salt;
        to_ice = own.to_ice;
        to_ocean = own.to_ocean;
      }

  whole_after : IsWhole s.grid (fast_after s).whole
  unfolding fast_after
  whole_after = record {
    lengths = lengths_after;
    stored = stored_after;
    parts = can.mid.whole.parts;
    dry_land_heat = λ n is_dry. read_cell (λ n. (land_after s n).heat) (land_cells s.grid) n is_dry.0 ∙ dry_land_heat n is_dry;
    dry_land_water = λ n is_dry. read_cell (λ n. (land_after s n).water) (land_cells s.grid) n is_dry.0 ∙ dry_land_water n is_dry;
    dry_ocean = dry_after;
    faces = record { range = can.mid.whole.faces.range; dry = can.mid.whole.faces.dry };
  }

  mid_after : IsMid s.grid (fast_after s)
  unfolding fast_after
  mid_after = record {
    whole = whole_after;
    skin_water = record {
      count = length-map-range_with_len (λ n. (skin_after s n).water) 0 (ocean_cells s.grid);
      stored = all_amounts (λ n. (skin_after s n).water) (ocean_cells s.grid) skin_waters;
      dry = λ n is_dry. read_cell (λ n. (skin_after s n).water) (ocean_cells s.grid) n is_dry.0 ∙ dry_skin_water n is_dry;
    };
    skin_heat = record {
      count = length-map-range_with_len (λ n. (skin_after s n).heat) 0 (ocean_cells s.grid);
      stored = all_amounts (λ n. (skin_after s n).heat) (ocean_cells s.grid) skin_heats;
      dry = λ n is_dry. read_cell (λ n. (skin_after s n).heat) (ocean_cells s.grid) n is_dry.0 ∙ dry_skin_heat n is_dry;
    };
    skin_salt = can.mid.skin_salt;
    frazil_water = can.mid.frazil_water;
    frazil_heat = can.mid.frazil_heat;
  }

  -- TOTALS

  heat_total : held_within s.grid (fast_after s) Heat ≡ held_within s.grid s.mid Heat +ℤ entered s -ℤ left s
  unfolding fast_after air_heat_after
  heat_total =
      let before = heat_held s.grid s.mid in
      let after = heat_held s.grid (fast_after s) in
      let now = heat_now s is air can in
      let air_now = diffused_total s.grid.air air mates is.air (for_each (air_cells s.grid) (heat_after_rain s)) air_heats in
      omega (arith, ints, before, after, now, air_now)

  water_total : held_within s.grid (fast_after s) Water ≡ held_within s.grid s.mid Water
  unfolding fast_after air_vapour_after
  water_total =
      let before = water_held s.grid s.mid in
      let after = water_held s.grid (fast_after s) in
      let now = water_now s is air can in
      let air_now = diffused_total s.grid.air air mates is.air (for_each (air_cells s.grid) (vapour_after_rain s)) air_vapours in
      omega (arith, ints, before, after, now, air_now)

  salt_total : held_within s.grid (fast_after s) Salt ≡ held_within s.grid s.mid Salt
  unfolding fast_after stocks_of
  salt_total = refl

  -- PLACES

  placed : (ref : XRef) (k : ℕ) → IsElementOf s.grid ref k → IsPlaced s ref k
  placed ref k is_element =
      let here = element_natural s.grid is s.mid.whole can.mid.whole ref.list ref.row k is_element.row in
      let before = before_natural s.grid is s.mid.whole can.mid.whole ref.list ref.row k is_element.row in
      let within = within_air s.grid is s.mid.whole can.mid.whole ref.list ref.row k is_element.row is_element.part in
      let part = in_part s.grid is s.mid.whole can.mid.whole ref.list ref.row k is_element.row in
      let same = part_is s is air can ref.list (surface_number s.grid ref) k is_element.part in
      record {
        air = air_below s.grid is ref.list ref.row is_element.row;
        before = before;
        within = within;
        element = record { least = here; in_air = omega (arith, ints, before, within); in_part = omega (arith, ints, part, same) };
      }

  pub keeps_all : KeepsAll s
  keeps_all = record {
    placed = placed;
    sun = λ n l. (sun_natural s is air can n, let most = sun_most s is air can n l in let room = has_room.sun in omega (arith, ints, most, room));
    heat_before_rain = one_amount (heat_before_rain s) (air_cells s.grid) (heat_before_natural s is air can) has_room.heat_before;
    vapour_before_rain = one_amount (vapour_before_rain s) (air_cells s.grid) (vapour_before_natural s is air can) has_room.vapour_before;
    heat_after_rain = air_heats;
    vapour_after_rain = air_vapours;
    land_heat = land_heats;
    land_water = land_waters;
    skin_heat = skin_heats;
    skin_water = skin_waters;
    ice_heat = ice_heats;
    sun_entered = (let range = entered_range s is air can in let room = has_room.sun in (range.0, omega (arith, ints, range.1, room)));
    heat_left = (let range = left_range s is air can in let room = has_room.air_heat in (range.0, omega (arith, ints, range.1, room)));
    exchange = given_is_taken s is some;
    air_heat = heats_diffused;
    air_vapour = vapours_diffused;
    after = mid_after;
    heat = heat_total;
    water = water_total;
    salt = salt_total;
  }
