-- After a fast step no cell is below 0, and the heat and the water of all cells are what they were, with what entered and left.
use Rattle.std.proofs.Common.{◌≡◌, ◌∙◌, refl, sym, ap, ℕ, ◌+◌, ◌-◌, ◌*◌, ◌/◌, ◌%◌, ◌<◌, min, arith, List, map, length, get_or}
use Rattle.std.specs.Prelude.{ℤ, pos, negsuc, ◌+ℤ◌, ◌-ℤ◌, ◌*ℤ◌, ◌≤ℤ◌, All}
use Rattle.std.specs.List.{range_with_len}
use Rattle.std.proofs.lemmas.Int.{ints}
use Rattle.std.proofs.lemmas.Nat.{div-mul-add, mod-mul-add, div_below, mod_below, mul-add-lt}
use Rattle.std.proofs.lemmas.List.{get_or-map, length-map}
use Rattle.cpl_fixed.specs.Amounts.{amount, at}
use Rattle.cpl_fixed.specs.Totals.{total_of}
use Rattle.cpl_fixed.specs.Shares.{part_of}
use Rattle.cpl_fixed.specs.declared.limits.TheConstants.{WATER_HEAT}
use Rattle.cpl_fixed.proofs.ShareLaws.{total_least}
use Rattle.cpl_xgrid.specs.declared.grid.Grid.{Grid}
use Rattle.cpl_xgrid.specs.declared.parts.XRef.{XRef}
use Rattle.cpl_xgrid.specs.declared.parts.Surface.{Surface}
use Rattle.cpl_xgrid.specs.declared.parts.Surface.TheVariants.{Land, Ocean}
use Rattle.cpl_state.specs.Stored.{IsStored}
use Rattle.cpl_state.specs.Diffusion.{IsAirMesh}
use Rattle.cpl_state.specs.States.{air_cells, land_cells, ocean_cells, categories}
use Rattle.cpl_state.specs.Elements.{tiles_of, element_count, refs_of_air_cell, refs_of_surface_cell, over_elements, over_all}
use Rattle.cpl_state.specs.Budget.{sun_of_strength}
use Rattle.cpl_state.specs.FastStep.{Before, sun_on, absorbed, to_space, rain, rain_on, heat_before_rain, vapour_before_rain, heat_after_rain, vapour_after_rain, land_taken, land_after, skin_taken, rain_on_ice, skin_after, category_taken, category_heat_after, part_absorbed, entered, left, for_each, for_each_category}
use Rattle.cpl_state.specs.FastLaws.{CanStep, strength}
use Rattle.cpl_diffusion.proofs.Sums.{sum_to, sum_to-same, sum_to-above, total_of-sum_to}
use Rattle.cpl_laws.specs.Once.{IsNumbered}
use Rattle.cpl_laws.proofs.Sums.{total_range, total_add, cells_same}
use Rattle.cpl_laws.proofs.Groups.{total_none, total_zeros, total_natural, total_most, all_range}
use Rattle.cpl_mosaic.specs.Contacts.{cells_of}
use Rattle.cpl_laws.proofs.Elements.{ref_in, rows_in, sum_at, each_of_surface}
use Rattle.cpl_laws.proofs.Flows.{rain_on_natural, rain_total, sun_natural, absorbed_natural, absorbed_total, air_gives, air_takes, space_most, stored_natural}
use Rattle.cpl_laws.proofs.FastSums.{over_rows, air_sum, land_sum, all_with, all_water_with}
use Rattle.cpl_laws.proofs.FastTotals.{skin_and_ice, air_heat_with, air_vapour_with, land_heat_with, land_water_with, skin_heat_with, skin_water_with, category_with, some_category, category_natural, land_heat_natural, land_water_natural, skin_heat_natural, skin_water_natural, heat_kept, water_kept}

-- SUMS OVER CELLS

pub cells_natural : (f : ℕ → ℤ) (n : ℕ) → ((i : ℕ) → i < n → pos 0 ≤ℤ f i) → pos 0 ≤ℤ total_of (for_each n f)
cells_natural f n h = total_natural f (range_with_len 0 n) (all_range (λ i. pos 0 ≤ℤ f i) n h)

pub cells_most : (f g : ℕ → ℤ) (n : ℕ) → ((i : ℕ) → i < n → f i ≤ℤ g i) → total_of (for_each n f) ≤ℤ total_of (for_each n g)
cells_most f g n h = total_most f g (range_with_len 0 n) (all_range (λ i. f i ≤ℤ g i) n h)

-- no cell has more than all of them
pub one_of_cells : (f : ℕ → ℤ) (n : ℕ) → ((i : ℕ) → i < n → pos 0 ≤ℤ f i) → (i : ℕ) → i < n → f i ≤ℤ total_of (for_each n f)
one_of_cells f n h i l =
    let most = sum_to-above f n h i l in
    let sum = total_range f n in
    omega (arith, ints, most, sum)

-- the place of a category among those of all cells
pub in_category : (grid : Grid) → 0 < categories grid → (i : ℕ) → i < categories grid * ocean_cells grid → (i / categories grid < ocean_cells grid) × (i % categories grid < categories grid)
in_category grid some i l = (div_below i (categories grid) (ocean_cells grid) some (omega arith), mod_below i (categories grid) some)

pub categories_natural : (grid : Grid) (f : ℕ → ℕ → ℤ) → 0 < categories grid → ((n k : ℕ) → n < ocean_cells grid → k < categories grid → pos 0 ≤ℤ f n k) → pos 0 ≤ℤ total_of (for_each_category grid f)
categories_natural grid f some h = cells_natural (λ i. f (i / categories grid) (i % categories grid)) (categories grid * ocean_cells grid) (λ i l. let at = in_category grid some i l in h (i / categories grid) (i % categories grid) at.0 at.1)

pub one_of_categories : (grid : Grid) (f : ℕ → ℕ → ℤ) → 0 < categories grid → ((n k : ℕ) → n < ocean_cells grid → k < categories grid → pos 0 ≤ℤ f n k)
    → (n k : ℕ) → n < ocean_cells grid → k < categories grid → f n k ≤ℤ total_of (for_each_category grid f)
one_of_categories grid f some h n k l m =
    let K = categories grid in
    let g = λ (i : ℕ). f (i / K) (i % K) in
    let inside : n * K + k < K * ocean_cells grid = (let e = mul-add-lt n K k (ocean_cells grid) l m in omega arith) in
    let most = one_of_cells g (K * ocean_cells grid) (λ i j. let at = in_category grid some i j in h (i / K) (i % K) at.0 at.1) (n * K + k) inside in
    let own : g (n * K + k) ≡ f n k = λ i. f (div-mul-add n K k m i) (mod-mul-add n K k m i) in
    omega (arith, ints, most, own)

-- the sum of what a list's numbers give
pub map_at : (f : ℤ → ℤ) (xs : List ℤ) (n : ℕ) → length xs ≡ n → total_of (map f xs) ≡ total_of (for_each n (λ i. f (at xs i)))
map_at f xs n e =
    let long : length (map f xs) ≡ n = length-map xs f ∙ e in
    total_of-sum_to (map f xs)
    ∙ ap (sum_to (at (map f xs))) long
    ∙ sum_to-same (at (map f xs)) (λ i. f (at xs i)) n (λ i l. get_or-map f xs i (pos 0) (pos 0) (omega arith))
    ∙ sym (total_range (λ i. f (at xs i)) n)

pub stored_total : (xs : List ℤ) → All IsStored xs → pos 0 ≤ℤ total_of xs
stored_total xs all = total_least xs (λ k d l. (all k d l).0)

-- RAIN

rain_heat : (x : ℕ) (h : ℤ) → pos 0 ≤ℤ h → (WATER_HEAT *ℤ pos (min x (amount h / (8 * amount WATER_HEAT)))) ≤ℤ h
rain_heat x (pos n) least = omega (arith, ints)
rain_heat x (negsuc n) least = absurd (omega (arith, ints, least))

rain_water : (v : ℤ) (a y : ℕ) → pos 0 ≤ℤ v → pos (min ((amount v - a) / 2) y) ≤ℤ v
rain_water (pos n) a y least = omega (arith, ints)
rain_water (negsuc n) a y least = absurd (omega (arith, ints, least))

-- no rain at all
abbrev pub none : XRef → ℕ → ℤ
none ref k = pos 0

no_rain : (grid : Grid) (refs : List XRef) → over_all grid none refs ≡ pos 0
no_rain grid refs = total_none (over_elements grid none) refs (λ k d l. total_zeros (range_with_len 0 (element_count grid (get_or refs k d).list)))

module _ (s : Before) (is : IsNumbered s.grid) (air : IsAirMesh s.grid.air) (can : CanStep s) where
  abbrev K : ℕ
  K = categories s.grid

  -- THE AIR

  pub heat_before : (n : ℕ) → heat_before_rain s n ≡ air_heat_with s none n
  unfolding heat_before_rain
  heat_before n =
      let sum = all_with s is none (refs_of_air_cell s.grid n) in
      let zero = no_rain s.grid (refs_of_air_cell s.grid n) in
      omega (arith, ints, sum, zero)

  pub vapour_before : (n : ℕ) → vapour_before_rain s n ≡ air_vapour_with s none n
  unfolding vapour_before_rain
  vapour_before n =
      let sum = all_water_with s is none (refs_of_air_cell s.grid n) in
      let zero = no_rain s.grid (refs_of_air_cell s.grid n) in
      omega (arith, ints, sum, zero)

  pub heat_after : (n : ℕ) → n < air_cells s.grid → heat_after_rain s n ≡ air_heat_with s (rain_on s) n
  unfolding heat_before_rain
  heat_after n l =
      let sum = all_with s is (rain_on s) (refs_of_air_cell s.grid n) in
      let rains = rain_total s is air can n l in
      omega (arith, ints, sum, rains)

  pub vapour_after : (n : ℕ) → n < air_cells s.grid → vapour_after_rain s n ≡ air_vapour_with s (rain_on s) n
  unfolding vapour_before_rain
  vapour_after n l =
      let sum = all_water_with s is (rain_on s) (refs_of_air_cell s.grid n) in
      let rains = rain_total s is air can n l in
      omega (arith, ints, sum, rains)

  pub heat_before_natural : (n : ℕ) → n < air_cells s.grid → pos 0 ≤ℤ heat_before_rain s n
  unfolding heat_before_rain
  heat_before_natural n l =
      let own = stored_natural s.mid.whole.air_heat can.mid.whole.stored.air_heat n in
      let gives = air_gives s is air can n l in
      let takes = air_takes s is air can n l in
      let space = space_most s is air can n in
      omega (arith, ints, own, gives, takes, space.1)

  pub vapour_before_natural : (n : ℕ) → n < air_cells s.grid → pos 0 ≤ℤ vapour_before_rain s n
  unfolding vapour_before_rain
  vapour_before_natural n l =
      let own = stored_natural s.mid.whole.air_vapour can.mid.whole.stored.air_vapour n in
      let takes = air_takes s is air can n l in
      omega (arith, ints, own, takes)

  pub heat_after_natural : (n : ℕ) → n < air_cells s.grid → pos 0 ≤ℤ heat_after_rain s n
  unfolding rain
  heat_after_natural n l =
      let most = rain_heat ((amount (vapour_before_rain s n) - amount s.rates.rc * amount (at s.grid.air.area n)) / 2) (heat_before_rain s n) (heat_before_natural n l) in
      omega (arith, ints, most)

  pub vapour_after_natural : (n : ℕ) → n < air_cells s.grid → pos 0 ≤ℤ vapour_after_rain s n
  unfolding rain
  vapour_after_natural n l =
      let most = rain_water (vapour_before_rain s n) (amount s.rates.rc * amount (at s.grid.air.area n)) (amount (heat_before_rain s n) / (8 * amount WATER_HEAT)) (vapour_before_natural n l) in
      omega (arith, ints, most)

  -- THE SUN

  sun_total : total_of (for_each (air_cells s.grid) (sun_on s)) ≡ sun_of_strength (strength s) s.mid.whole.air_sun
  unfolding sun_on
  sun_total = sym (map_at (λ x. part_of x (strength s) (pos 1_000)) s.mid.whole.air_sun (air_cells s.grid) can.mid.whole.lengths.air_sun)

  pub sun_most : (n : ℕ) → n < air_cells s.grid → sun_on s n ≤ℤ sun_of_strength (strength s) s.mid.whole.air_sun
  sun_most n l =
      let most = one_of_cells (sun_on s) (air_cells s.grid) (λ i j. sun_natural s is air can i) n l in
      let sum = sun_total in
      omega (arith, ints, most, sum)

  pub sun_strength_natural : pos 0 ≤ℤ sun_of_strength (strength s) s.mid.whole.air_sun
  sun_strength_natural =
      let least = cells_natural (sun_on s) (air_cells s.grid) (λ i j. sun_natural s is air can i) in
      let sum = sun_total in
      omega (arith, ints, least, sum)

  pub entered_range : (pos 0 ≤ℤ entered s) × (entered s ≤ℤ sun_of_strength (strength s) s.mid.whole.air_sun)
  unfolding entered
  entered_range =
      let f = λ (n : ℕ). over_all s.grid (absorbed s) (refs_of_air_cell s.grid n) in
      let least = cells_natural f (air_cells s.grid) (λ n l. (absorbed_total s is air can n l).0) in
      let most = cells_most f (sun_on s) (air_cells s.grid) (λ n l. (absorbed_total s is air can n l).1) in
      let sum = sun_total in
      (least, omega (arith, ints, most, sum))

  entered_sum : entered s ≡ over_rows s.grid Land (absorbed s) +ℤ over_rows s.grid Ocean (absorbed s)
  unfolding entered
  entered_sum = air_sum s.grid is (absorbed s)

  pub left_range : (pos 0 ≤ℤ left s) × (left s ≤ℤ total_of s.mid.whole.air_heat)
  unfolding left
  left_range =
      let least = cells_natural (to_space s) (air_cells s.grid) (λ n l. (space_most s is air can n).0) in
      let most = cells_most (to_space s) (at s.mid.whole.air_heat) (air_cells s.grid) (λ n l. let h = space_most s is air can n in omega (arith, ints, h.0, h.1)) in
      let sum = sum_at s.mid.whole.air_heat (air_cells s.grid) can.mid.whole.lengths.air_heat in
      (least, omega (arith, ints, most, sum))

  part_sun : (list : Surface) (n k : ℕ) → n < cells_of (tiles_of s.grid list) → pos 0 ≤ℤ part_absorbed s list n k
  part_sun list n k l = total_natural (λ ref. absorbed s ref k) (refs_of_surface_cell s.grid list n) (each_of_surface s.grid is (λ ref. pos 0 ≤ℤ absorbed s ref k) list n l (λ m h e. absorbed_natural s is air can list m k h))

  -- LAND, OPEN WATER AND ICE

  wets : (list : Surface) (m k : ℕ) → m < length (rows_in s.grid is list) → pos 0 ≤ℤ rain_on s (ref_in list m) k
  wets list m k l = rain_on_natural s is air can list m k l

  dry : (list : Surface) (m k : ℕ) → m < length (rows_in s.grid is list) → pos 0 ≤ℤ none (ref_in list m) k
  dry list m k l = omega (arith, ints)

  pub land_heat_is : (n : ℕ) → (land_after s n).heat ≡ land_heat_with s (rain_on s) n +ℤ part_absorbed s Land n 0
  unfolding land_taken
  land_heat_is n = omega (arith, ints)

  pub land_water_is : (n : ℕ) → (land_after s n).water ≡ land_water_with s (rain_on s) n
  unfolding land_taken
  land_water_is n = refl

  pub skin_heat_is : (n : ℕ) → (skin_after s n).heat ≡ skin_heat_with s (rain_on s) n +ℤ part_absorbed s Ocean n 0
  unfolding skin_taken rain_on_ice
  skin_heat_is n = omega (arith, ints)

  pub skin_water_is : (n : ℕ) → (skin_after s n).water ≡ skin_water_with s (rain_on s) n
  unfolding skin_taken rain_on_ice
  skin_water_is n = refl

  pub category_is : (n k : ℕ) → category_heat_after s n k ≡ category_with s n k +ℤ part_absorbed s Ocean n (k + 1)
  unfolding category_taken
  category_is n k = refl

  pub land_heat_least : (n : ℕ) → n < land_cells s.grid → pos 0 ≤ℤ (land_after s n).heat
  land_heat_least n l =
      let e = land_heat_is n in
      let a = land_heat_natural s is air can (rain_on s) wets n l in
      let b = part_sun Land n 0 l in
      omega (arith, ints, e, a, b)

  pub land_water_least : (n : ℕ) → n < land_cells s.grid → pos 0 ≤ℤ (land_after s n).water
  land_water_least n l =
      let e = land_water_is n in
      let a = land_water_natural s is air can (rain_on s) wets n l in
      omega (arith, ints, e, a)

  pub skin_heat_least : (n : ℕ) → n < ocean_cells s.grid → pos 0 ≤ℤ (skin_after s n).heat
  skin_heat_least n l =
      let e = skin_heat_is n in
      let a = skin_heat_natural s is air can (rain_on s) wets n l in
      let b = part_sun Ocean n 0 l in
      omega (arith, ints, e, a, b)

  pub skin_water_least : (n : ℕ) → n < ocean_cells s.grid → pos 0 ≤ℤ (skin_after s n).water
  skin_water_least n l =
      let e = skin_water_is n in
      let a = skin_water_natural s is air can (rain_on s) wets n l in
      omega (arith, ints, e, a)

  pub category_least : (n k : ℕ) → n < ocean_cells s.grid → k < categories s.grid → pos 0 ≤ℤ category_heat_after s n k
  category_least n k l h =
      let e = category_is n k in
      let a = category_natural s is air can n k l h in
      let b = part_sun Ocean n (k + 1) l in
      omega (arith, ints, e, a, b)

  -- TOTALS

  -- before it rains, nothing but the heat to space has left
  pub heat_so_far : total_of (for_each (air_cells s.grid) (heat_before_rain s)) ≤ℤ (total_of s.mid.whole.air_heat +ℤ total_of s.mid.whole.land_heat +ℤ total_of s.mid.skin_heat +ℤ total_of s.mid.whole.ice_heat)
  heat_so_far =
      let kept = heat_kept s is air can none dry in
      let same = cells_same (heat_before_rain s) (air_heat_with s none) (air_cells s.grid) (λ n l. heat_before n) in
      let a = cells_natural (land_heat_with s none) (land_cells s.grid) (λ n l. land_heat_natural s is air can none dry n l) in
      let b = cells_natural (skin_heat_with s none) (ocean_cells s.grid) (λ n l. skin_heat_natural s is air can none dry n l) in
      let c = categories_natural s.grid (category_with s) (some_category s is air can) (λ n k l h. category_natural s is air can n k l h) in
      let space = left_range in
      omega (arith, ints, kept, same, a, b, c, space.0)

  pub water_so_far : total_of (for_each (air_cells s.grid) (vapour_before_rain s)) ≤ℤ (total_of s.mid.whole.air_vapour +ℤ total_of s.mid.whole.land_water +ℤ total_of s.mid.skin_water)
  water_so_far =
      let kept = water_kept s is air can none dry in
      let same = cells_same (vapour_before_rain s) (air_vapour_with s none) (air_cells s.grid) (λ n l. vapour_before n) in
      let a = cells_natural (land_water_with s none) (land_cells s.grid) (λ n l. land_water_natural s is air can none dry n l) in
      let b = cells_natural (skin_water_with s none) (ocean_cells s.grid) (λ n l. skin_water_natural s is air can none dry n l) in
      omega (arith, ints, kept, same, a, b)

  -- what the cells have after the step
  pub heat_now : total_of (for_each (air_cells s.grid) (heat_after_rain s)) +ℤ total_of (for_each (land_cells s.grid) (λ n. (land_after s n).heat))
      +ℤ (total_of (for_each (ocean_cells s.grid) (λ n. (skin_after s n).heat)) +ℤ total_of (for_each_category s.grid (category_heat_after s)))
      ≡ total_of s.mid.whole.air_heat +ℤ total_of s.mid.whole.land_heat +ℤ total_of s.mid.skin_heat +ℤ total_of s.mid.whole.ice_heat -ℤ left s +ℤ entered s
  heat_now =
      let kept = heat_kept s is air can (rain_on s) wets in
      let C = ocean_cells s.grid in
      let a = cells_same (heat_after_rain s) (air_heat_with s (rain_on s)) (air_cells s.grid) heat_after in
      let b = cells_same (λ n. (land_after s n).heat) (λ n. land_heat_with s (rain_on s) n +ℤ part_absorbed s Land n 0) (land_cells s.grid) (λ n l. land_heat_is n)
      ∙ total_add (land_heat_with s (rain_on s)) (λ n. part_absorbed s Land n 0) (range_with_len 0 (land_cells s.grid)) in
      let c = cells_same (λ n. (skin_after s n).heat) (λ n. skin_heat_with s (rain_on s) n +ℤ part_absorbed s Ocean n 0) C (λ n l. skin_heat_is n)
      ∙ total_add (skin_heat_with s (rain_on s)) (λ n. part_absorbed s Ocean n 0) (range_with_len 0 C) in
      let d = cells_same (λ i. category_heat_after s (i / K) (i % K)) (λ i. category_with s (i / K) (i % K) +ℤ part_absorbed s Ocean (i / K) (i % K + 1)) (K * C) (λ i l. category_is (i / K) (i % K))
      ∙ total_add (λ i. category_with s (i / K) (i % K)) (λ i. part_absorbed s Ocean (i / K) (i % K + 1)) (range_with_len 0 (K * C)) in
      let e = land_sum s.grid is (absorbed s) in
      let f = skin_and_ice s.grid is (some_category s is air can) (absorbed s) in
      let g = entered_sum in
      omega (arith, ints, kept, a, b, c, d, e, f, g)

  pub water_now : total_of (for_each (air_cells s.grid) (vapour_after_rain s)) +ℤ total_of (for_each (land_cells s.grid) (λ n. (land_after s n).water)) +ℤ total_of (for_each (ocean_cells s.grid) (λ n. (skin_after s n).water))
      ≡ total_of s.mid.whole.air_vapour +ℤ total_of s.mid.whole.land_water +ℤ total_of s.mid.skin_water
  water_now =
      let kept = water_kept s is air can (rain_on s) wets in
      let a = cells_same (vapour_after_rain s) (air_vapour_with s (rain_on s)) (air_cells s.grid) vapour_after in
      let b = cells_same (λ n. (land_after s n).water) (land_water_with s (rain_on s)) (land_cells s.grid) (λ n l. land_water_is n) in
      let c = cells_same (λ n. (skin_after s n).water) (skin_water_with s (rain_on s)) (ocean_cells s.grid) (λ n l. skin_water_is n) in
      omega (arith, ints, kept, a, b, c)
