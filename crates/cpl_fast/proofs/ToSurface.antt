-- The land and the ice after a step, by the flows of their elements.
use Rattle.std.proofs.Common.{◌≡◌, ◌∙◌, sym, ap, subst, ℕ, ◌+◌, ◌*◌, ◌/◌, ◌%◌, ◌<◌, ◌≤◌, arith, List, length}
use Rattle.std.specs.Prelude.{ℤ, pos, ◌+ℤ◌, ◌*ℤ◌, All}
use Rattle.std.specs.List.{range_with_len}
use Rattle.std.proofs.lemmas.Int.{ints}
use Rattle.std.proofs.lemmas.List.FromFn.{fill_by_all}
use Rattle.std.proofs.lemmas.Nat.{div-add-mod'}
use Rattle.cpl_fixed.specs.Amounts.{IsAmount, at}
use Rattle.cpl_fixed.specs.Totals.{total_of}
use Rattle.cpl_fixed.specs.declared.limits.TheConstants.{MOST_EXCHANGE_CELLS, WATER_HEAT}
use Rattle.cpl_mosaic.specs.Contacts.{cells_of}
use Rattle.cpl_mosaic.specs.Cells.{cell_of}
use Rattle.cpl_xgrid.specs.declared.parts.XRef.{XRef}
use Rattle.cpl_xgrid.specs.declared.parts.Surface.{Surface}
use Rattle.cpl_xgrid.specs.declared.parts.Surface.TheVariants.{Land, Ocean}
use Rattle.cpl_xgrid.specs.Rows.{rows_of}
use Rattle.cpl_xgrid.proofs.Sums.{land_refs_are, ocean_refs_are}
use Rattle.cpl_state.specs.States.{categories, land_cells, ocean_cells}
use Rattle.cpl_state.specs.Elements.{tiles_of, element_count, over_part, refs_of_surface_cell}
use Rattle.cpl_state.specs.FastStep.{Before, absorbed, category_heat_after, category_taken, for_each, for_each_category, heat_down, heat_to_ice, heat_to_land, land_after, land_taken, part_absorbed, part_taken, rain_on, rain_on_ice, skin_after, skin_taken, water_to_ice, water_to_land, water_up}
use Rattle.cpl_diffusion.proofs.Sums.{sum_to}
use Rattle.cpl_laws.specs.Once.{IsNumbered}
use Rattle.cpl_laws.proofs.Sums.{cells_same, total_add, blocks, total_range}
use Rattle.cpl_laws.proofs.Elements.{each_of_surface}
use Rattle.cpl_laws.proofs.FastRanges.{in_category}
use Rattle.cpl_laws.proofs.FastSums.{total_with, total_less}
use Rattle.cpl_fast.specs.declared.flows.Flow.{Flow}
use Rattle.cpl_fast.specs.declared.sums.After.{After}
use Rattle.cpl_fast.specs.declared.sums.Sums.{Sums}
use Rattle.cpl_fast.specs.declared.sums.Taken.{Taken}
use Rattle.cpl_fast.specs.Stages.{AreFlows, IsLawful, to_ice, to_land}
use Rattle.cpl_fast.specs.Sums.{reaches, sums_in, taken}
use Rattle.cpl_fast.specs.Surfaces.{AreRowsOf, CanGainIce, CanGainLand, CanGainSkin, category_gain, ice_of, land_at, land_sums, ocean_at, ocean_sums, refs_on, skin_at, skin_of, taken_to}
use Rattle.cpl_fast.proofs.Elementwise.{part_is, surface_refs}

-- SUMS OVER A PART

module _ (s : Before) (is : IsNumbered s.grid) (list : Surface) (flows : List Flow) (are : AreFlows s (rain_on s) list flows) (n k : ℕ) (below : n < cells_of (tiles_of s.grid list)) (part : k < element_count s.grid list) where
  pub sums_are : sums_in flows (length (rows_of s.grid.xgrid list)) k (refs_on s.grid.xgrid list n)
      ≡ record { heat = over_part (heat_down s) k (refs_of_surface_cell s.grid list n); water = over_part (water_up s) k (refs_of_surface_cell s.grid list n); sun = over_part (absorbed s) k (refs_of_surface_cell s.grid list n); rain = over_part (rain_on s) k (refs_of_surface_cell s.grid list n) }
  unfolding sums_in
  sums_are =
      let heat = part_is s is (rain_on s) (λ (flow : Flow). flow.heat) list flows are n k below part in
      let water = part_is s is (rain_on s) (λ (flow : Flow). flow.water) list flows are n k below part in
      let sun = part_is s is (rain_on s) (λ (flow : Flow). flow.sun) list flows are n k below part in
      let rain = part_is s is (rain_on s) (λ (flow : Flow). flow.rain) list flows are n k below part in
      λ i. record { heat = heat i; water = water i; sun = sun i; rain = rain i }

  -- what the elements take
  pub taken_is : taken (sums_in flows (length (rows_of s.grid.xgrid list)) k (refs_on s.grid.xgrid list n)) ≡ record { heat = (part_taken s list n k).heat; water = (part_taken s list n k).water }
  taken_is =
      let heat = total_with (λ (ref : XRef). heat_down s ref k) (λ (ref : XRef). water_up s ref k) (λ (ref : XRef). rain_on s ref k) (refs_of_surface_cell s.grid list n) in
      let water = total_less (λ (ref : XRef). rain_on s ref k) (λ (ref : XRef). water_up s ref k) (refs_of_surface_cell s.grid list n) in
      ap taken sums_are ∙ (λ i. record { heat = sym heat i; water = sym water i })

  pub sun_is : (sums_in flows (length (rows_of s.grid.xgrid list)) k (refs_on s.grid.xgrid list n)).sun ≡ part_absorbed s list n k
  sun_is = ap (λ (sums : Sums). sums.sun) sums_are

  pub heat_is : (sums_in flows (length (rows_of s.grid.xgrid list)) k (refs_on s.grid.xgrid list n)).heat ≡ over_part (heat_down s) k (refs_of_surface_cell s.grid list n)
  heat_is = ap (λ (sums : Sums). sums.heat) sums_are

  pub rain_is : (sums_in flows (length (rows_of s.grid.xgrid list)) k (refs_on s.grid.xgrid list n)).rain ≡ over_part (rain_on s) k (refs_of_surface_cell s.grid list n)
  rain_is = ap (λ (sums : Sums). sums.rain) sums_are

-- THE ELEMENTS OF A CELL

module _ (s : Before) (is : IsNumbered s.grid) where
  few_refs : (list : Surface) (n : ℕ) → length (refs_of_surface_cell s.grid list n) ≤ MOST_EXCHANGE_CELLS
  unfolding refs_of_surface_cell
  few_refs Land n = (land_refs_are s.grid.xgrid.land_rows s.grid.xgrid.ocean_rows (cell_of s.grid.land.mosaic.tiles n) is.rules.rows).few
  few_refs Ocean n = (ocean_refs_are s.grid.xgrid.land_rows s.grid.xgrid.ocean_rows (cell_of s.grid.ocean.mosaic.tiles n) is.rules.rows).few

  pub rows_are : (list : Surface) (flows : List Flow) → length flows ≡ length (rows_of s.grid.xgrid list) * element_count s.grid list → (n : ℕ) → n < cells_of (tiles_of s.grid list) → AreRowsOf list s.grid.xgrid flows (element_count s.grid list) n
  rows_are list flows count n below =
      let own = surface_refs s is list n in
      let few = few_refs list n in
      let long = ap length own in
      record {
        few = omega (arith, few, long);
        rows = subst (All (reaches (length (rows_of s.grid.xgrid list)))) (sym own) (each_of_surface s.grid is (reaches (length (rows_of s.grid.xgrid list))) list n below (λ m l e. l));
        long = count;
      }

-- what the categories take, cell by cell
by_blocks : (s : Before) → IsLawful s → total_of (for_each (ocean_cells s.grid) (λ n. total_of (for_each (categories s.grid) (category_taken s n)))) ≡ total_of (for_each_category s.grid (category_taken s))
by_blocks s lawful =
    let K = categories s.grid in
    let C = ocean_cells s.grid in
    let flat = total_range (λ i. category_taken s (i / K) (i % K)) (K * C) in
    let split = blocks (category_taken s) K C lawful.numbers.rules.column.categories.0 in
    let cells = total_range (λ n. sum_to (category_taken s n) K) C in
    let each = cells_same (λ n. total_of (for_each K (category_taken s n))) (λ n. sum_to (category_taken s n) K) C (λ n l. total_range (category_taken s n) K) in
    each ∙ cells ∙ sym split ∙ sym flat

module _ (s : Before) (lawful : IsLawful s) where
  -- THE LAND

  module _ (flows : List Flow) (are : AreFlows s (rain_on s) Land flows) where
    pub land_is : (heat water : ℤ) (n : ℕ) → n < land_cells s.grid
        → land_at s.grid.xgrid flows heat water n
        ≡ record { heat = heat +ℤ ((land_taken s n).heat +ℤ part_absorbed s Land n 0); water = water +ℤ (land_taken s n).water; taken = record { heat = (land_taken s n).heat; water = (land_taken s n).water } }
    unfolding land_at land_sums land_taken
    land_is heat water n l =
        let took = taken_is s lawful.numbers Land flows are n 0 l (omega arith) in
        let sun = sun_is s lawful.numbers Land flows are n 0 l (omega arith) in
        λ i. record { heat = heat +ℤ ((took i).heat +ℤ sun i); water = water +ℤ (took i).water; taken = took i }

    pub can_gain_land : (heat water : List ℤ) → heat ≡ s.mid.whole.land_heat → water ≡ s.mid.whole.land_water → (n : ℕ) → n < land_cells s.grid → CanGainLand s.grid.xgrid flows (at heat n) (at water n) n
    unfolding land_at
    can_gain_land heat water heat_is water_is n l =
        let own = land_is (at heat n) (at water n) n l in
        let heat_range = lawful.keeps.land_heat n l in
        let water_range = lawful.keeps.land_water n l in
        let h : (land_at s.grid.xgrid flows (at heat n) (at water n) n).heat ≡ (land_after s n).heat = ap (λ (after : After). after.heat) own ∙ ap (λ (xs : List ℤ). at xs n +ℤ ((land_taken s n).heat +ℤ part_absorbed s Land n 0)) heat_is in
        let w : (land_at s.grid.xgrid flows (at heat n) (at water n) n).water ≡ (land_after s n).water = ap (λ (after : After). after.water) own ∙ ap (λ (xs : List ℤ). at xs n +ℤ (land_taken s n).water) water_is in
        record {
          rows = rows_are s lawful.numbers Land flows are.count n l;
          heat_range = subst IsAmount (sym h) heat_range;
          water_range = subst IsAmount (sym w) water_range;
        }

    module _ (heat water : List ℤ) (heat_is : heat ≡ s.mid.whole.land_heat) (water_is : water ≡ s.mid.whole.land_water) where
      pub land_heats : (new : List ℤ) → length new ≡ land_cells s.grid → ((n : ℕ) → n < land_cells s.grid → at new n ≡ (land_at s.grid.xgrid flows (at heat n) (at water n) n).heat)
          → new ≡ for_each (land_cells s.grid) (λ n. (land_after s n).heat)
      land_heats new count value =
          fill_by_all (λ n. (land_after s n).heat) new (land_cells s.grid) (pos 0) count
          (λ n l. value n l ∙ ap (λ (after : After). after.heat) (land_is (at heat n) (at water n) n l) ∙ ap (λ (xs : List ℤ). at xs n +ℤ ((land_taken s n).heat +ℤ part_absorbed s Land n 0)) heat_is)

      pub land_waters : (new : List ℤ) → length new ≡ land_cells s.grid → ((n : ℕ) → n < land_cells s.grid → at new n ≡ (land_at s.grid.xgrid flows (at heat n) (at water n) n).water)
          → new ≡ for_each (land_cells s.grid) (λ n. (land_after s n).water)
      land_waters new count value =
          fill_by_all (λ n. (land_after s n).water) new (land_cells s.grid) (pos 0) count
          (λ n l. value n l ∙ ap (λ (after : After). after.water) (land_is (at heat n) (at water n) n l) ∙ ap (λ (xs : List ℤ). at xs n +ℤ (land_taken s n).water) water_is)

      pub land_took : taken_to (land_cells s.grid) (λ n. (land_at s.grid.xgrid flows (at heat n) (at water n) n).taken) ≡ to_land s
      unfolding heat_to_land water_to_land
      land_took =
          let each = λ (n : ℕ) (l : n < land_cells s.grid). ap (λ (after : After). after.taken) (land_is (at heat n) (at water n) n l) in
          let one = λ (n : ℕ). (land_at s.grid.xgrid flows (at heat n) (at water n) n).taken in
          let h = cells_same (λ n. (one n).heat) (λ n. (land_taken s n).heat) (land_cells s.grid) (λ n l. ap (λ (taken : Taken). taken.heat) (each n l)) in
          let w = cells_same (λ n. (one n).water) (λ n. (land_taken s n).water) (land_cells s.grid) (λ n l. ap (λ (taken : Taken). taken.water) (each n l)) in
          λ i. record { heat = h i; water = w i }

  -- THE ICE

  module _ (flows : List Flow) (are : AreFlows s (rain_on s) Ocean flows) where
    pub gain_is : (n k : ℕ) → n < ocean_cells s.grid → k < categories s.grid → category_gain s.grid.xgrid flows n k ≡ category_taken s n k +ℤ part_absorbed s Ocean n (k + 1)
    unfolding ocean_sums category_taken
    gain_is n k l h =
        let heat = heat_is s lawful.numbers Ocean flows are n (k + 1) l (omega arith) in
        let sun = sun_is s lawful.numbers Ocean flows are n (k + 1) l (omega arith) in
        λ i. heat i +ℤ sun i

    pub ice_is : (n : ℕ) → n < ocean_cells s.grid → ice_of s.grid.xgrid flows (categories s.grid) n ≡ record { rain = rain_on_ice s n; heat = total_of (for_each (categories s.grid) (category_taken s n)) }
    unfolding ice_of ocean_sums category_taken rain_on_ice
    ice_is n l =
        let refs = refs_of_surface_cell s.grid Ocean n in
        let rain = cells_same (λ k. (ocean_sums s.grid.xgrid flows n (k + 1)).rain) (λ k. over_part (rain_on s) (k + 1) refs) (categories s.grid)
        (λ k h. rain_is s lawful.numbers Ocean flows are n (k + 1) l (omega arith)) in
        let heat = cells_same (λ k. (ocean_sums s.grid.xgrid flows n (k + 1)).heat) (λ k. over_part (heat_down s) (k + 1) refs) (categories s.grid)
        (λ k h. heat_is s lawful.numbers Ocean flows are n (k + 1) l (omega arith)) in
        λ i. record { rain = rain i; heat = heat i }

    pub skin_takes : (n : ℕ) → n < ocean_cells s.grid → skin_of s.grid.xgrid flows (categories s.grid) n ≡ record { heat = (skin_taken s n).heat; water = (skin_taken s n).water }
    unfolding ocean_sums skin_taken
    skin_takes n l =
        let took = taken_is s lawful.numbers Ocean flows are n 0 l (omega arith) in
        let ice = ice_is n l in
        λ i. record { heat = (took i).heat +ℤ (WATER_HEAT *ℤ (ice i).rain); water = (took i).water +ℤ (ice i).rain }

    pub skin_is : (heat water : ℤ) (n : ℕ) → n < ocean_cells s.grid
        → skin_at s.grid.xgrid flows (categories s.grid) heat water n
        ≡ record { heat = heat +ℤ ((skin_taken s n).heat +ℤ part_absorbed s Ocean n 0); water = water +ℤ (skin_taken s n).water; taken = record { heat = (skin_taken s n).heat; water = (skin_taken s n).water } }
    unfolding skin_at ocean_sums
    skin_is heat water n l =
        let took = skin_takes n l in
        let sun = sun_is s lawful.numbers Ocean flows are n 0 l (omega arith) in
        λ i. record { heat = heat +ℤ ((took i).heat +ℤ sun i); water = water +ℤ (took i).water; taken = took i }

    module _ (ice heat water : List ℤ) (ice_same : ice ≡ s.mid.whole.ice_heat) (heat_same : heat ≡ s.mid.skin_heat) (water_same : water ≡ s.mid.skin_water) where
      category_is : (n k : ℕ) → n < ocean_cells s.grid → k < categories s.grid → at ice (n * categories s.grid + k) +ℤ category_gain s.grid.xgrid flows n k ≡ category_heat_after s n k
      category_is n k l h =
          let gain = gain_is n k l h in
          let own = ap (λ (xs : List ℤ). at xs (n * categories s.grid + k)) ice_same in
          omega (arith, ints, gain, own)

      skin_heat_is : (n : ℕ) → n < ocean_cells s.grid → (skin_at s.grid.xgrid flows (categories s.grid) (at heat n) (at water n) n).heat ≡ (skin_after s n).heat
      skin_heat_is n l = ap (λ (after : After). after.heat) (skin_is (at heat n) (at water n) n l) ∙ ap (λ (xs : List ℤ). at xs n +ℤ ((skin_taken s n).heat +ℤ part_absorbed s Ocean n 0)) heat_same

      skin_water_is : (n : ℕ) → n < ocean_cells s.grid → (skin_at s.grid.xgrid flows (categories s.grid) (at heat n) (at water n) n).water ≡ (skin_after s n).water
      skin_water_is n l = ap (λ (after : After). after.water) (skin_is (at heat n) (at water n) n l) ∙ ap (λ (xs : List ℤ). at xs n +ℤ (skin_taken s n).water) water_same

      pub can_gain_ice : (n k : ℕ) → n < ocean_cells s.grid → k < categories s.grid → CanGainIce s.grid.xgrid flows (categories s.grid) ice n k
      can_gain_ice n k l h = record { range = subst IsAmount (sym (category_is n k l h)) (lawful.keeps.ice_heat n k l h) }

      pub can_gain_skin : (n : ℕ) → n < ocean_cells s.grid → CanGainSkin s.grid.xgrid flows (categories s.grid) (at heat n) (at water n) n
      can_gain_skin n l = record {
        rows = rows_are s lawful.numbers Ocean flows are.count n l;
        heat_range = subst IsAmount (sym (skin_heat_is n l)) (lawful.keeps.skin_heat n l);
        water_range = subst IsAmount (sym (skin_water_is n l)) (lawful.keeps.skin_water n l);
      }

      pub skin_heats : (new : List ℤ) → length new ≡ ocean_cells s.grid → ((n : ℕ) → n < ocean_cells s.grid → at new n ≡ (skin_at s.grid.xgrid flows (categories s.grid) (at heat n) (at water n) n).heat)
          → new ≡ for_each (ocean_cells s.grid) (λ n. (skin_after s n).heat)
      skin_heats new count value = fill_by_all (λ n. (skin_after s n).heat) new (ocean_cells s.grid) (pos 0) count (λ n l. value n l ∙ skin_heat_is n l)

      pub skin_waters : (new : List ℤ) → length new ≡ ocean_cells s.grid → ((n : ℕ) → n < ocean_cells s.grid → at new n ≡ (skin_at s.grid.xgrid flows (categories s.grid) (at heat n) (at water n) n).water)
          → new ≡ for_each (ocean_cells s.grid) (λ n. (skin_after s n).water)
      skin_waters new count value = fill_by_all (λ n. (skin_after s n).water) new (ocean_cells s.grid) (pos 0) count (λ n l. value n l ∙ skin_water_is n l)

      pub ice_heats : (new : List ℤ) → length new ≡ categories s.grid * ocean_cells s.grid
          → ((n k : ℕ) → n < ocean_cells s.grid → k < categories s.grid → at new (n * categories s.grid + k) ≡ at ice (n * categories s.grid + k) +ℤ category_gain s.grid.xgrid flows n k)
          → new ≡ for_each_category s.grid (category_heat_after s)
      ice_heats new count value =
          fill_by_all (λ i. category_heat_after s (i / categories s.grid) (i % categories s.grid)) new (categories s.grid * ocean_cells s.grid) (pos 0) count
          (λ i l. (
          let place = in_category s.grid lawful.numbers.rules.column.categories.0 i l in
          let n = i / categories s.grid in
          let k = i % categories s.grid in
          ap (at new) (sym (div-add-mod' i (categories s.grid))) ∙ value n k place.0 place.1 ∙ category_is n k place.0 place.1))

    pub ice_took : taken_to (ocean_cells s.grid) (λ n. ocean_at s.grid.xgrid flows (categories s.grid) n) ≡ to_ice s
    unfolding ocean_at heat_to_ice water_to_ice
    ice_took =
        let C = ocean_cells s.grid in
        let ice = λ (n : ℕ). total_of (for_each (categories s.grid) (category_taken s n)) in
        let heat = cells_same (λ n. (ocean_at s.grid.xgrid flows (categories s.grid) n).heat) (λ n. (skin_taken s n).heat +ℤ ice n) C
        (λ n l. λ i. (skin_takes n l i).heat +ℤ (ice_is n l i).heat) in
        let water = cells_same (λ n. (ocean_at s.grid.xgrid flows (categories s.grid) n).water) (λ n. (skin_taken s n).water) C
        (λ n l. (let e = ap (λ (taken : Taken). taken.water) (skin_takes n l) in omega (arith, ints, e))) in
        let both = total_add (λ n. (skin_taken s n).heat) ice (range_with_len 0 C) in
        let turn = ap (λ (z : ℤ). total_of (for_each C (λ n. (skin_taken s n).heat)) +ℤ z) (by_blocks s lawful) in
        let all = heat ∙ both ∙ turn in
        λ i. record { heat = all i; water = water i }
