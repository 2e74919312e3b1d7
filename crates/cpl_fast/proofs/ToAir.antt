-- The cells of the air by the tables are those of the definitions.
use Rattle.std.proofs.Common.{◌≡◌, ◌∙◌, sym, ap, subst, ℕ, ◌*◌, ◌<◌, arith, List, length, map}
use Rattle.std.specs.Prelude.{ℤ, pos, ◌+ℤ◌, ◌-ℤ◌, ◌*ℤ◌, All}
use Rattle.std.specs.List.{range_with_len}
use Rattle.std.proofs.lemmas.Int.{ints}
use Rattle.std.proofs.lemmas.List.FromFn.{fill_by_all}
use Rattle.cpl_fixed.specs.Amounts.{IsAmount, at}
use Rattle.cpl_fixed.specs.Totals.{total_of}
use Rattle.cpl_flux.specs.declared.parts.AirSide.{AirSide}
use Rattle.cpl_mosaic.specs.Cells.{cell_of}
use Rattle.cpl_xgrid.specs.Rows.{rows_of}
use Rattle.cpl_xgrid.specs.declared.parts.XRef.{XRef}
use Rattle.cpl_xgrid.specs.declared.parts.Surface.{Surface}
use Rattle.cpl_xgrid.specs.declared.parts.Surface.TheVariants.{Land, Ocean}
use Rattle.cpl_xgrid.proofs.Sums.{air_refs_are}
use Rattle.cpl_state.specs.States.{air_cells, air_side}
use Rattle.cpl_state.specs.Elements.{over_all, refs_of_air_cell}
use Rattle.cpl_state.specs.FastStep.{Before, heat_down, water_up, absorbed, to_space, heat_before_rain, vapour_before_rain, heat_after_rain, vapour_after_rain, rain, left, for_each}
use Rattle.cpl_laws.proofs.Elements.{each_of_air}
use Rattle.cpl_laws.proofs.Sums.{cells_same}
use Rattle.cpl_fast.specs.declared.air.Rained.{Rained}
use Rattle.cpl_fast.specs.declared.flows.Flow.{Flow}
use Rattle.cpl_fast.specs.declared.flows.Sky.{Sky}
use Rattle.cpl_fast.specs.declared.room.FastRoom.{FastRoom}
use Rattle.cpl_fast.specs.declared.sums.FlowLists.{FlowLists}
use Rattle.cpl_fast.specs.declared.sums.Sums.{Sums}
use Rattle.cpl_fast.specs.Air.{CanRain, moist, rain_of, rained_at, sums_at, warm}
use Rattle.cpl_fast.specs.Filled.{AreSkies, AreTables}
use Rattle.cpl_fast.specs.Flows.{sky_at}
use Rattle.cpl_fast.specs.Stages.{AreFlows, HasFlows, IsLawful, dry}
use Rattle.cpl_fast.specs.Sums.{FitTables, within}
use Rattle.cpl_fast.proofs.Elementwise.{AreFlowLists, air_is, air_refs}
use Rattle.cpl_fast.proofs.Empty.{dry_clear}
use Rattle.cpl_fast.proofs.InRange.{air_in_range}

module _ (s : Before) (lawful : IsLawful s) (wet : XRef → ℕ → ℤ) (flows : FlowLists) (are : AreFlowLists s wet flows) where
  -- the flows of a cell
  pub sums_are : (n : ℕ) → n < air_cells s.grid
      → sums_at s.grid.xgrid flows n ≡ record {
        heat = over_all s.grid (heat_down s) (refs_of_air_cell s.grid n);
        water = over_all s.grid (water_up s) (refs_of_air_cell s.grid n);
        sun = over_all s.grid (absorbed s) (refs_of_air_cell s.grid n);
        rain = over_all s.grid wet (refs_of_air_cell s.grid n);
      }
  unfolding sums_at
  sums_are n l =
      let heat = air_is s lawful.numbers wet (λ (flow : Flow). flow.heat) flows are n l in
      let water = air_is s lawful.numbers wet (λ (flow : Flow). flow.water) flows are n l in
      let sun = air_is s lawful.numbers wet (λ (flow : Flow). flow.sun) flows are n l in
      let rain = air_is s lawful.numbers wet (λ (flow : Flow). flow.rain) flows are n l in
      λ i. record { heat = heat i; water = water i; sun = sun i; rain = rain i }

  -- its heat and its vapour before it rains
  warm_is : (n : ℕ) → n < air_cells s.grid → warm s.rates (air_side s.grid s.mid.whole n) (sums_at s.grid.xgrid flows n) ≡ heat_before_rain s n
  unfolding heat_before_rain to_space
  warm_is n l =
      let sums = sums_are n l in
      let heat = ap (λ (a : Sums). a.heat) sums in
      let water = ap (λ (a : Sums). a.water) sums in
      omega (arith, ints, heat, water)

  moist_is : (n : ℕ) → n < air_cells s.grid → moist (air_side s.grid s.mid.whole n) (sums_at s.grid.xgrid flows n) ≡ vapour_before_rain s n
  unfolding vapour_before_rain
  moist_is n l = ap (λ (a : Sums). at s.mid.whole.air_vapour n +ℤ a.water) (sums_are n l)

  rain_is : (n : ℕ) → n < air_cells s.grid
      → rain_of s.rates (at s.grid.air.area n) (warm s.rates (air_side s.grid s.mid.whole n) (sums_at s.grid.xgrid flows n)) (moist (air_side s.grid s.mid.whole n) (sums_at s.grid.xgrid flows n)) ≡ rain s n
  unfolding rain
  rain_is n l = λ i. rain_of s.rates (at s.grid.air.area n) (warm_is n l i) (moist_is n l i)

  -- the cell after it has rained
  pub rained_is : (n : ℕ) → n < air_cells s.grid
      → rained_at s.rates s.grid.xgrid (air_side s.grid s.mid.whole n) flows n
      ≡ record { heat = heat_after_rain s n; vapour = vapour_after_rain s n; rain = rain s n; space = to_space s n }
  unfolding rained_at to_space
  rained_is n l =
      let heat = warm_is n l in
      let vapour = moist_is n l in
      let wet = rain_is n l in
      λ i. record { heat = heat i -ℤ (pos 1_426 *ℤ wet i); vapour = vapour i -ℤ wet i; rain = wet i; space = to_space s n }

  -- it is in range
  reach : (list : Surface) (m : ℕ) → m < length (rows_of s.grid.xgrid list) → within flows (record { list = list; row = m })
  reach Land m l = let e = are.land.count in omega (arith, e)
  reach Ocean m l = let e = are.tables.links.count in omega (arith, e)

  pub can_rain : (n : ℕ) → n < air_cells s.grid → CanRain s.rates s.grid.xgrid (air_side s.grid s.mid.whole n) flows n
  can_rain n l =
      let refs = air_refs s lawful.numbers n in
      let refs_are = air_refs_are s.grid.xgrid.land_rows s.grid.xgrid.ocean_rows (cell_of s.grid.xgrid.air n) lawful.numbers.rules.rows in
      record {
        range = air_in_range s lawful.numbers lawful.can.air lawful.mates lawful.can n l;
        few = refs_are.few;
        rows = subst (All (within flows)) (sym refs) (each_of_air s.grid lawful.numbers (within flows) n l (λ list m h e. reach list m h));
        heat = subst IsAmount (sym (warm_is n l)) (lawful.keeps.heat_before_rain n l);
        vapour = subst IsAmount (sym (moist_is n l)) (lawful.keeps.vapour_before_rain n l);
      }

  -- ALL CELLS

  module _ (skies : List Sky) (seen : AreSkies s skies) where
    side_is : (n : ℕ) → n < air_cells s.grid → (sky_at skies n).air ≡ air_side s.grid s.mid.whole n
    side_is n l = ap (λ (sky : Sky). sky.air) (seen.each n l)

    pub all_can_rain : (n : ℕ) → n < length skies → CanRain s.rates s.grid.xgrid (sky_at skies n).air flows n
    all_can_rain n l =
        let h : n < air_cells s.grid = let e = seen.count in omega (arith, e) in
        subst (λ (air : AirSide). CanRain s.rates s.grid.xgrid air flows n) (sym (side_is n h)) (can_rain n h)

    abbrev pub after : ℕ → Rained
    after n = rained_at s.rates s.grid.xgrid (sky_at skies n).air flows n

    pub after_is : (n : ℕ) → n < air_cells s.grid → after n ≡ record { heat = heat_after_rain s n; vapour = vapour_after_rain s n; rain = rain s n; space = to_space s n }
    after_is n l = ap (λ (air : AirSide). rained_at s.rates s.grid.xgrid air flows n) (side_is n l) ∙ rained_is n l

    -- a list of numbers of cells after it has rained
    pub numbers_are : (number : Rained → ℤ) (f : ℕ → ℤ) → ((n : ℕ) → number (record { heat = heat_after_rain s n; vapour = vapour_after_rain s n; rain = rain s n; space = to_space s n }) ≡ f n)
        → (xs : List ℤ) → length xs ≡ length skies → ((n : ℕ) → n < length skies → at xs n ≡ number (after n)) → xs ≡ for_each (air_cells s.grid) f
    numbers_are number f is xs count each =
        let e = seen.count in
        fill_by_all f xs (air_cells s.grid) (pos 0) (count ∙ e) (λ n l. each n (omega (arith, e)) ∙ ap number (after_is n l) ∙ is n)

    -- the heat to space
    pub left_is : total_of (map (λ n. (after n).space) (range_with_len 0 (length skies))) ≡ left s
    unfolding left
    left_is =
        ap (λ (cells : ℕ). total_of (map (λ n. (after n).space) (range_with_len 0 cells))) seen.count
        ∙ cells_same (λ n. (after n).space) (to_space s) (air_cells s.grid) (λ n l. ap (λ (r : Rained). r.space) (after_is n l))

-- FROM ROOM

-- the cells of the air in a room that has the flows, whose lists were passed
module _ (s : Before) (room : FastRoom) (has : HasFlows s dry room) (skies : List Sky) (flows : FlowLists)
    (skies_is : skies ≡ room.skies.items) (land_is : flows.land.now ≡ room.land_flows.items) (ocean_is : flows.ocean.now ≡ room.ocean_flows.items) (tables_is : flows.tables.now ≡ room.ocean) where
  of_skies : AreSkies s skies
  of_skies = subst (AreSkies s) (sym skies_is) has.seen.skies

  of_flows : AreFlowLists s dry flows
  of_flows = record {
    land = subst (AreFlows s dry Land) (sym land_is) has.land;
    ocean = subst (AreFlows s dry Ocean) (sym ocean_is) has.ocean;
    tables = subst (AreTables s Ocean) (sym tables_is) has.seen.ocean;
  }

  pub room_fit : FitTables flows
  room_fit =
      let tables = of_flows.tables in
      let width = tables.width in
      let most = has.seen.lawful.numbers.rules.column.categories.1 in
      let count = sym (λ i. tables.links.count i * tables.width i) in
      record {
        fit = record {
          width = omega (arith, width, most);
          count = of_flows.ocean.count ∙ count;
          areas = tables.areas.count ∙ count;
          used = tables.used;
        };
        clear = dry_clear s Ocean flows.tables.now tables flows.ocean.now of_flows.ocean;
      }

  pub room_can : (n : ℕ) → n < length skies → CanRain s.rates s.grid.xgrid (sky_at skies n).air flows n
  room_can = all_can_rain s has.seen.lawful dry flows of_flows skies of_skies

  pub room_numbers : (number : Rained → ℤ) (f : ℕ → ℤ) → ((n : ℕ) → number (record { heat = heat_after_rain s n; vapour = vapour_after_rain s n; rain = rain s n; space = to_space s n }) ≡ f n)
      → (xs : List ℤ) → length xs ≡ length skies → ((n : ℕ) → n < length skies → at xs n ≡ number (rained_at s.rates s.grid.xgrid (sky_at skies n).air flows n)) → xs ≡ for_each (air_cells s.grid) f
  room_numbers = numbers_are s has.seen.lawful dry flows of_flows skies of_skies

  pub room_left : total_of (map (λ n. (rained_at s.rates s.grid.xgrid (sky_at skies n).air flows n).space) (range_with_len 0 (length skies))) ≡ left s
  room_left = left_is s has.seen.lawful dry flows of_flows skies of_skies
