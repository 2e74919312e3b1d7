-- What the slow part of a coupling step does to the totals.
use Rattle.std.proofs.Common.{◌≡◌, ◌∙◌, sym, ℕ, ◌+◌, ◌*◌, ◌<◌, ◌≤◌, arith, inl, inr, List, length}
use Rattle.std.specs.Prelude.{ℤ, pos, ◌+ℤ◌, ◌-ℤ◌, ◌≤ℤ◌, All}
use Rattle.std.specs.List.{range_with_len}
use Rattle.std.proofs.lemmas.Int.{ints}
use Rattle.std.proofs.lemmas.List.Elements.{All-get_or, All-from_get_or}
use Rattle.std.proofs.lemmas.List.{get_or_past}
use Rattle.std.proofs.lemmas.Bool.{cases_lt}
use Rattle.cpl_fixed.specs.Amounts.{IsAmount, at}
use Rattle.cpl_fixed.specs.Totals.{total_of}
use Rattle.cpl_fixed.specs.declared.limits.TheConstants.{MOST_TOTAL}
use Rattle.cpl_fixed.specs.declared.rates.Rates.{Rates}
use Rattle.cpl_fixed.specs.declared.words.Quantity.{Quantity}
use Rattle.cpl_fixed.specs.declared.words.Quantity.TheVariants.{Heat, Water, Salt}
use Rattle.cpl_land.specs.Land.{dried, runoff}
use Rattle.cpl_ice.specs.declared.parts.Salty.{Salty}
use Rattle.cpl_ice.specs.Slow.{water_of, heat_of}
use Rattle.cpl_xgrid.specs.declared.grid.Grid.{Grid}
use Rattle.cpl_state.specs.declared.whole.Mid.{Mid}
use Rattle.cpl_state.specs.States.{land_cells, ocean_cells, categories, of_cell, land_cell, ice_cell, IsDry, IsMid}
use Rattle.cpl_state.specs.FastStep.{for_each}
use Rattle.cpl_state.specs.Stocks.{held, held_within, stocks_of, flying_to_ocean}
use Rattle.cpl_state.specs.Slow.{runoff_of, arrived, slow_cell, returned_at, for_each_place, to_ocean_number, slow_after}
use Rattle.cpl_state.specs.SlowLaws.{CanSlowAll}
use Rattle.cpl_diffusion.proofs.Sums.{sum_to, sum_to-above}
use Rattle.cpl_laws.specs.Once.{IsNumbered}
use Rattle.cpl_laws.proofs.Sums.{total_add, cells_same}
use Rattle.cpl_laws.proofs.Groups.{total_none, all_range}
use Rattle.cpl_laws.proofs.Elements.{sum_at}
use Rattle.cpl_laws.proofs.Flows.{stored_natural}
use Rattle.cpl_laws.proofs.FastTotals.{taken_sum}
use Rattle.cpl_laws.proofs.Runoff.{IsRunoff, is_runoff, arrives, arrives_natural, arrives_wet}
use Rattle.cpl_laws.proofs.IceSteps.{IsBlock}
use Rattle.cpl_laws.proofs.IceCells.{some, few, ice_sum, heat_sum, IsSlowCell, slow_cell_is, block_sum, of_cells, places_sum, read_place}

-- no number of a block is above what they sum to
pub block_most : (count bound : ℕ) (xs : List ℤ) → IsBlock count bound xs → bound ≤ count → (k : ℕ) → k < bound → at xs k ≤ℤ total_of xs
block_most count bound xs is within k l =
    let sum = block_sum count bound xs is within in
    let most = sum_to-above (at xs) bound (λ j h. is.least j) k l in
    omega (arith, ints, sum, most)

pub block_amounts : (count bound : ℕ) (xs : List ℤ) → IsBlock count bound xs → bound ≤ count → total_of xs ≤ℤ pos MOST_TOTAL → All IsAmount xs
block_amounts count bound xs is within most =
    All-from_get_or IsAmount xs (pos 0) (λ k l. elim (cases_lt k bound) [
      | inl inside ↦ let own = block_most count bound xs is within k inside in (is.least k, omega (arith, ints, own, most))
      | inr past ↦ let none = is.none k past in (is.least k, omega (arith, ints, none))
    ])

-- zeros stay zeros at any place
pub zeros_at : (xs : List ℤ) → All (λ x. x ≡ pos 0) xs → (n : ℕ) → at xs n ≡ pos 0
zeros_at xs all n = elim (cases_lt n (length xs)) [
  | inl l ↦ All-get_or (λ x. x ≡ pos 0) xs n (pos 0) l all
  | inr past ↦ get_or_past xs n (pos 0) past
]

-- the sum over cells of one kind of number
pub cells_none : (f : ℕ → ℤ) (n : ℕ) → ((i : ℕ) → i < n → f i ≡ pos 0) → total_of (for_each n f) ≡ pos 0
cells_none f n h = total_none f (range_with_len 0 n) (all_range (λ i. f i ≡ pos 0) n h)

module _ (grid : Grid) (rates : Rates) (mid : Mid) (is : IsNumbered grid) (can : CanSlowAll grid rates mid) where
  abbrev pub C : ℕ
  C = ocean_cells grid

  abbrev pub lawful : IsMid grid mid
  lawful = can.is_mid

  -- THE LAND

  pub runs : (n : ℕ) → IsRunoff rates (land_cell grid mid.whole n)
  runs n = is_runoff rates (land_cell grid mid.whole n) (stored_natural mid.whole.land_heat lawful.whole.stored.land_heat n) (stored_natural mid.whole.land_water lawful.whole.stored.land_water n)

  abbrev pub run_heat : ℕ → ℤ
  run_heat n = (runoff_of grid rates mid.whole n).heat

  abbrev pub run_water : ℕ → ℤ
  run_water n = (runoff_of grid rates mid.whole n).water

  pub run_heat_least : (n : ℕ) → n < land_cells grid → pos 0 ≤ℤ run_heat n
  unfolding runoff_of
  run_heat_least n l = (runs n).heat_least

  pub run_water_least : (n : ℕ) → n < land_cells grid → pos 0 ≤ℤ run_water n
  unfolding runoff_of
  run_water_least n l = (runs n).water_least

  pub run_heat_dry : (n : ℕ) → IsDry grid.land n → run_heat n ≡ pos 0
  unfolding runoff_of
  run_heat_dry n dry = ((runs n).none (lawful.whole.dry_land_water n dry)).0

  pub run_water_dry : (n : ℕ) → IsDry grid.land n → run_water n ≡ pos 0
  unfolding runoff_of
  run_water_dry n dry = ((runs n).none (lawful.whole.dry_land_water n dry)).1

  -- WHAT ARRIVES

  abbrev pub came_heat : ℕ → ℤ
  came_heat m = (arrived grid rates mid.whole m).heat

  abbrev pub came_water : ℕ → ℤ
  came_water m = (arrived grid rates mid.whole m).water

  pub exchange_heat : total_of (for_each (land_cells grid) run_heat) ≡ total_of (for_each C came_heat)
  unfolding arrived
  exchange_heat = arrives grid is run_heat run_heat_least run_heat_dry

  pub exchange_water : total_of (for_each (land_cells grid) run_water) ≡ total_of (for_each C came_water)
  unfolding arrived
  exchange_water = arrives grid is run_water run_water_least run_water_dry

  pub came_least : (m : ℕ) → (pos 0 ≤ℤ came_water m) × (pos 0 ≤ℤ came_heat m)
  unfolding arrived
  came_least m = (arrives_natural grid is run_water run_water_least run_water_dry m, arrives_natural grid is run_heat run_heat_least run_heat_dry m)

  pub came_wet : (m : ℕ) → IsDry grid.ocean m → (came_water m ≡ pos 0) × (came_heat m ≡ pos 0)
  unfolding arrived
  came_wet m dry = (arrives_wet grid is run_water run_water_least run_water_dry m dry, arrives_wet grid is run_heat run_heat_least run_heat_dry m dry)

  -- THE ICE

  pub slow_is : (n : ℕ) → n < C → IsSlowCell grid rates mid is lawful n
  slow_is n l = slow_cell_is grid rates mid is lawful came_least came_wet n l

  abbrev pub back : ℕ → Salty
  back n = returned_at grid rates mid n

  pub back_salt : (n : ℕ) → n < C → (back n).salt ≡ at mid.skin_salt n
  back_salt n l = (slow_is n l).salt

  -- SUMS

  pub ice_before : total_of (for_each C (λ n. water_of (ice_cell grid mid n))) ≡ total_of mid.whole.ice +ℤ total_of mid.frazil_water +ℤ total_of mid.skin_water
  ice_before =
      let f = λ (n : ℕ). total_of (ice_cell grid mid n).ice in
      let a = total_add (λ n. f n +ℤ at mid.frazil_water n) (at mid.skin_water) (range_with_len 0 C) in
      let b = total_add f (at mid.frazil_water) (range_with_len 0 C) in
      let c = sum_at mid.frazil_water C lawful.frazil_water.count in
      let d = sum_at mid.skin_water C lawful.skin_water.count in
      let e = cells_same f (λ n. sum_to (λ k. of_cell (categories grid) n k mid.whole.ice) (categories grid)) C (λ n l. ice_sum grid rates mid is lawful n) in
      let g = of_cells grid (categories grid) mid.whole.ice (some grid rates mid is lawful) lawful.whole.lengths.ice in
      omega (arith, ints, a, b, c, d, e, g)

  pub heat_before : total_of (for_each C (λ n. heat_of (ice_cell grid mid n))) ≡ total_of mid.whole.ice_heat +ℤ total_of mid.frazil_heat +ℤ total_of mid.skin_heat
  heat_before =
      let f = λ (n : ℕ). total_of (ice_cell grid mid n).heat in
      let a = total_add (λ n. f n +ℤ at mid.frazil_heat n) (at mid.skin_heat) (range_with_len 0 C) in
      let b = total_add f (at mid.frazil_heat) (range_with_len 0 C) in
      let c = sum_at mid.frazil_heat C lawful.frazil_heat.count in
      let d = sum_at mid.skin_heat C lawful.skin_heat.count in
      let e = cells_same f (λ n. sum_to (λ k. of_cell (categories grid) n k mid.whole.ice_heat) (categories grid)) C (λ n l. heat_sum grid rates mid is lawful n) in
      let g = of_cells grid (categories grid) mid.whole.ice_heat (some grid rates mid is lawful) lawful.whole.lengths.ice_heat in
      omega (arith, ints, a, b, c, d, e, g)

  abbrev pub next_ice : List ℤ
  next_ice = for_each_place grid (categories grid) (λ n k. at (slow_cell grid rates mid n).ice k)

  abbrev pub next_heat : List ℤ
  next_heat = for_each_place grid (categories grid) (λ n k. at (slow_cell grid rates mid n).heat k)

  pub ice_after : total_of next_ice ≡ total_of (for_each C (λ n. total_of (slow_cell grid rates mid n).ice))
  ice_after =
      places_sum grid (categories grid) (λ n k. at (slow_cell grid rates mid n).ice k) (some grid rates mid is lawful)
      ∙ cells_same (λ n. sum_to (at (slow_cell grid rates mid n).ice) (categories grid)) (λ n. total_of (slow_cell grid rates mid n).ice) C
      (λ n l. sym (block_sum 5 (categories grid) (slow_cell grid rates mid n).ice (slow_is n l).ice (few grid rates mid is lawful)))

  pub heat_after : total_of next_heat ≡ total_of (for_each C (λ n. total_of (slow_cell grid rates mid n).heat))
  heat_after =
      places_sum grid (categories grid) (λ n k. at (slow_cell grid rates mid n).heat k) (some grid rates mid is lawful)
      ∙ cells_same (λ n. sum_to (at (slow_cell grid rates mid n).heat) (categories grid)) (λ n. total_of (slow_cell grid rates mid n).heat) C
      (λ n l. sym (block_sum 5 (categories grid) (slow_cell grid rates mid n).heat (slow_is n l).heat (few grid rates mid is lawful)))

  -- what the ice had and what arrived is what it has and what goes back
  pub water_kept : total_of mid.whole.ice +ℤ total_of mid.frazil_water +ℤ total_of mid.skin_water +ℤ total_of (for_each C came_water) ≡ total_of next_ice +ℤ total_of (for_each C (λ n. (back n).water))
  water_kept =
      let a = total_add (λ n. water_of (ice_cell grid mid n)) came_water (range_with_len 0 C) in
      let b = total_add (λ n. total_of (slow_cell grid rates mid n).ice) (λ n. (back n).water) (range_with_len 0 C) in
      let c = cells_same (λ n. water_of (ice_cell grid mid n) +ℤ came_water n) (λ n. total_of (slow_cell grid rates mid n).ice +ℤ (back n).water) C (λ n l. (slow_is n l).water) in
      let d = ice_before in
      let e = ice_after in
      omega (arith, ints, a, b, c, d, e)

  pub heat_kept : total_of mid.whole.ice_heat +ℤ total_of mid.frazil_heat +ℤ total_of mid.skin_heat +ℤ total_of (for_each C came_heat) ≡ total_of next_heat +ℤ total_of (for_each C (λ n. (back n).heat))
  heat_kept =
      let a = total_add (λ n. heat_of (ice_cell grid mid n)) came_heat (range_with_len 0 C) in
      let b = total_add (λ n. total_of (slow_cell grid rates mid n).heat) (λ n. (back n).heat) (range_with_len 0 C) in
      let c = cells_same (λ n. heat_of (ice_cell grid mid n) +ℤ came_heat n) (λ n. total_of (slow_cell grid rates mid n).heat +ℤ (back n).heat) C (λ n l. (slow_is n l).warmth) in
      let d = heat_before in
      let e = heat_after in
      omega (arith, ints, a, b, c, d, e)

  pub salt_kept : total_of (for_each C (λ n. (back n).salt)) ≡ total_of mid.skin_salt
  salt_kept = cells_same (λ n. (back n).salt) (at mid.skin_salt) C back_salt ∙ sum_at mid.skin_salt C lawful.skin_salt.count

  abbrev pub next_land_heat : ℕ → ℤ
  next_land_heat n = (dried rates (land_cell grid mid.whole n)).heat

  abbrev pub next_land_water : ℕ → ℤ
  next_land_water n = (dried rates (land_cell grid mid.whole n)).water

  pub land_heat_sum : total_of (for_each (land_cells grid) next_land_heat) ≡ total_of mid.whole.land_heat -ℤ total_of (for_each (land_cells grid) run_heat)
  unfolding runoff_of
  land_heat_sum = taken_sum mid.whole.land_heat (λ n. (runoff rates (land_cell grid mid.whole n)).heat) (land_cells grid) lawful.whole.lengths.land_heat

  pub land_water_sum : total_of (for_each (land_cells grid) next_land_water) ≡ total_of mid.whole.land_water -ℤ total_of (for_each (land_cells grid) run_water)
  unfolding runoff_of
  land_water_sum = taken_sum mid.whole.land_water (λ n. (runoff rates (land_cell grid mid.whole n)).water) (land_cells grid) lawful.whole.lengths.land_water

  -- THE FLIGHT TO THE OCEAN

  abbrev pub next_flight : List ℤ
  next_flight = for_each_place grid 3 (λ n k. to_ocean_number (back n) k)

  pub flight_number : (n k : ℕ) → n < C → k < 3 → of_cell 3 n k next_flight ≡ to_ocean_number (back n) k
  flight_number n k l h = read_place grid 3 (λ n k. to_ocean_number (back n) k) n k l h

  pub no_flight : (q : Quantity) → flying_to_ocean grid mid.whole q ≡ pos 0
  no_flight Heat = cells_none (λ n. of_cell 3 n 1 mid.whole.to_ocean) C (λ n l. zeros_at mid.whole.to_ocean can.flights.to_ocean (n * 3 + 1))
  no_flight Water = cells_none (λ n. of_cell 3 n 0 mid.whole.to_ocean) C (λ n l. zeros_at mid.whole.to_ocean can.flights.to_ocean (n * 3 + 0))
  no_flight Salt = cells_none (λ n. of_cell 3 n 2 mid.whole.to_ocean) C (λ n l. zeros_at mid.whole.to_ocean can.flights.to_ocean (n * 3 + 2))

  pub flight_water : total_of (for_each C (λ n. of_cell 3 n 0 next_flight)) ≡ total_of (for_each C (λ n. (back n).water))
  flight_water = cells_same (λ n. of_cell 3 n 0 next_flight) (λ n. (back n).water) C (λ n l. flight_number n 0 l (omega arith))

  pub flight_heat : total_of (for_each C (λ n. of_cell 3 n 1 next_flight)) ≡ total_of (for_each C (λ n. (back n).heat))
  flight_heat = cells_same (λ n. of_cell 3 n 1 next_flight) (λ n. (back n).heat) C (λ n l. flight_number n 1 l (omega arith))

  pub flight_salt : total_of (for_each C (λ n. of_cell 3 n 2 next_flight)) ≡ total_of (for_each C (λ n. (back n).salt))
  flight_salt = cells_same (λ n. of_cell 3 n 2 next_flight) (λ n. (back n).salt) C (λ n l. flight_number n 2 l (omega arith))

  -- TOTALS

  pub heat_total : held grid (slow_after grid rates mid) Heat ≡ held_within grid mid Heat
  unfolding slow_after stocks_of
  heat_total =
      let a = heat_kept in
      let b = land_heat_sum in
      let c = exchange_heat in
      let d = flight_heat in
      let e = no_flight Heat in
      omega (arith, ints, a, b, c, d, e)

  pub water_total : held grid (slow_after grid rates mid) Water ≡ held_within grid mid Water
  unfolding slow_after stocks_of
  water_total =
      let a = water_kept in
      let b = land_water_sum in
      let c = exchange_water in
      let d = flight_water in
      let e = no_flight Water in
      omega (arith, ints, a, b, c, d, e)

  pub salt_total : held grid (slow_after grid rates mid) Salt ≡ held_within grid mid Salt
  unfolding slow_after stocks_of
  salt_total =
      let a = salt_kept in
      let d = flight_salt in
      let e = no_flight Salt in
      omega (arith, ints, a, d, e)
