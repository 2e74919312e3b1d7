-- The ocean in a coupling step: it adds the flight to it, makes its steps, and is cut.
use Rattle.std.proofs.Common.{◌≡◌, ◌∙◌, refl, sym, ap, subst, ℕ, zero, suc, ◌+◌, ◌*◌, ◌/◌, ◌%◌, ◌<◌, ◌≤◌, arith}
use Rattle.std.specs.Prelude.{ℤ, pos, ◌+ℤ◌, ◌≤ℤ◌, All}
use Rattle.std.proofs.lemmas.Int.{ints}
use Rattle.std.proofs.lemmas.Nat.{div-add-mod', div_below, mod_below}
use Rattle.std.proofs.lemmas.List.Elements.{All-from_get_or}
use Rattle.cpl_fixed.specs.Amounts.{IsAmount, at}
use Rattle.cpl_fixed.specs.Totals.{total_of}
use Rattle.cpl_fixed.specs.declared.limits.TheConstants.{MOST_TOTAL}
use Rattle.cpl_fixed.specs.declared.words.Quantity.{Quantity}
use Rattle.cpl_fixed.specs.declared.words.Quantity.TheVariants.{Heat, Water, Salt}
use Rattle.cpl_namelist.specs.declared.names.Names.{Names}
use Rattle.cpl_namelist.specs.Ranges.{AreNames}
use Rattle.cpl_xgrid.specs.declared.grid.Grid.{Grid}
use Rattle.cpl_ice.specs.Cells.{IsFlight}
use Rattle.cpl_ice.specs.declared.parts.ToIce.{ToIce}
use Rattle.cpl_transport.proofs.Frazil.{cut_flight}
use Rattle.cpl_state.specs.declared.whole.Whole.{Whole}
use Rattle.cpl_state.specs.Stored.{IsStored}
use Rattle.cpl_state.specs.States.{ocean_cells, layers, of_cell, IsWhole, IsDry}
use Rattle.cpl_state.specs.FastStep.{for_each}
use Rattle.cpl_state.specs.Stocks.{held, stocks_of, flying_to_ocean, whole_flight, quantity_of}
use Rattle.cpl_state.specs.Transport.{Sea, cell_in}
use Rattle.cpl_state.specs.Cut.{cut_at, cut_off, after_cut, to_ice_numbers}
use Rattle.cpl_state.specs.CouplingStep.{sea_of}
use Rattle.cpl_diffusion.proofs.Sums.{sum_to-same, total_range}
use Rattle.cpl_laws.proofs.Flows.{stored_natural}
use Rattle.cpl_laws.proofs.FastRanges.{stored_total}
use Rattle.cpl_laws.proofs.Held.{flights_to_ice, flights_to_ocean, stored}
use Rattle.cpl_sea.specs.Seas.{IsSea}
use Rattle.cpl_sea.proofs.Steps.{water_total, heat_total, salt_total, stepped_is}
use Rattle.cpl_sea.proofs.TopTotals.{flown_water, flown_heat, flown_salt, is_flown, left_water, left_heat, left_salt, is_cut, top_salty, cut_number, cut_length}
use Rattle.cpl_sea.proofs.Dry.{HasNothing, stays_empty, flown_empty, cut_empty, none_cut}
use Rattle.cpl_course.specs.Course.{IsGround, sea_at}
use Rattle.cpl_course.proofs.Seas.{sea_is, not_wet, nothing_in}

-- water, heat or salt of an ocean
abbrev pub total_in : Quantity → Sea → ℤ
total_in Heat sea = total_of sea.heat
total_in Water sea = total_of sea.water
total_in Salt sea = total_of sea.salt

-- the numbers of a flight in range
one_of_five : (flight : ToIce) → IsFlight flight → (k : ℕ) → k < 5 → IsAmount (at (to_ice_numbers flight) k)
one_of_five flight is zero l = is.frazil_water
one_of_five flight is (suc zero) l = is.frazil_heat
one_of_five flight is (suc (suc zero)) l = is.skin.water
one_of_five flight is (suc (suc (suc zero))) l = is.skin.heat
one_of_five flight is (suc (suc (suc (suc zero)))) l = is.skin.salt
one_of_five flight is (suc (suc (suc (suc (suc k))))) l = absurd (omega arith)

module _ (grid : Grid) (names : Names) (whole : Whole) (ground : IsGround grid) (are : AreNames names) (lawful : IsWhole grid whole)
    (room : (q : Quantity) → held grid whole q ≤ℤ pos MOST_TOTAL) where
  abbrev C : ℕ
  C = ocean_cells grid

  abbrev some_layer : 1 ≤ layers grid
  some_layer = ground.numbered.rules.column.layers.0

  -- the ocean with what flies to it is within what the state holds
  pub sea_held : (q : Quantity) → (total_in q (sea_of whole) +ℤ flying_to_ocean grid whole q) ≤ℤ held grid whole q
  unfolding stocks_of
  sea_held Heat =
      let a = stored_total whole.air_heat lawful.stored.air_heat in
      let b = stored_total whole.land_heat lawful.stored.land_heat in
      let c = stored_total whole.ice_heat lawful.stored.ice_heat in
      let d = flights_to_ice grid whole lawful.stored Heat in
      omega (arith, ints, a, b, c, d)
  sea_held Water =
      let a = stored_total whole.air_vapour lawful.stored.air_vapour in
      let b = stored_total whole.land_water lawful.stored.land_water in
      let c = stored_total whole.ice lawful.stored.ice in
      let d = flights_to_ice grid whole lawful.stored Water in
      omega (arith, ints, a, b, c, d)
  sea_held Salt =
      let d = flights_to_ice grid whole lawful.stored Salt in
      omega (arith, ints, d)

  pub sea_room : (q : Quantity) → (total_in q (sea_of whole) +ℤ flying_to_ocean grid whole q) ≤ℤ pos MOST_TOTAL
  sea_room q = let a = sea_held q in let b = room q in omega (arith, ints, a, b)

  start_room : (q : Quantity) → total_in q (sea_of whole) ≤ℤ pos MOST_TOTAL
  start_room q = let a = sea_room q in let b = flights_to_ocean grid whole lawful.stored q in omega (arith, ints, a, b)

  pub start_is : IsSea grid.ocean (layers grid) (sea_of whole)
  start_is = sea_is grid ground.ocean whole lawful (start_room Water) (start_room Heat) (start_room Salt)

  -- WITH THE FLIGHT

  pub flown_total : (q : Quantity) → total_in q (sea_at grid names whole 0) ≡ total_in q (sea_of whole) +ℤ flying_to_ocean grid whole q
  flown_total Heat =
      let a = flown_heat grid.ocean (layers grid) (sea_of whole) some_layer start_is whole.to_ocean in
      let b = total_range (λ n. of_cell 3 n 1 whole.to_ocean) C in
      let c = sum_to-same (λ n. of_cell 3 n 1 whole.to_ocean) (λ n. at whole.to_ocean (3 * n + 1)) C (λ n l. ap (at whole.to_ocean) (let e : n * 3 + 1 ≡ 3 * n + 1 = omega arith in e)) in
      omega (arith, ints, a, b, c)
  flown_total Water =
      let a = flown_water grid.ocean (layers grid) (sea_of whole) some_layer start_is whole.to_ocean in
      let b = total_range (λ n. of_cell 3 n 0 whole.to_ocean) C in
      let c = sum_to-same (λ n. of_cell 3 n 0 whole.to_ocean) (λ n. at whole.to_ocean (3 * n)) C (λ n l. ap (at whole.to_ocean) (let e : n * 3 + 0 ≡ 3 * n = omega arith in e)) in
      omega (arith, ints, a, b, c)
  flown_total Salt =
      let a = flown_salt grid.ocean (layers grid) (sea_of whole) some_layer start_is whole.to_ocean in
      let b = total_range (λ n. of_cell 3 n 2 whole.to_ocean) C in
      let c = sum_to-same (λ n. of_cell 3 n 2 whole.to_ocean) (λ n. at whole.to_ocean (3 * n + 2)) C (λ n l. ap (at whole.to_ocean) (let e : n * 3 + 2 ≡ 3 * n + 2 = omega arith in e)) in
      omega (arith, ints, a, b, c)

  flown_room : (q : Quantity) → total_in q (sea_at grid names whole 0) ≤ℤ pos MOST_TOTAL
  flown_room q = let a = flown_total q in let b = sea_room q in omega (arith, ints, a, b)

  flown_is : IsSea grid.ocean (layers grid) (sea_at grid names whole 0)
  flown_is = is_flown grid.ocean (layers grid) (sea_of whole) some_layer start_is whole.to_ocean (stored_natural whole.to_ocean lawful.stored.to_ocean) (flown_room Water) (flown_room Heat) (flown_room Salt)

  -- THE STEPS

  pub sea_steps : (i : ℕ) → IsSea grid.ocean (layers grid) (sea_at grid names whole i)
  sea_steps zero = flown_is
  sea_steps (suc i) = stepped_is grid.ocean (layers grid) names.rates (sea_at grid names whole i) ground.ocean (sea_steps i) are.rates.mix.0

  pub sea_total : (i : ℕ) (q : Quantity) → total_in q (sea_at grid names whole i) ≡ total_in q (sea_at grid names whole 0)
  sea_total zero q = refl
  sea_total (suc i) Heat = heat_total grid.ocean (layers grid) names.rates (sea_at grid names whole i) ground.ocean (sea_steps i) are.rates.mix.0 ∙ sea_total i Heat
  sea_total (suc i) Water = water_total grid.ocean (layers grid) names.rates (sea_at grid names whole i) ground.ocean (sea_steps i) are.rates.mix.0 ∙ sea_total i Water
  sea_total (suc i) Salt = salt_total grid.ocean (layers grid) names.rates (sea_at grid names whole i) ground.ocean (sea_steps i) are.rates.mix.0 ∙ sea_total i Salt

  sea_empty : (n : ℕ) → IsDry grid.ocean n → (i : ℕ) → HasNothing grid.ocean (layers grid) (sea_at grid names whole i) n
  sea_empty n dry zero =
      let own = (lawful.dry_ocean n dry).to_ocean in
      flown_empty grid.ocean (layers grid) (sea_of whole) some_layer start_is n dry.0 (nothing_in grid ground.ocean whole lawful n dry) whole.to_ocean
      (ap (at whole.to_ocean) (let e : 3 * n ≡ n * 3 + 0 = omega arith in e) ∙ own 0 (omega arith))
      (ap (at whole.to_ocean) (let e : 3 * n + 1 ≡ n * 3 + 1 = omega arith in e) ∙ own 1 (omega arith))
      (ap (at whole.to_ocean) (let e : 3 * n + 2 ≡ n * 3 + 2 = omega arith in e) ∙ own 2 (omega arith))
  sea_empty n dry (suc i) = stays_empty grid.ocean (layers grid) names.rates (sea_at grid names whole i) n dry.0 (not_wet grid ground.ocean n dry) (sea_empty n dry i)

  -- THE CUT

  abbrev last : Sea
  last = sea_at grid names whole names.ocean_steps

  last_is : IsSea grid.ocean (layers grid) (sea_at grid names whole names.ocean_steps)
  last_is = sea_steps names.ocean_steps

  pub sea_cut : IsSea grid.ocean (layers grid) (after_cut grid.ocean last)
  sea_cut = is_cut grid.ocean (layers grid) last some_layer last_is

  pub cut_nothing : (n : ℕ) → IsDry grid.ocean n → HasNothing grid.ocean (layers grid) (after_cut grid.ocean last) n
  cut_nothing n dry = cut_empty grid.ocean (layers grid) last some_layer last_is n dry.0 (sea_empty n dry names.ocean_steps)

  pub no_cut : (n k : ℕ) → IsDry grid.ocean n → k < 5 → of_cell 5 n k (cut_off grid.ocean last) ≡ pos 0
  no_cut n k dry h = cut_number grid.ocean last n k dry.0 h ∙ none_cut grid.ocean (layers grid) last some_layer last_is n dry.0 (sea_empty n dry names.ocean_steps) k h

  pub cut_stored : All IsStored (cut_off grid.ocean last)
  cut_stored =
      All-from_get_or IsStored (cut_off grid.ocean last) (pos 0) (λ i l.
      let within : i < C * 5 = (let e = cut_length grid.ocean last in omega arith) in
      let n_below = div_below i 5 C (omega arith) within in
      let k_below = mod_below i 5 (omega arith) in
      let number = cut_number grid.ocean last (i / 5) (i % 5) n_below k_below in
      let here = ap (at (cut_off grid.ocean last)) (div-add-mod' i 5) in
      stored (at (cut_off grid.ocean last) i) (subst IsAmount (sym number ∙ here) (one_of_five (cut_at grid.ocean last (i / 5)) (cut_flight (cell_in grid.ocean last 0 (i / 5)) (top_salty grid.ocean (layers grid) last some_layer last_is (i / 5) n_below)) (i % 5) k_below)))

  -- what is cut off, as what flies
  abbrev cut_sum : Quantity → ℤ
  cut_sum q = total_of (for_each C (λ n. quantity_of q (whole_flight (cut_at grid.ocean last n))))

  -- what was there with the flight is left, or cut off
  pub cut_total : (q : Quantity) → total_in q (after_cut grid.ocean last) +ℤ cut_sum q ≡ total_in q (sea_of whole) +ℤ flying_to_ocean grid whole q
  cut_total Heat =
      let a = left_heat grid.ocean (layers grid) last some_layer last_is in
      let b = total_range (λ n. quantity_of Heat (whole_flight (cut_at grid.ocean last n))) C in
      let c = sea_total names.ocean_steps Heat in
      let d = flown_total Heat in
      omega (arith, ints, a, b, c, d)
  cut_total Water =
      let a = left_water grid.ocean (layers grid) last some_layer last_is in
      let b = total_range (λ n. quantity_of Water (whole_flight (cut_at grid.ocean last n))) C in
      let c = sea_total names.ocean_steps Water in
      let d = flown_total Water in
      omega (arith, ints, a, b, c, d)
  cut_total Salt =
      let a = left_salt grid.ocean (layers grid) last some_layer last_is in
      let b = total_range (λ n. quantity_of Salt (whole_flight (cut_at grid.ocean last n))) C in
      let c = sea_total names.ocean_steps Salt in
      let d = flown_total Salt in
      omega (arith, ints, a, b, c, d)
