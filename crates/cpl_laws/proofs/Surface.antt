-- The air, the land and the ice keep all in a coupling step.
use Rattle.std.proofs.Common.{◌≡◌, ◌∙◌, refl, sym, subst, ℕ, ◌+◌, ◌*◌, ◌<◌, arith, inl, inr, length}
use Rattle.std.specs.Prelude.{pos, ◌+ℤ◌, All}
use Rattle.std.specs.List.{range_with_len}
use Rattle.std.proofs.lemmas.Int.{ints}
use Rattle.std.proofs.lemmas.Bool.{cases_lt}
use Rattle.std.proofs.lemmas.List.{get_or_past}
use Rattle.std.proofs.lemmas.List.Elements.{All-map, All-get_or}
use Rattle.std.proofs.lemmas.List.FromFn.{length-map-range_with_len}
use Rattle.cpl_fixed.specs.Amounts.{at}
use Rattle.cpl_fixed.specs.declared.words.Quantity.{Quantity}
use Rattle.cpl_fixed.specs.declared.words.Quantity.TheVariants.{Heat, Water, Salt}
use Rattle.cpl_xgrid.specs.declared.grid.Grid.{Grid}
use Rattle.cpl_state.specs.declared.whole.Whole.{Whole}
use Rattle.cpl_state.specs.Stored.{IsStored}
use Rattle.cpl_state.specs.States.{ocean_cells, of_cell, IsWhole, IsMid, IsOnOcean, HasNoFlights}
use Rattle.cpl_state.specs.Stocks.{held, held_within, stocks_of, flying_to_ice, flying_to_ocean}
use Rattle.cpl_state.specs.FastStep.{for_each}
use Rattle.cpl_state.specs.CouplingStep.{taken, no_flights}
use Rattle.cpl_laws.proofs.Sums.{total_add}
use Rattle.cpl_laws.proofs.Held.{read_cell}
use Rattle.cpl_laws.proofs.SlowSums.{zeros_at, cells_none}

-- NOTHING FLIES

none_stored : (n : ℕ) → All IsStored (no_flights n)
none_stored n = All-map IsStored (λ i. pos 0) (range_with_len 0 n) (λ k d l. (omega (arith, ints), omega (arith, ints)))

all_none : (n : ℕ) → All (λ x. x ≡ pos 0) (no_flights n)
all_none n = All-map (λ x. x ≡ pos 0) (λ i. pos 0) (range_with_len 0 n) (λ k d l. refl)

none_at : (n i : ℕ) → at (no_flights n) i ≡ pos 0
none_at n i = zeros_at (no_flights n) (all_none n) i

module _ (grid : Grid) (whole : Whole) (lawful : IsWhole grid whole) where
  abbrev C : ℕ
  C = ocean_cells grid

  -- a number of the flight to the ice, for each cell
  flight_stored : (i : ℕ) → IsStored (at whole.to_ice i)
  flight_stored i = elim (cases_lt i (length whole.to_ice)) [
    | inl l ↦ All-get_or IsStored whole.to_ice i (pos 0) l lawful.stored.to_ice
    | inr past ↦ subst IsStored (sym (get_or_past whole.to_ice i (pos 0) past)) (omega (arith, ints), omega (arith, ints))
  ]

  on_ocean : (k : ℕ) → k < 5 → IsOnOcean grid (for_each C (λ n. of_cell 5 n k whole.to_ice))
  on_ocean k h = record {
    count = length-map-range_with_len (λ n. of_cell 5 n k whole.to_ice) 0 C;
    stored = All-map IsStored (λ n. of_cell 5 n k whole.to_ice) (range_with_len 0 C) (λ j d l. flight_stored _);
    dry = λ n dry. read_cell (λ n. of_cell 5 n k whole.to_ice) C n dry.0 ∙ (lawful.dry_ocean n dry).to_ice k h;
  }

  whole_taken : IsWhole grid (taken grid whole).whole
  unfolding taken
  whole_taken = record {
    lengths = record {
      air_heat = lawful.lengths.air_heat;
      air_vapour = lawful.lengths.air_vapour;
      air_sun = lawful.lengths.air_sun;
      land_heat = lawful.lengths.land_heat;
      land_water = lawful.lengths.land_water;
      parts = lawful.lengths.parts;
      ice = lawful.lengths.ice;
      ice_heat = lawful.lengths.ice_heat;
      water = lawful.lengths.water;
      heat = lawful.lengths.heat;
      salt = lawful.lengths.salt;
      faces = lawful.lengths.faces;
      to_ice = length-map-range_with_len (λ i. pos 0) 0 (5 * C);
      to_ocean = length-map-range_with_len (λ i. pos 0) 0 (3 * C);
    };
    stored = record {
      elapsed = lawful.stored.elapsed;
      air_heat = lawful.stored.air_heat;
      air_vapour = lawful.stored.air_vapour;
      air_sun = lawful.stored.air_sun;
      land_heat = lawful.stored.land_heat;
      land_water = lawful.stored.land_water;
      parts = lawful.stored.parts;
      ice = lawful.stored.ice;
      ice_heat = lawful.stored.ice_heat;
      water = lawful.stored.water;
      heat = lawful.stored.heat;
      salt = lawful.stored.salt;
      to_ice = none_stored (5 * C);
      to_ocean = none_stored (3 * C);
    };
    parts = lawful.parts;
    dry_land_heat = lawful.dry_land_heat;
    dry_land_water = lawful.dry_land_water;
    dry_ocean = λ n dry. (let own = lawful.dry_ocean n dry in record {
      parts = own.parts;
      ice = own.ice;
      ice_heat = own.ice_heat;
      water = own.water;
      heat = own.heat;
      salt = own.salt;
      to_ice = λ k h. none_at (5 * C) (n * 5 + k);
      to_ocean = λ k h. none_at (3 * C) (n * 3 + k);
    });
    faces = record { range = lawful.faces.range; dry = lawful.faces.dry };
  }

  pub is_taken : IsMid grid (taken grid whole)
  unfolding taken
  is_taken = record {
    whole = whole_taken;
    skin_water = on_ocean 2 (omega arith);
    skin_heat = on_ocean 3 (omega arith);
    skin_salt = on_ocean 4 (omega arith);
    frazil_water = on_ocean 0 (omega arith);
    frazil_heat = on_ocean 1 (omega arith);
  }

  pub none_flies : HasNoFlights (taken grid whole).whole
  unfolding taken
  none_flies = record { to_ice = all_none (5 * C); to_ocean = all_none (3 * C) }

  -- what the ice takes was flying to it
  none_to_ice : (q : Quantity) → flying_to_ice grid (taken grid whole).whole q ≡ pos 0
  unfolding taken
  none_to_ice Heat = cells_none _ C (λ n l. let a = none_at (5 * C) (n * 5 + 1) in let b = none_at (5 * C) (n * 5 + 3) in omega (arith, ints, a, b))
  none_to_ice Water = cells_none _ C (λ n l. let a = none_at (5 * C) (n * 5 + 0) in let b = none_at (5 * C) (n * 5 + 2) in omega (arith, ints, a, b))
  none_to_ice Salt = cells_none _ C (λ n l. none_at (5 * C) (n * 5 + 4))

  none_to_ocean : (q : Quantity) → flying_to_ocean grid (taken grid whole).whole q ≡ pos 0
  unfolding taken
  none_to_ocean Heat = cells_none _ C (λ n l. none_at (3 * C) (n * 3 + 1))
  none_to_ocean Water = cells_none _ C (λ n l. none_at (3 * C) (n * 3 + 0))
  none_to_ocean Salt = cells_none _ C (λ n l. none_at (3 * C) (n * 3 + 2))

  pub held_taken : (q : Quantity) → held_within grid (taken grid whole) q +ℤ flying_to_ocean grid whole q ≡ held grid whole q
  unfolding taken stocks_of
  held_taken Heat =
      let a = total_add (λ n. of_cell 5 n 1 whole.to_ice) (λ n. of_cell 5 n 3 whole.to_ice) (range_with_len 0 C) in
      let b = none_to_ice Heat in
      let c = none_to_ocean Heat in
      omega (arith, ints, a, b, c)
  held_taken Water =
      let a = total_add (λ n. of_cell 5 n 0 whole.to_ice) (λ n. of_cell 5 n 2 whole.to_ice) (range_with_len 0 C) in
      let b = none_to_ice Water in
      let c = none_to_ocean Water in
      omega (arith, ints, a, b, c)
  held_taken Salt =
      let b = none_to_ice Salt in
      let c = none_to_ocean Salt in
      omega (arith, ints, b, c)
