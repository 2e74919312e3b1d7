-- The air, the land and the ice keep all in a coupling step: its fast steps and its slow part together.
use Rattle.std.proofs.Common.{◌≡◌, ◌∙◌, refl, sym, ap, ℕ, ◌-◌, ◌<◌, ◌≤◌, arith, List}
use Rattle.std.specs.Prelude.{ℤ, pos, ◌+ℤ◌, ◌-ℤ◌, ◌*ℤ◌, ◌≤ℤ◌, All}
use Rattle.std.proofs.lemmas.Int.{ints}
use Rattle.cpl_fixed.specs.Amounts.{at}
use Rattle.cpl_fixed.specs.Shares.{part_of}
use Rattle.cpl_fixed.specs.declared.limits.TheConstants.{MOST_TOTAL}
use Rattle.cpl_fixed.specs.declared.words.Quantity.TheVariants.{Heat, Water, Salt}
use Rattle.cpl_fixed.specs.declared.rates.Rates.{Rates}
use Rattle.cpl_mosaic.specs.Mates.{MatesAgree}
use Rattle.cpl_namelist.specs.declared.names.Names.{Names}
use Rattle.cpl_xgrid.specs.declared.grid.Grid.{Grid}
use Rattle.cpl_xgrid.specs.declared.parts.Surface.TheVariants.{Land, Ocean}
use Rattle.cpl_state.specs.declared.whole.Whole.{Whole}
use Rattle.cpl_state.specs.declared.whole.Mid.{Mid}
use Rattle.cpl_state.specs.Stored.{IsStored}
use Rattle.cpl_state.specs.Stocks.{held, held_within, flying_to_ocean}
use Rattle.cpl_state.specs.Budget.{sun_of_strength}
use Rattle.cpl_state.specs.FastStep.{Before, heat_given, water_given, heat_to_land, water_to_land, heat_to_ice, water_to_ice}
use Rattle.cpl_state.specs.FastLaws.{CanStep, KeepsAll}
use Rattle.cpl_state.specs.Slow.{slow_after}
use Rattle.cpl_state.specs.SlowLaws.{CanSlowAll, KeepsSlow}
use Rattle.cpl_state.specs.SurfaceLaws.{CanCouple, KeepsSurface, IsAmid, IsSameSea, fast_before, fast_state, sun_of_step}
use Rattle.cpl_state.specs.CouplingStep.{taken, month_of, after_fast, surface_after, step_entered, step_left}
use Rattle.cpl_laws.specs.Once.{IsNumbered}
use Rattle.cpl_laws.proofs.Groups.{total_natural}
use Rattle.cpl_laws.proofs.Flows.{part_natural_of, strength_least}
use Rattle.cpl_laws.proofs.Held.{flights_to_ocean}
use Rattle.cpl_laws.proofs.FastSums.{given_heat, given_water, land_heat_taken, land_water_taken, ice_heat_taken, ice_water_taken}
use Rattle.cpl_laws.proofs.SlowKept.{keeps_slow}
use Rattle.cpl_laws.proofs.Months.{month_range}
use Rattle.cpl_laws.proofs.FastRun.{IsAfter, is_after, can_step, keeps_step, tallies_agree, times_more}
use Rattle.cpl_laws.proofs.Surface.{is_taken, none_flies, held_taken}

-- the sun in any strength
pub sun_least : (strength : ℤ) (suns : List ℤ) → pos 0 ≤ℤ strength → All IsStored suns → pos 0 ≤ℤ sun_of_strength strength suns
sun_least strength suns least all = total_natural (λ sun. part_of sun strength (pos 1_000)) suns (λ k d l. part_natural_of _ strength 1_000 (all k d l).0 least)

taken_same : (grid : Grid) (whole : Whole) → IsSameSea whole (taken grid whole).whole
unfolding taken
taken_same grid whole = record { elapsed = refl; sun = refl; water = refl; heat = refl; salt = refl; faces = refl }

slow_same : (grid : Grid) (rates : Rates) (mid : Mid) → IsSameSea mid.whole (slow_after grid rates mid)
unfolding slow_after
slow_same grid rates mid = record { elapsed = refl; sun = refl; water = refl; heat = refl; salt = refl; faces = refl }

after_after : (a b c : Whole) → IsSameSea a b → IsSameSea b c → IsSameSea a c
after_after a b c one two = record {
  elapsed = two.elapsed ∙ one.elapsed;
  sun = two.sun ∙ one.sun;
  water = two.water ∙ one.water;
  heat = two.heat ∙ one.heat;
  salt = two.salt ∙ one.salt;
  faces = two.faces ∙ one.faces;
}

module _ (grid : Grid) (names : Names) (whole : Whole) (is : IsNumbered grid) (mates : MatesAgree grid.air.mosaic) (can : CanCouple grid names whole) where
  abbrev mid : Mid
  mid = taken grid whole

  abbrev month : ℕ
  month = month_of names whole

  abbrev sun : ℤ
  sun = sun_of_strength (at names.rates.month (month_of names whole - 1)) (taken grid whole).whole.air_sun

  sun_same : sun ≡ sun_of_strength (at names.rates.month (month_of names whole - 1)) whole.air_sun
  sun_same = ap (sun_of_strength (at names.rates.month (month_of names whole - 1))) (taken_same grid whole).sun

  sun_natural : pos 0 ≤ℤ sun
  sun_natural =
      let e = sun_same in
      let least = sun_least (at names.rates.month (month_of names whole - 1)) whole.air_sun (strength_least names.rates can.are_names.rates (month_of names whole - 1)) can.is_whole.stored.air_sun in
      omega (arith, ints, e, least)

  all_sun : pos names.fast *ℤ sun ≡ sun_of_step names whole
  all_sun = ap (λ (x : ℤ). pos names.fast *ℤ x) sun_same

  start_heat : (held_within grid (taken grid whole) Heat +ℤ (pos names.fast *ℤ sun)) ≤ℤ pos MOST_TOTAL
  start_heat =
      let e = held_taken grid whole can.is_whole Heat in
      let flying = flights_to_ocean grid whole can.is_whole.stored Heat in
      let all = all_sun in
      omega (arith, ints, can.heat, e, flying, all)

  start_water : held_within grid (taken grid whole) Water ≤ℤ pos MOST_TOTAL
  start_water =
      let e = held_taken grid whole can.is_whole Water in
      let flying = flights_to_ocean grid whole can.is_whole.stored Water in
      omega (arith, ints, can.water, e, flying)

  start_salt : held_within grid (taken grid whole) Salt ≤ℤ pos MOST_TOTAL
  start_salt =
      let e = held_taken grid whole can.is_whole Salt in
      let flying = flights_to_ocean grid whole can.is_whole.stored Salt in
      omega (arith, ints, can.salt, e, flying)

  -- THE FAST STEPS

  some_fast : (i : ℕ) → i ≤ names.fast → IsAfter grid names month (taken grid whole) names.fast is can.air mates can.are_names.rates (month_range names whole can.are_names) (is_taken grid whole can.is_whole) (none_flies grid whole can.is_whole) i
  some_fast i l = is_after grid names month (taken grid whole) names.fast is can.air mates can.are_names.rates (month_range names whole can.are_names) (is_taken grid whole can.is_whole) (none_flies grid whole can.is_whole) start_heat start_water start_salt sun_natural i l

  all_fast : IsAfter grid names month (taken grid whole) names.fast is can.air mates can.are_names.rates (month_range names whole can.are_names) (is_taken grid whole can.is_whole) (none_flies grid whole can.is_whole) names.fast
  all_fast = some_fast names.fast (omega arith)

  -- no more is held on the way than there was, with the sun
  amid : (i : ℕ) → i ≤ names.fast → IsAmid grid names whole (fast_state grid names whole i)
  amid i l =
      let was = some_fast i l in
      let heat = held_taken grid whole can.is_whole Heat in
      let heat_flies = flights_to_ocean grid whole can.is_whole.stored Heat in
      let water = held_taken grid whole can.is_whole Water in
      let water_flies = flights_to_ocean grid whole can.is_whole.stored Water in
      let salt = held_taken grid whole can.is_whole Salt in
      let salt_flies = flights_to_ocean grid whole can.is_whole.stored Salt in
      let more = times_more i names.fast sun sun_natural l in
      let all = all_sun in
      record {
        lawful = was.is_mid;
        heat = omega (arith, ints, was.heat, was.entering.1, was.leaving, heat, heat_flies, more, all);
        water = omega (arith, ints, was.water, water, water_flies);
        salt = omega (arith, ints, was.salt, salt, salt_flies);
      }

  can_fast : (i : ℕ) → i < names.fast → CanStep (fast_before grid names whole i)
  can_fast i l = can_step grid names month (taken grid whole) names.fast is can.air mates can.are_names.rates (month_range names whole can.are_names) (is_taken grid whole can.is_whole) (none_flies grid whole can.is_whole) start_heat start_water start_salt sun_natural i l

  fast : (i : ℕ) → i < names.fast → KeepsAll (fast_before grid names whole i)
  fast i l = keeps_step grid names month (taken grid whole) names.fast is can.air mates can.are_names.rates (month_range names whole can.are_names) (is_taken grid whole can.is_whole) (none_flies grid whole can.is_whole) start_heat start_water start_salt sun_natural i l

  -- THE SLOW PART

  can_slow : CanSlowAll grid names.rates (after_fast grid names whole)
  unfolding after_fast
  can_slow =
      let run = all_fast in
      record {
        rules = is.rules;
        are_rates = can.are_names.rates;
        is_mid = run.is_mid;
        flights = run.flights;
        heat = omega (arith, ints, run.heat, run.entering.1, run.leaving, start_heat);
        water = omega (arith, ints, run.water, start_water);
        salt = omega (arith, ints, run.salt, start_salt);
      }

  slow : KeepsSlow grid names.rates (after_fast grid names whole)
  slow = keeps_slow grid names.rates (after_fast grid names whole) is can_slow

  -- WHAT WAS GIVEN

  some_category : 0 < grid.column.categories
  some_category = is.rules.column.categories.0

  -- THE SURFACE

  sea_same : IsSameSea whole (surface_after grid names whole)
  unfolding after_fast
  sea_same =
      after_after whole (after_fast grid names whole).whole (surface_after grid names whole)
      (after_after whole (taken grid whole).whole (after_fast grid names whole).whole (taken_same grid whole) all_fast.same)
      (slow_same grid names.rates (after_fast grid names whole))

  heat_total : held grid (surface_after grid names whole) Heat +ℤ flying_to_ocean grid whole Heat ≡ held grid whole Heat +ℤ step_entered grid names whole -ℤ step_left grid names whole
  unfolding after_fast step_entered step_left
  heat_total =
      let run = all_fast in
      let e = held_taken grid whole can.is_whole Heat in
      let kept = slow.heat in
      omega (arith, ints, run.heat, e, kept)

  water_total : held grid (surface_after grid names whole) Water +ℤ flying_to_ocean grid whole Water ≡ held grid whole Water
  unfolding after_fast
  water_total =
      let run = all_fast in
      let e = held_taken grid whole can.is_whole Water in
      let kept = slow.water in
      omega (arith, ints, run.water, e, kept)

  salt_total : held grid (surface_after grid names whole) Salt +ℤ flying_to_ocean grid whole Salt ≡ held grid whole Salt
  unfolding after_fast
  salt_total =
      let run = all_fast in
      let e = held_taken grid whole can.is_whole Salt in
      let kept = slow.salt in
      omega (arith, ints, run.salt, e, kept)

  entering : (pos 0 ≤ℤ step_entered grid names whole) × (step_entered grid names whole ≤ℤ sun_of_step names whole)
  unfolding step_entered
  entering =
      let run = all_fast in
      let all = all_sun in
      (run.entering.0, omega (arith, ints, run.entering.1, all))

  leaving : pos 0 ≤ℤ step_left grid names whole
  unfolding step_left
  leaving = all_fast.leaving

  pub keeps_surface : KeepsSurface grid names whole
  keeps_surface =
      let agree = λ (one other : Before → ℤ) (each : (n : ℕ) → n < names.fast → one (fast_before grid names whole n) ≡ other (fast_before grid names whole n)). tallies_agree grid names month (taken grid whole) names.fast is can.air mates can.are_names.rates (month_range names whole can.are_names) (is_taken grid whole can.is_whole) (none_flies grid whole can.is_whole) start_heat start_water start_salt sun_natural one other each names.fast (omega arith) in
      record {
        start = is_taken grid whole can.is_whole;
        can_fast = can_fast;
        fast = fast;
        amid = amid;
        can_slow = can_slow;
        slow = slow;
        land_heat = agree (λ s. heat_given s Land) heat_to_land (λ n l. given_heat (fast_before grid names whole n) is Land ∙ sym (land_heat_taken (fast_before grid names whole n) is));
        land_water = agree (λ s. water_given s Land) water_to_land (λ n l. given_water (fast_before grid names whole n) is Land ∙ sym (land_water_taken (fast_before grid names whole n) is));
        ice_heat = agree (λ s. heat_given s Ocean) heat_to_ice (λ n l. given_heat (fast_before grid names whole n) is Ocean ∙ sym (ice_heat_taken (fast_before grid names whole n) is some_category));
        ice_water = agree (λ s. water_given s Ocean) water_to_ice (λ n l. given_water (fast_before grid names whole n) is Ocean ∙ sym (ice_water_taken (fast_before grid names whole n) is));
        sun_entered = entering.0;
        within = entering.1;
        heat_left = leaving;
        after = slow.after;
        same = sea_same;
        heat = heat_total;
        water = water_total;
        salt = salt_total;
      }
