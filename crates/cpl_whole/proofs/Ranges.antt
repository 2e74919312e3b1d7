-- The sums of what fast steps move keep within the words of this machine.
use Rattle.std.proofs.Common.{◌≡◌, ap, ℕ, zero, suc, ◌+◌, ◌-◌, ◌*◌, ◌<◌, ◌≤◌, ◌^◌, arith, List}
use Rattle.std.specs.Prelude.{ℤ, pos, ◌+ℤ◌, ◌-ℤ◌, ◌≤ℤ◌, FitsSigned}
use Rattle.std.specs.Int.{w128}
use Rattle.std.proofs.lemmas.Int.{ints}
use Rattle.cpl_fixed.specs.Amounts.{at}
use Rattle.cpl_fixed.specs.declared.limits.TheConstants.{MOST_TOTAL}
use Rattle.cpl_fixed.specs.declared.words.Quantity.TheVariants.{Heat}
use Rattle.cpl_namelist.specs.declared.names.Names.{Names}
use Rattle.cpl_namelist.specs.Ranges.{AreNames}
use Rattle.cpl_xgrid.specs.declared.grid.Grid.{Grid}
use Rattle.cpl_xgrid.specs.declared.parts.Surface.TheVariants.{Land, Ocean}
use Rattle.cpl_state.specs.declared.whole.Whole.{Whole}
use Rattle.cpl_state.specs.declared.whole.Mid.{Mid}
use Rattle.cpl_state.specs.States.{IsWhole}
use Rattle.cpl_state.specs.Stocks.{held, stocks_of}
use Rattle.cpl_state.specs.FastStep.{Before, entered, left, gave, took, heat_given, water_given, heat_to_land, water_to_land, heat_to_ice, water_to_ice}
use Rattle.cpl_state.specs.SurfaceLaws.{KeepsSurface, fast_before, sun_of_step}
use Rattle.cpl_state.specs.CouplingStep.{before, fast_by, month_of, over_fast, step_entered, step_left, surface_after, taken}
use Rattle.cpl_laws.proofs.Held.{flights_to_ice, flights_to_ocean}
use Rattle.cpl_laws.proofs.FastRanges.{stored_total}
use Rattle.cpl_course.specs.Course.{IsGround}
use Rattle.cpl_whole.specs.Tallies.{IsInRange, fast_sums}
use Rattle.cpl_whole.proofs.Small.{AreSmall, IsSmall, are_small}

-- the heat of a lawful state isn't negative
pub heat_natural : (grid : Grid) (whole : Whole) → IsWhole grid whole → pos 0 ≤ℤ held grid whole Heat
unfolding stocks_of
heat_natural grid whole lawful =
    let a = stored_total whole.air_heat lawful.stored.air_heat in
    let b = stored_total whole.land_heat lawful.stored.land_heat in
    let c = stored_total whole.ice_heat lawful.stored.ice_heat in
    let d = stored_total whole.heat lawful.stored.heat in
    let e = flights_to_ice grid whole lawful.stored Heat in
    let f = flights_to_ocean grid whole lawful.stored Heat in
    omega (arith, ints, a, b, c, d, e, f)

fits : (x : ℤ) → ((pos 0 -ℤ pos (2 ^ 80)) ≤ℤ x) × (x ≤ℤ pos (2 ^ 80)) → FitsSigned w128 x
fits x h = omega (arith, ints, h.0, h.1)

module _ (grid : Grid) (names : Names) (month : ℕ) (mid : Mid) (steps : ℕ) where
  abbrev at_step : ℕ → Before
  at_step i = before grid names month (fast_by i grid names month mid)

  -- what isn't negative in each step grows
  over_least : (tally : Before → ℤ) → ((i : ℕ) → i < steps → pos 0 ≤ℤ tally (at_step i)) → (i : ℕ) → i ≤ steps → pos 0 ≤ℤ over_fast tally i grid names month mid
  over_least tally least zero l = omega (arith, ints)
  over_least tally least (suc i) l =
      let was = over_least tally least i (omega arith) in
      let next = least i l in
      omega (arith, ints, was, next)

  over_most : (tally : Before → ℤ) → ((i : ℕ) → i < steps → pos 0 ≤ℤ tally (at_step i)) → (more i : ℕ) → i + more ≡ steps → over_fast tally i grid names month mid ≤ℤ over_fast tally steps grid names month mid
  over_most tally least zero i e = let same = ap (λ (n : ℕ). over_fast tally n grid names month mid) (let f : i ≡ steps = omega arith in f) in omega (arith, ints, same)
  over_most tally least (suc more) i e =
      let next = least i (omega arith) in
      let rest = over_most tally least more (suc i) (omega arith) in
      omega (arith, ints, next, rest)

  -- what is small in each step keeps within so many times as much
  over_small : (tally : Before → ℤ) → ((i : ℕ) → i < steps → IsSmall (tally (at_step i))) → (i : ℕ) → i ≤ steps
      → ((pos 0 -ℤ pos (2 ^ 63 * i)) ≤ℤ over_fast tally i grid names month mid) × (over_fast tally i grid names month mid ≤ℤ pos (2 ^ 63 * i))
  over_small tally small zero l = (omega (arith, ints), omega (arith, ints))
  over_small tally small (suc i) l =
      let was = over_small tally small i (omega arith) in
      let next = small i l in
      (omega (arith, ints, was.0, next.0), omega (arith, ints, was.1, next.1))

module _ (grid : Grid) (names : Names) (whole : Whole) (ground : IsGround grid) (are : AreNames names) (lawful : IsWhole grid whole)
    (room : (held grid whole Heat +ℤ sun_of_step names whole) ≤ℤ pos MOST_TOTAL) (keeps : KeepsSurface grid names whole) where
  abbrev month : ℕ
  month = month_of names whole

  abbrev start : Mid
  start = taken grid whole

  small_steps : (i : ℕ) → i < names.fast → AreSmall (fast_before grid names whole i)
  small_steps i l = are_small (fast_before grid names whole i) ground.numbered ground.air ground.mates (keeps.can_fast i l)

  entered_steps : (i : ℕ) → i < names.fast → pos 0 ≤ℤ entered (fast_before grid names whole i)
  entered_steps i l = (keeps.fast i l).sun_entered.0

  left_steps : (i : ℕ) → i < names.fast → pos 0 ≤ℤ left (fast_before grid names whole i)
  left_steps i l = (keeps.fast i l).heat_left.0

  all_entered : over_fast entered names.fast grid names month start ≤ℤ pos MOST_TOTAL
  unfolding step_entered
  all_entered =
      let within = keeps.within in
      let least = heat_natural grid whole lawful in
      omega (arith, ints, within, least, room)

  all_left : over_fast left names.fast grid names month start ≤ℤ pos MOST_TOTAL
  unfolding step_left
  all_left =
      let within = keeps.within in
      let total = keeps.heat in
      let after = heat_natural grid (surface_after grid names whole) keeps.after in
      let flown = flights_to_ocean grid whole lawful.stored Heat in
      omega (arith, ints, within, total, after, flown, room)

  -- so many of them keep far within 128 bits
  wide : (tally : Before → ℤ) → ((i : ℕ) → i < names.fast → IsSmall (tally (fast_before grid names whole i))) → (i : ℕ) → i ≤ names.fast
      → ((pos 0 -ℤ pos (2 ^ 80)) ≤ℤ over_fast tally i grid names month start) × (over_fast tally i grid names month start ≤ℤ pos (2 ^ 80))
  wide tally small i l =
      let sum = over_small grid names month start names.fast tally small i l in
      let few = are.fast.1 in
      (omega (arith, ints, sum.0, few, l), omega (arith, ints, sum.1, few, l))

  -- what is given in a step is what is taken
  same_small : (x y : ℤ) → x ≡ y → IsSmall y → IsSmall x
  same_small x y e small = (omega (arith, ints, e, small.0), omega (arith, ints, e, small.1))

  given : (k : ℕ) → (i : ℕ) → i < names.fast → at (gave (fast_before grid names whole i)) k ≡ at (took (fast_before grid names whole i)) k
  given k i l = ap (λ (xs : List ℤ). at xs k) (keeps.fast i l).exchange

  pub in_range : (i : ℕ) → i ≤ names.fast → IsInRange (fast_sums i grid names (month_of names whole) (taken grid whole))
  in_range i l =
      let e : i + (names.fast - i) ≡ names.fast = omega arith in
      let enters = over_least grid names month start names.fast entered entered_steps i l in
      let leaves = over_least grid names month start names.fast left left_steps i l in
      let enters_most = over_most grid names month start names.fast entered entered_steps (names.fast - i) i e in
      let leaves_most = over_most grid names month start names.fast left left_steps (names.fast - i) i e in
      let a = all_entered in
      let b = all_left in
      let g0 = wide (λ s. heat_given s Land) (λ j k. same_small _ _ (given 0 j k) (small_steps j k).heat_land) i l in
      let g1 = wide (λ s. water_given s Land) (λ j k. same_small _ _ (given 1 j k) (small_steps j k).water_land) i l in
      let g2 = wide (λ s. heat_given s Ocean) (λ j k. same_small _ _ (given 2 j k) (small_steps j k).heat_ice) i l in
      let g3 = wide (λ s. water_given s Ocean) (λ j k. same_small _ _ (given 3 j k) (small_steps j k).water_ice) i l in
      let t0 = wide heat_to_land (λ j k. (small_steps j k).heat_land) i l in
      let t1 = wide water_to_land (λ j k. (small_steps j k).water_land) i l in
      let t2 = wide heat_to_ice (λ j k. (small_steps j k).heat_ice) i l in
      let t3 = wide water_to_ice (λ j k. (small_steps j k).water_ice) i l in
      record {
        heat = record { entered = (enters, omega (arith, ints, enters_most, a)); left = (leaves, omega (arith, ints, leaves_most, b)) };
        gave = record { first = fits _ g0; second = fits _ g1; third = fits _ g2; fourth = fits _ g3 };
        took = record { first = fits _ t0; second = fits _ t1; third = fits _ t2; fourth = fits _ t3 };
      }
