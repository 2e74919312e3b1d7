-- A coupling step is that of its parts.
use Rattle.std.proofs.Common.{◌≡◌, ◌∙◌, sym, ap, subst, ℕ, suc, ◌*◌, ◌+◌, ◌<◌, ◌≤◌, ◌^◌, arith, List, length, to_z, of_z, w64}
use Rattle.std.specs.Prelude.{ℤ, pos, ◌+ℤ◌, ◌≤ℤ◌, ◌<ℤ◌, All, FitsSigned, unsigned_abs}
use Rattle.std.proofs.lemmas.Int.{ints}
use Rattle.std.proofs.Math.IntN.{zero-*ℤ}
use Rattle.cpl_fixed.specs.Amounts.{IsAmount}
use Rattle.cpl_fixed.specs.declared.limits.TheConstants.{MOST_TOTAL}
use Rattle.cpl_fixed.specs.declared.words.Quantity.{Quantity}
use Rattle.cpl_namelist.specs.declared.names.Names.{Names}
use Rattle.cpl_namelist.specs.Civil.{civil_after}
use Rattle.cpl_xgrid.specs.declared.grid.Grid.{Grid}
use Rattle.cpl_state.specs.declared.whole.Whole.{Whole}
use Rattle.cpl_state.specs.declared.whole.Mid.{Mid}
use Rattle.cpl_state.specs.Stored.{IsStored}
use Rattle.cpl_state.specs.States.{land_cells, layers, ocean_cells, IsWhole, IsMid}
use Rattle.cpl_state.specs.FastLaws.{CanStep}
use Rattle.cpl_state.specs.Slow.{arrived, runoff_of, slow_after}
use Rattle.cpl_state.specs.SlowLaws.{CanSlowAll}
use Rattle.cpl_state.specs.Stocks.{held}
use Rattle.cpl_state.specs.Transport.{stepped}
use Rattle.cpl_state.specs.Cut.{after_cut, cut_off}
use Rattle.cpl_state.specs.CouplingStep.{after_fast, before, fast_by, step_arrived, step_runoff, sea_of, sea_after, surface_after, step_after, with_sea, month_of, taken}
use Rattle.cpl_sea.specs.Rooms.{with_sea as with_ocean}
use Rattle.cpl_sea.specs.Seas.{IsSea}
use Rattle.cpl_slow.specs.Rooms.{CanTake}
use Rattle.cpl_slow.specs.Sums.{gain_sums}
use Rattle.cpl_fast.specs.declared.fast.FastTally.{FastTally}
use Rattle.cpl_course.specs.Course.{KeepsCoupling}
use Rattle.cpl_laws.proofs.FastRun.{times_next}
use Rattle.cpl_course.proofs.Course.{coupling, room, with_sun}
use Rattle.cpl_course.proofs.Oceans.{start_is}
use Rattle.cpl_whole.specs.Rooms.{CanCoupleOn, HasSkins}
use Rattle.cpl_whole.specs.Seas.{flown_by}
use Rattle.cpl_whole.specs.Tallies.{IsInRange, all_fast_sums, fast_sums}
use Rattle.cpl_whole.proofs.Flights.{flight_amounts}
use Rattle.cpl_whole.proofs.Ranges.{in_range}

-- lists of a lawful state within a coupling step
pub skins_of : (grid : Grid) (mid : Mid) → IsMid grid mid → HasSkins grid mid
skins_of grid mid is = record {
  skin_water = is.skin_water.count;
  skin_heat = is.skin_heat.count;
  skin_salt = is.skin_salt.count;
  frazil_water = is.frazil_water.count;
  frazil_heat = is.frazil_heat.count;
}

module _ (grid : Grid) (names : Names) (whole : Whole) (can : CanCoupleOn grid names whole) where
  pub keeps : KeepsCoupling grid names whole
  keeps = coupling 0 grid names whole can.ground can.run

  pub totals : (q : Quantity) → held grid whole q ≤ℤ pos MOST_TOTAL
  totals = room 0 grid names whole can.ground can.run

  pub sums_fit : (i : ℕ) → i ≤ names.fast → IsInRange (fast_sums i grid names (month_of names whole) (taken grid whole))
  sums_fit = in_range grid names whole can.ground can.run.are_names can.run.is_whole (with_sun 0 grid names whole can.ground can.run) keeps.surface

  pub flight_is : All IsAmount whole.to_ocean
  flight_is = flight_amounts grid names whole can.ground can.run.are_names can.run.is_whole totals

  pub sea_is : IsSea grid.ocean (layers grid) (sea_of whole)
  sea_is = start_is grid names whole can.ground can.run.are_names can.run.is_whole totals

  -- the ocean after air, land and ice went on is that before
  pub same_sea : sea_of (surface_after grid names whole) ≡ sea_of whole
  same_sea = (let same = keeps.surface.same in λ i. record { water = same.water i; heat = same.heat i; salt = same.salt i; faces = same.faces i })

  pub sea_steps : (i : ℕ) → i ≤ names.ocean_steps → IsSea grid.ocean (layers grid) (flown_by i grid names (sea_of whole) whole.to_ocean)
  sea_steps i l = keeps.sea i l

  -- the parts of a coupling step, one after the other, make it
  pub step_is : (now : Whole) → now ≡ with_sea grid (surface_after grid names whole) (flown_by names.ocean_steps grid names (sea_of whole) whole.to_ocean)
      → record now { elapsed = now.elapsed +ℤ names.dt } ≡ step_after grid names whole
  unfolding step_after sea_after
  step_is now e =
      let same = keeps.surface.same.elapsed in
      ap (λ (w : Whole). record w { elapsed = w.elapsed +ℤ names.dt }) e
      ∙ (λ i. record (with_sea grid (surface_after grid names whole) (flown_by names.ocean_steps grid names (sea_of whole) whole.to_ocean)) { elapsed = same i +ℤ names.dt })

-- AIR, LAND AND ICE

-- the skins stand where the state changes
pub with_state : (grid : Grid) (mid : Mid) (now : Whole) → HasSkins grid mid → HasSkins grid (record mid { whole = now })
with_state grid mid now has = record {
  skin_water = has.skin_water;
  skin_heat = has.skin_heat;
  skin_salt = has.skin_salt;
  frazil_water = has.frazil_water;
  frazil_heat = has.frazil_heat;
}

-- a state of lists that a coupling step can take its flights from
pub can_take : (grid : Grid) (mid : Mid) → IsWhole grid mid.whole → HasSkins grid mid → CanTake grid mid
can_take grid mid lawful has = record {
  to_ice = lawful.lengths.to_ice;
  to_ocean = lawful.lengths.to_ocean;
  skin_water = has.skin_water;
  skin_heat = has.skin_heat;
  skin_salt = has.skin_salt;
  frazil_water = has.frazil_water;
  frazil_heat = has.frazil_heat;
}

-- the month, as it comes from words
pub month_is : (names : Names) (whole : Whole) (month : ℕ) → IsStored whole.elapsed → month ≡ (civil_after names.start (unsigned_abs (to_z w64 (of_z w64 whole.elapsed)))).1 → month ≡ month_of names whole
unfolding month_of
month_is names whole month stored e =
    let same : to_z w64 (of_z w64 whole.elapsed) ≡ whole.elapsed = omega (arith, ints, stored.0, stored.1) in
    e ∙ ap (λ (x : ℤ). (civil_after names.start (unsigned_abs x)).1) same

module _ (grid : Grid) (names : Names) (whole : Whole) (can : CanCoupleOn grid names whole) (month : ℕ) (mid : Mid) (in_month : month ≡ month_of names whole) (is_taken : mid ≡ taken grid whole) where
  pub fast_can : (i : ℕ) → i < names.fast → CanStep (before grid names month (fast_by i grid names month mid))
  fast_can i l =
      let own = (keeps grid names whole can).surface.can_fast i l in
      let with_month = subst (λ (m : ℕ). CanStep (before grid names m (fast_by i grid names m (taken grid whole)))) (sym in_month) own in
      subst (λ (m : Mid). CanStep (before grid names month (fast_by i grid names month m))) (sym is_taken) with_month

  sums_same : (i : ℕ) → fast_sums i grid names month mid ≡ fast_sums i grid names (month_of names whole) (taken grid whole)
  sums_same i = λ j. fast_sums i grid names (in_month j) (is_taken j)

  pub fast_range : (i : ℕ) → i ≤ names.fast → IsInRange (fast_sums i grid names month mid)
  fast_range i l = subst IsInRange (sym (sums_same i)) (sums_fit grid names whole can i l)

  pub moved_is : (moved : FastTally) → moved ≡ fast_sums names.fast grid names month mid → moved ≡ all_fast_sums grid names whole
  moved_is moved e = e ∙ sums_same names.fast

  module _ (out : Mid) (went : out ≡ fast_by names.fast grid names month mid) where
    pub out_is : out ≡ after_fast grid names whole
    unfolding after_fast
    out_is = went ∙ (λ j. fast_by names.fast grid names (in_month j) (is_taken j))

    pub slow_can : CanSlowAll grid names.rates out
    slow_can = subst (CanSlowAll grid names.rates) (sym out_is) (keeps grid names whole can).surface.can_slow

    pub runoff_is : (gave : List ℤ) → gave ≡ gain_sums (land_cells grid) (runoff_of grid names.rates out.whole) → gave ≡ gain_sums (land_cells grid) (step_runoff grid names whole)
    runoff_is gave e = e ∙ ap (λ (m : Mid). gain_sums (land_cells grid) (runoff_of grid names.rates m.whole)) out_is

    pub arrival_is : (took : List ℤ) → took ≡ gain_sums (ocean_cells grid) (arrived grid names.rates out.whole) → took ≡ gain_sums (ocean_cells grid) (step_arrived grid names whole)
    arrival_is took e = e ∙ ap (λ (m : Mid). gain_sums (ocean_cells grid) (arrived grid names.rates m.whole)) out_is

    module _ (last : Mid) (slowed : last ≡ record out { whole = slow_after grid names.rates out }) where
      pub last_is : last.whole ≡ surface_after grid names whole
      last_is = ap (λ (m : Mid). m.whole) slowed ∙ ap (slow_after grid names.rates) out_is

      pub last_skins : HasSkins grid last
      last_skins =
          let lawful = (keeps grid names whole can).surface.can_slow.is_mid in
          let own = subst (HasSkins grid) (sym out_is) (skins_of grid (after_fast grid names whole) lawful) in
          subst (HasSkins grid) (sym slowed) (with_state grid out (slow_after grid names.rates out) own)

-- THE OCEAN

module _ (grid : Grid) (names : Names) (whole : Whole) (flight : List ℤ) (n : ℕ) (now : Whole) (so_far : now ≡ with_ocean whole (flown_by n grid names (sea_of whole) flight)) where
  -- one more step
  pub ocean_more : (after : Whole) → after ≡ with_ocean now (stepped grid.ocean (layers grid) names.rates (sea_of now)) → after ≡ with_ocean whole (flown_by (n + 1) grid names (sea_of whole) flight)
  ocean_more after e =
      let next : suc n ≡ n + 1 = omega arith in
      e ∙ ap (λ (w : Whole). with_ocean w (stepped grid.ocean (layers grid) names.rates (sea_of w))) so_far
      ∙ ap (λ (k : ℕ). with_ocean whole (flown_by k grid names (sea_of whole) flight)) next

  -- the cut after the last
  pub ocean_cut : (after : Whole) → after ≡ record (with_ocean now (after_cut grid.ocean (sea_of now))) { to_ice = cut_off grid.ocean (sea_of now) }
      → (last : ℕ) → n ≡ last → after ≡ with_sea grid whole (flown_by last grid names (sea_of whole) flight)
  ocean_cut after e last same =
      e ∙ ap (λ (w : Whole). record (with_ocean w (after_cut grid.ocean (sea_of w))) { to_ice = cut_off grid.ocean (sea_of w) }) so_far
      ∙ ap (λ (k : ℕ). with_sea grid whole (flown_by k grid names (sea_of whole) flight)) same

-- THE WHOLE STEP

-- the seconds after a step, as words have them
word_more : (a b : ℤ) → pos 0 ≤ℤ a → pos 0 ≤ℤ b → (a +ℤ b) <ℤ pos (2 ^ 63) → (FitsSigned w64 (to_z w64 (of_z w64 a) +ℤ to_z w64 (of_z w64 b))) × (to_z w64 (of_z w64 (to_z w64 (of_z w64 a) +ℤ to_z w64 (of_z w64 b))) ≡ a +ℤ b)
word_more a b la lb most =
    let x : to_z w64 (of_z w64 a) ≡ a = omega (arith, ints, la, lb, most) in
    let y : to_z w64 (of_z w64 b) ≡ b = omega (arith, ints, la, lb, most) in
    let sum : to_z w64 (of_z w64 (a +ℤ b)) ≡ a +ℤ b = omega (arith, ints, la, lb, most) in
    (omega (arith, ints, x, y, la, lb, most), ap (λ (z : ℤ). to_z w64 (of_z w64 z)) (λ i. x i +ℤ y i) ∙ sum)

module _ (grid : Grid) (names : Names) (whole : Whole) (can : CanCoupleOn grid names whole) (turned : Whole) (flight : List ℤ)
    (turn : turned ≡ surface_after grid names whole) (flown : flight ≡ whole.to_ocean) where
  turned_sea : sea_of turned ≡ sea_of whole
  turned_sea = ap sea_of turn ∙ same_sea grid names whole can

  pub turned_is : IsSea grid.ocean (layers grid) (sea_of turned)
  turned_is = subst (IsSea grid.ocean (layers grid)) (sym turned_sea) (sea_is grid names whole can)

  pub flight_in_range : All IsAmount flight
  flight_in_range = subst (All IsAmount) (sym flown) (flight_is grid names whole can)

  pub flight_count : length flight ≡ 3 * ocean_cells grid
  flight_count = ap length flown ∙ can.run.is_whole.lengths.to_ocean

  pub ice_count : length turned.to_ice ≡ 5 * ocean_cells grid
  ice_count = ap (λ (w : Whole). length w.to_ice) turn ∙ (keeps grid names whole can).surface.after.lengths.to_ice

  flown_same : (i : ℕ) → flown_by i grid names (sea_of turned) flight ≡ flown_by i grid names (sea_of whole) whole.to_ocean
  flown_same i = λ j. flown_by i grid names (turned_sea j) (flown j)

  pub flown_is : (i : ℕ) → i ≤ names.ocean_steps → IsSea grid.ocean (layers grid) (flown_by i grid names (sea_of turned) flight)
  flown_is i l = subst (IsSea grid.ocean (layers grid)) (sym (flown_same i)) (sea_steps grid names whole can i l)

  module _ (now : Whole) (made : now ≡ with_sea grid turned (flown_by names.ocean_steps grid names (sea_of turned) flight)) where
    now_is : now ≡ with_sea grid (surface_after grid names whole) (flown_by names.ocean_steps grid names (sea_of whole) whole.to_ocean)
    now_is = made ∙ (λ j. with_sea grid (turn j) (flown_same names.ocean_steps j))

    same_second : now.elapsed ≡ whole.elapsed
    same_second = ap (λ (w : Whole). w.elapsed) now_is ∙ (keeps grid names whole can).surface.same.elapsed

    words : (FitsSigned w64 (to_z w64 (of_z w64 now.elapsed) +ℤ to_z w64 (of_z w64 names.dt))) × (to_z w64 (of_z w64 (to_z w64 (of_z w64 now.elapsed) +ℤ to_z w64 (of_z w64 names.dt))) ≡ now.elapsed +ℤ names.dt)
    words =
        let least = can.run.is_whole.stored.elapsed.0 in
        let dt = can.run.are_names.dt in
        let same = same_second in
        let one = times_next 0 names.dt in
        let none = zero-*ℤ names.dt in
        let time = can.run.time in
        word_more now.elapsed names.dt (omega (arith, ints, least, same)) (omega (arith, ints, dt.0)) (omega (arith, ints, same, one, none, time))

    pub seconds_fit : FitsSigned w64 (to_z w64 (of_z w64 now.elapsed) +ℤ to_z w64 (of_z w64 names.dt))
    seconds_fit = words.0

    pub whole_step : record now { elapsed = to_z w64 (of_z w64 (to_z w64 (of_z w64 now.elapsed) +ℤ to_z w64 (of_z w64 names.dt))) } ≡ step_after grid names whole
    whole_step = (λ j. record now { elapsed = words.1 j }) ∙ step_is grid names whole can now now_is
