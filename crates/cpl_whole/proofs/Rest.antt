-- The rest of a run is a run.
use Rattle.std.proofs.Common.{◌≡◌, ◌∙◌, refl, sym, ap, subst, Bool, false, cond, ℕ, zero, suc, ◌+◌, ◌-◌, ◌≤◌, arith, Option, Some, None}
use Rattle.std.specs.Prelude.{ℤ, pos, ◌+ℤ◌, ◌*ℤ◌, ◌≤ℤ◌, int_lt, unsigned_abs}
use Rattle.std.specs.Option.{option_map}
use Rattle.std.proofs.lemmas.Int.{ints}
use Rattle.std.proofs.Math.IntN.{zero-*ℤ}
use Rattle.cpl_fixed.specs.declared.limits.TheConstants.{MOST_TOTAL}
use Rattle.cpl_fixed.specs.declared.words.Quantity.{Quantity}
use Rattle.cpl_fixed.specs.declared.words.Quantity.TheVariants.{Heat, Water, Salt}
use Rattle.cpl_namelist.specs.declared.names.Names.{Names}
use Rattle.cpl_namelist.specs.Civil.{Fits}
use Rattle.cpl_xgrid.specs.declared.grid.Grid.{Grid}
use Rattle.cpl_state.specs.declared.whole.Whole.{Whole}
use Rattle.cpl_state.specs.declared.whole.Mid.{Mid}
use Rattle.cpl_state.specs.Budget.{budget_of, if_above}
use Rattle.cpl_state.specs.FastStep.{fast_after}
use Rattle.cpl_state.specs.Slow.{slow_after}
use Rattle.cpl_state.specs.CouplingStep.{after_fast, before, fast_by, month_of, sea_after, state_after, step_after, taken, with_sea}
use Rattle.cpl_laws.proofs.FastRun.{times_next}
use Rattle.cpl_course.specs.Course.{IsGround}
use Rattle.cpl_course.proofs.Course.{goes_on, on_course}
use Rattle.cpl_plan.specs.declared.error.PlanError.{PlanError}
use Rattle.cpl_plan.specs.Faults.{last_second, or_else, over_budget, plan_fault}
use Rattle.cpl_plan.specs.Plans.{IsPlan, PlanParts}
use Rattle.cpl_plan.proofs.Dates.{date_fits}
use Rattle.cpl_whole.specs.Journeys.{CanTravel, rest_of, with_steps}

-- HOW MANY STEPS A RUN HAS MAKES NO STATE ANOTHER

module _ (steps : ℕ) (grid : Grid) (names : Names) where
  fast_same : (n month : ℕ) (mid : Mid) → fast_by n grid (with_steps steps names) month mid ≡ fast_by n grid names month mid
  fast_same zero month mid = refl
  fast_same (suc n) month mid = ap (λ (m : Mid). fast_after (before grid names month m)) (fast_same n month mid)

  after_fast_same : (whole : Whole) → after_fast grid (with_steps steps names) whole ≡ after_fast grid names whole
  unfolding after_fast month_of
  after_fast_same whole = fast_same names.fast (month_of names whole) (taken grid whole)

  step_same : (whole : Whole) → step_after grid (with_steps steps names) whole ≡ step_after grid names whole
  unfolding step_after sea_after
  step_same whole = ap (λ (m : Mid). record (with_sea grid (slow_after grid names.rates m) (sea_after grid names whole)) { elapsed = whole.elapsed +ℤ names.dt }) (after_fast_same whole)

  pub state_same : (n : ℕ) (whole : Whole) → state_after n grid (with_steps steps names) whole ≡ state_after n grid names whole
  state_same zero whole = refl
  state_same (suc n) whole = ap (step_after grid (with_steps steps names)) (state_same n whole) ∙ step_same (state_after n grid names whole)

-- NO FAULTS

or_none : (a b : Option PlanError) → a ≡ None → b ≡ None → or_else a b ≡ None
or_none a b e f = ap (λ (x : Option PlanError). or_else x b) e ∙ f

not_below : (x y : ℤ) → y ≤ℤ x → int_lt x y ≡ false
not_below x y h = grind (arith, ints)

none_above : (total : ℤ) (quantity : Quantity) (later : Option (Quantity × ℤ)) → total ≤ℤ pos MOST_TOTAL → if_above total quantity later ≡ later
none_above total quantity later h = ap (λ (b : Bool). cond b (Some (quantity, total)) later) (not_below (pos MOST_TOTAL) total h)

-- a lawful plan has no fault
pub no_fault : (plan : PlanParts) → IsPlan plan → plan_fault plan.grid plan.names plan.start ≡ None
no_fault plan is =
    let atmos = ap (option_map _) is.atmos in
    let land = ap (option_map _) is.land in
    let ice = ap (option_map _) is.ice in
    let ocean = ap (option_map _) is.ocean in
    let heat = none_above (budget_of plan.names.steps plan.grid plan.names plan.start Heat) Heat _ is.budget.heat in
    let water = none_above (budget_of plan.names.steps plan.grid plan.names plan.start Water) Water _ is.budget.water in
    let salt = none_above (budget_of plan.names.steps plan.grid plan.names plan.start Salt) Salt None is.budget.salt in
    or_none _ _
    (or_none _ _ atmos (or_none _ _ land (or_none _ _ ice ocean)))
    (or_none _ _ (date_fits plan.names plan.start is.time is.date) (ap (option_map over_budget) (heat ∙ water ∙ salt)))

-- so many times and so many times more
times_sum : (a b : ℕ) (x : ℤ) → pos (a + b) *ℤ x ≡ (pos a *ℤ x) +ℤ (pos b *ℤ x)
times_sum zero b x =
    let none = zero-*ℤ x in
    let same = ap (λ (n : ℕ). pos n *ℤ x) (let e : 0 + b ≡ b = omega arith in e) in
    omega (arith, ints, none, same)
times_sum (suc a) b x =
    let rest = times_sum a b x in
    let same = ap (λ (n : ℕ). pos n *ℤ x) (let e : suc a + b ≡ suc (a + b) = omega arith in e) in
    let next = times_next (a + b) x in
    let own = times_next a x in
    omega (arith, ints, rest, same, next, own)

-- THE REST OF A RUN

module _ (plan : PlanParts) (is : IsPlan plan) (ground : IsGround plan.grid) (can : CanTravel plan.grid plan.names plan.start) (done : ℕ) (within : done ≤ plan.names.steps) where
  abbrev now : Whole
  now = state_after done plan.grid plan.names plan.start

  -- the end of the rest is that of the run
  same_end : last_second (rest_of done plan.names) now ≡ last_second plan.names plan.start
  same_end =
      let seconds = (on_course plan.names.steps plan.grid plan.names plan.start ground can.run done within).elapsed in
      let sum = times_sum done (plan.names.steps - done) plan.names.dt in
      let e : done + (plan.names.steps - done) ≡ plan.names.steps = omega arith in
      let same = ap (λ (n : ℕ). pos n *ℤ plan.names.dt) e in
      omega (arith, ints, seconds, sum, same)

  pub rest_is : IsPlan (record { grid = plan.grid; names = rest_of done plan.names; start = now })
  unfolding budget_of
  rest_is =
      let course = on_course plan.names.steps plan.grid plan.names plan.start ground can.run done within in
      let names = is.names_are in
      record {
        grid_is = is.grid_is;
        air_is = is.air_is;
        names_are = record { start = names.start; fast = names.fast; ocean_steps = names.ocean_steps; steps = (let most = names.steps in omega (arith, most)); dt = names.dt; layouts = names.layouts; rates = names.rates };
        start_is = course.can.is_whole;
        atmos = is.atmos;
        land = is.land;
        ice = is.ice;
        ocean = is.ocean;
        layouts = is.layouts;
        time = course.can.time;
        date = subst (λ (x : ℤ). Fits plan.names.start (unsigned_abs x)) (sym same_end) is.date;
        budget = record { heat = course.can.budget.heat; water = course.can.budget.water; salt = course.can.budget.salt };
      }

  -- it comes to the same state
  pub rest_last : state_after (plan.names.steps - done) plan.grid (rest_of done plan.names) now ≡ state_after plan.names.steps plan.grid plan.names plan.start
  rest_last =
      let e : plan.names.steps - done + done ≡ plan.names.steps = omega arith in
      state_same (plan.names.steps - done) plan.grid plan.names (plan.names.steps - done) now
      ∙ sym (goes_on done (plan.names.steps - done) plan.grid plan.names plan.start)
      ∙ ap (λ (n : ℕ). state_after n plan.grid plan.names plan.start) e
