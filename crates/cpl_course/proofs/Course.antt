-- The course of a run, coupling step by coupling step.
use Rattle.std.proofs.Common.{◌≡◌, ◌∙◌, refl, ap, subst, ℕ, zero, suc, ◌+◌, ◌-◌, ◌*◌, ◌<◌, ◌≤◌, ◌^◌, arith}
use Rattle.std.specs.Prelude.{ℤ, pos, negsuc, ◌+ℤ◌, ◌*ℤ◌, ◌≤ℤ◌, ◌<ℤ◌}
use Rattle.std.proofs.lemmas.Int.{ints}
use Rattle.std.proofs.Math.IntN.{pos-*ℤ-pos, zero-*ℤ}
use Rattle.cpl_fixed.specs.declared.limits.TheConstants.{MOST_TOTAL}
use Rattle.cpl_fixed.specs.declared.words.Quantity.{Quantity}
use Rattle.cpl_fixed.specs.declared.words.Quantity.TheVariants.{Heat, Water, Salt}
use Rattle.cpl_namelist.specs.declared.names.Names.{Names}
use Rattle.cpl_xgrid.specs.declared.grid.Grid.{Grid}
use Rattle.cpl_state.specs.declared.whole.Whole.{Whole}
use Rattle.cpl_state.specs.Stocks.{held}
use Rattle.cpl_state.specs.Budget.{greatest, most_sun, sun_of_strength, budget_of, IsWithinBudget}
use Rattle.cpl_state.specs.SurfaceLaws.{sun_of_step}
use Rattle.cpl_state.specs.CouplingStep.{step_after, state_after}
use Rattle.cpl_laws.proofs.FastRun.{times_next, times_more}
use Rattle.cpl_course.specs.Course.{IsGround, CanRun, KeepsCoupling, IsOnCourse}
use Rattle.cpl_course.proofs.Budgets.{most_sun_least, step_sun_most}
use Rattle.cpl_course.proofs.Coupling.{keeps_coupling}

-- as often as both together
times_both : (a b : ℕ) (x : ℤ) → pos 0 ≤ℤ x → pos (a + b) *ℤ x ≡ (pos a *ℤ x) +ℤ (pos b *ℤ x)
times_both a b (pos x) least =
    let l = pos-*ℤ-pos (a + b) x in
    let m = pos-*ℤ-pos a x in
    let r = pos-*ℤ-pos b x in
    let e : (a + b) * x ≡ a * x + b * x = omega arith in
    omega (arith, ints, l, m, r, e)
times_both a b (negsuc x) least = absurd (omega (arith, ints, least))

-- ONE STEP OF A RUN

module _ (left : ℕ) (grid : Grid) (names : Names) (whole : Whole) (ground : IsGround grid) (can : CanRun (suc left) grid names whole) where
  abbrev sun : ℤ
  sun = most_sun names whole

  sun_natural : pos 0 ≤ℤ most_sun names whole
  sun_natural = most_sun_least names whole can.are_names can.is_whole.stored.air_sun

  -- the sun to come is that of this step and that of the rest
  to_come : pos (suc left * names.fast) *ℤ most_sun names whole ≡ (pos names.fast *ℤ most_sun names whole) +ℤ (pos (left * names.fast) *ℤ most_sun names whole)
  to_come =
      let e : suc left * names.fast ≡ names.fast + left * names.fast = omega arith in
      ap (λ (n : ℕ). pos n *ℤ most_sun names whole) e ∙ times_both names.fast (left * names.fast) (most_sun names whole) sun_natural

  rest_natural : pos 0 ≤ℤ (pos (left * names.fast) *ℤ most_sun names whole)
  rest_natural =
      let least = times_more 0 (left * names.fast) (most_sun names whole) sun_natural (omega arith) in
      let zero_times = zero-*ℤ (most_sun names whole) in
      omega (arith, ints, least, zero_times)

  fast_natural : pos 0 ≤ℤ (pos names.fast *ℤ most_sun names whole)
  fast_natural =
      let least = times_more 0 names.fast (most_sun names whole) sun_natural (omega arith) in
      let zero_times = zero-*ℤ (most_sun names whole) in
      omega (arith, ints, least, zero_times)

  heat_budget : (held grid whole Heat +ℤ (pos (suc left * names.fast) *ℤ most_sun names whole)) ≤ℤ pos MOST_TOTAL
  unfolding budget_of
  heat_budget = can.budget.heat

  pub room : (q : Quantity) → held grid whole q ≤ℤ pos MOST_TOTAL
  unfolding budget_of
  room Heat = let a = heat_budget in let b = to_come in let c = rest_natural in let d = fast_natural in omega (arith, ints, a, b, c, d)
  room Water = can.budget.water
  room Salt = can.budget.salt

  -- the budget has the sun of this step
  sun_less : (held grid whole Heat +ℤ sun_of_step names whole) ≤ℤ (held grid whole Heat +ℤ (pos (suc left * names.fast) *ℤ most_sun names whole))
  sun_less =
      let b = to_come in
      let c = rest_natural in
      let d = step_sun_most names whole can.are_names can.is_whole.stored.air_sun in
      omega (arith, ints, b, c, d)

  pub step_less : (held grid whole Heat +ℤ sun_of_step names whole) ≤ℤ budget_of (suc left) grid names whole Heat
  unfolding budget_of
  step_less = sun_less

  pub with_sun : (held grid whole Heat +ℤ sun_of_step names whole) ≤ℤ pos MOST_TOTAL
  with_sun = let a = heat_budget in let b = sun_less in omega (arith, ints, a, b)

  dt_natural : pos 0 ≤ℤ names.dt
  dt_natural = let dt = can.are_names.dt in omega (arith, ints, dt.0)

  time : (whole.elapsed +ℤ names.dt) <ℤ pos (2 ^ 63)
  time =
      let next = times_next left names.dt in
      let least = times_more 0 left names.dt dt_natural (omega arith) in
      let zero_times = zero-*ℤ names.dt in
      let end = can.time in
      omega (arith, ints, next, least, zero_times, end)

  pub coupling : KeepsCoupling grid names whole
  coupling = keeps_coupling grid names whole ground can.are_names can.is_whole room with_sun time

  -- the seconds and the sun of the next state
  next_elapsed : (step_after grid names whole).elapsed ≡ whole.elapsed +ℤ names.dt
  unfolding step_after
  next_elapsed = refl

  next_sun : most_sun names (step_after grid names whole) ≡ most_sun names whole
  unfolding step_after
  next_sun = ap (sun_of_strength (greatest names.rates.month)) coupling.surface.same.sun

  -- what may be held is never more
  next_heat : (held grid (step_after grid names whole) Heat +ℤ (pos (left * names.fast) *ℤ most_sun names (step_after grid names whole)))
      ≤ℤ (held grid whole Heat +ℤ (pos (suc left * names.fast) *ℤ most_sun names whole))
  next_heat =
      let kept = coupling in
      let same = ap (λ (x : ℤ). pos (left * names.fast) *ℤ x) next_sun in
      let b = to_come in
      let d = step_sun_most names whole can.are_names can.is_whole.stored.air_sun in
      omega (arith, ints, kept.heat, kept.surface.within, kept.surface.heat_left, same, b, d)

  pub budget_less : (q : Quantity) → budget_of left grid names (step_after grid names whole) q ≤ℤ budget_of (suc left) grid names whole q
  unfolding budget_of
  budget_less Heat = next_heat
  budget_less Water = let kept = coupling in omega (arith, ints, kept.water)
  budget_less Salt = let kept = coupling in omega (arith, ints, kept.salt)

  next_budget : IsWithinBudget left grid names (step_after grid names whole)
  unfolding budget_of
  next_budget = (let kept = coupling in record {
    heat = (let own = heat_budget in let less = next_heat in omega (arith, ints, own, less));
    water = (let own = can.budget.water in omega (arith, ints, kept.water, own));
    salt = (let own = can.budget.salt in omega (arith, ints, kept.salt, own));
  })

  pub next_can : CanRun left grid names (step_after grid names whole)
  next_can = record {
    are_names = can.are_names;
    is_whole = coupling.after;
    budget = next_budget;
    time = (let e = next_elapsed in let next = times_next left names.dt in let end = can.time in omega (arith, ints, e, next, end));
  }

-- ALL STATES OF A RUN

module _ (steps : ℕ) (grid : Grid) (names : Names) (start : Whole) (ground : IsGround grid) (can : CanRun steps grid names start) where
  abbrev state : ℕ → Whole
  state n = state_after n grid names start

  -- the rest of a run has one step more before its next state
  pub can_more : (n : ℕ) → n < steps → IsOnCourse steps grid names start n → CanRun (suc (steps - suc n)) grid names (state n)
  can_more n l was = subst (λ (k : ℕ). CanRun k grid names (state n)) (let e : steps - n ≡ suc (steps - suc n) = omega arith in e) was.can

  next_within : (n : ℕ) → n < steps → IsOnCourse steps grid names start n → (q : Quantity)
      → budget_of (steps - suc n) grid names (state_after (suc n) grid names start) q ≤ℤ budget_of steps grid names start q
  next_within n l was q =
      let less = budget_less (steps - suc n) grid names (state n) ground (can_more n l was) q in
      let same = ap (λ (k : ℕ). budget_of k grid names (state n) q) (let e : suc (steps - suc n) ≡ steps - n = omega arith in e) in
      let own = was.within q in
      omega (arith, ints, less, same, own)

  next_state : (n : ℕ) → n < steps → IsOnCourse steps grid names start n → IsOnCourse steps grid names start (suc n)
  next_state n l was =
      let more = can_more n l was in
      let kept = coupling (steps - suc n) grid names (state n) ground more in
      let seconds = next_elapsed (steps - suc n) grid names (state n) ground more in
      let times = times_next n names.dt in
      record {
        can = next_can (steps - suc n) grid names (state n) ground more;
        elapsed = omega (arith, ints, seconds, was.elapsed, times);
        heat = omega (arith, ints, kept.heat, was.heat);
        water = kept.water ∙ was.water;
        salt = kept.salt ∙ was.salt;
        within = next_within n l was;
      }

  pub on_course : (n : ℕ) → n ≤ steps → IsOnCourse steps grid names start n
  on_course zero l =
      let zero_times = zero-*ℤ names.dt in
      record {
        can = subst (λ (k : ℕ). CanRun k grid names start) (let e : steps ≡ steps - 0 = omega arith in e) can;
        elapsed = omega (arith, ints, zero_times);
        heat = omega (arith, ints);
        water = refl;
        salt = refl;
        within = λ q. (let same = ap (λ (k : ℕ). budget_of k grid names start q) (let e : steps - 0 ≡ steps = omega arith in e) in omega (arith, ints, same));
      }
  on_course (suc n) l = next_state n l (on_course n (omega arith))

-- a run that goes on from one of its states
pub goes_on : (a b : ℕ) (grid : Grid) (names : Names) (start : Whole) → state_after (b + a) grid names start ≡ state_after b grid names (state_after a grid names start)
goes_on a zero grid names start = ap (λ (n : ℕ). state_after n grid names start) (let e : 0 + a ≡ a = omega arith in e)
goes_on a (suc b) grid names start =
    ap (λ (n : ℕ). state_after n grid names start) (let e : suc b + a ≡ suc (b + a) = omega arith in e)
    ∙ ap (step_after grid names) (goes_on a b grid names start)

-- a coupling step of a run that has one
pub coupling_of : (steps : ℕ) (grid : Grid) (names : Names) (whole : Whole) → IsGround grid → 1 ≤ steps → CanRun steps grid names whole → KeepsCoupling grid names whole
coupling_of zero grid names whole ground some can = absurd (omega arith)
coupling_of (suc left) grid names whole ground some can = coupling left grid names whole ground can
