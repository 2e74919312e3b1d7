-- The states of a run: each can go on, is lawful and has a date.
use Rattle.std.proofs.Common.{◌≡◌, ◌∙◌, refl, sym, ap, subst, ℕ, zero, suc, ◌-◌, ◌*◌, ◌<◌, ◌≤◌, arith}
use Rattle.std.specs.Prelude.{ℤ, pos, negsuc, ◌*ℤ◌, ◌≤ℤ◌, unsigned_abs}
use Rattle.std.proofs.lemmas.Int.{ints}
use Rattle.std.proofs.Math.IntN.{pos-*ℤ-pos, zero-*ℤ}
use Rattle.cpl_fixed.specs.Amounts.{IsAmount}
use Rattle.cpl_fixed.specs.declared.limits.TheConstants.{MOST_TOTAL}
use Rattle.cpl_fixed.specs.declared.words.Quantity.{Quantity}
use Rattle.cpl_fixed.specs.declared.words.Quantity.TheVariants.{Heat, Water, Salt}
use Rattle.cpl_namelist.specs.declared.names.Names.{Names}
use Rattle.cpl_namelist.specs.Civil.{Fits}
use Rattle.cpl_xgrid.specs.declared.grid.Grid.{Grid}
use Rattle.cpl_state.specs.declared.whole.Whole.{Whole}
use Rattle.cpl_state.specs.States.{IsWhole}
use Rattle.cpl_state.specs.Stocks.{held}
use Rattle.cpl_state.specs.Budget.{IsWithinBudget, budget_of, greatest, most_sun, sun_of_strength}
use Rattle.cpl_state.specs.CouplingStep.{state_after, step_after, step_entered, step_left}
use Rattle.cpl_laws.proofs.FastRun.{times_more, times_next}
use Rattle.cpl_course.specs.Course.{CanRun, IsGround, IsOnCourse, KeepsCoupling, over_steps}
use Rattle.cpl_course.proofs.Budgets.{most_sun_least, step_sun_most}
use Rattle.cpl_course.proofs.Course.{coupling_of, on_course}
use Rattle.cpl_plan.specs.Faults.{last_second}
use Rattle.cpl_plan.specs.Plans.{PlanParts, IsPlan}
use Rattle.cpl_whole.specs.Rooms.{CanCoupleOn}
use Rattle.cpl_whole.proofs.Dates.{abs_more, fits_before}
use Rattle.cpl_whole.proofs.Ranges.{heat_natural}
use Rattle.cpl_whole.specs.Journeys.{CanTravel}

-- a plan can be run
pub can_travel : (plan : PlanParts) → IsPlan plan → IsGround plan.grid → CanTravel plan.grid plan.names plan.start
can_travel plan is ground = record {
  ground = ground;
  run = record { are_names = is.names_are; is_whole = is.start_is; budget = is.budget; time = is.time };
  date = is.date;
}

-- so many times so many
times_times : (n m : ℕ) (x : ℤ) → pos 0 ≤ℤ x → pos n *ℤ (pos m *ℤ x) ≡ pos (n * m) *ℤ x
times_times n m (pos x) least =
    let inner = pos-*ℤ-pos m x in
    let outer = pos-*ℤ-pos n (m * x) in
    let whole = pos-*ℤ-pos (n * m) x in
    let e : n * (m * x) ≡ n * m * x = omega arith in
    ap (λ (z : ℤ). pos n *ℤ z) inner ∙ outer ∙ ap pos e ∙ sym whole
times_times n m (negsuc x) least = absurd (omega (arith, ints, least))

-- fewer steps can be made too
module _ (few many : ℕ) (grid : Grid) (names : Names) (whole : Whole) (less : few ≤ many) (can : CanRun many grid names whole) where
  abbrev pub sun : ℤ
  sun = most_sun names whole

  pub fewer_sun : (pos (few * names.fast) *ℤ sun) ≤ℤ (pos (many * names.fast) *ℤ sun)
  fewer_sun =
      let l : few * names.fast ≤ many * names.fast = grind arith in
      times_more (few * names.fast) (many * names.fast) sun (most_sun_least names whole can.are_names can.is_whole.stored.air_sun) l

  fewer_budget : IsWithinBudget few grid names whole
  unfolding budget_of
  fewer_budget = record {
    heat = (let own = can.budget.heat in let sun = fewer_sun in omega (arith, ints, own, sun));
    water = can.budget.water;
    salt = can.budget.salt;
  }

  pub can_fewer : CanRun few grid names whole
  can_fewer = record {
    are_names = can.are_names;
    is_whole = can.is_whole;
    budget = fewer_budget;
    time = (let own = can.time in let dt = can.are_names.dt in let more = times_more few many names.dt (omega (arith, ints, dt.0)) less in omega (arith, ints, own, more));
  }

module _ (grid : Grid) (names : Names) (start : Whole) (can : CanTravel grid names start) where
  abbrev N : ℕ
  N = names.steps

  abbrev state : ℕ → Whole
  state n = state_after n grid names start

  pub course : (n : ℕ) → n ≤ N → IsOnCourse N grid names start n
  course = on_course N grid names start can.ground can.run

  pub lawful : (n : ℕ) → n ≤ N → IsWhole grid (state n)
  lawful n l = (course n l).can.is_whole

  pub totals : (n : ℕ) → n ≤ N → (quantity : Quantity) → held grid (state n) quantity ≤ℤ pos MOST_TOTAL
  unfolding budget_of
  totals n l Heat =
      let was = (course n l).can in
      let sun = times_more 0 ((N - n) * names.fast) (most_sun names (state n)) (most_sun_least names (state n) was.are_names was.is_whole.stored.air_sun) (omega arith) in
      let none = zero-*ℤ (most_sun names (state n)) in
      let own = was.budget.heat in
      omega (arith, ints, sun, none, own)
  totals n l Water = (course n l).can.budget.water
  totals n l Salt = (course n l).can.budget.salt

  pub forward : (n : ℕ) → n ≤ N → pos 0 ≤ℤ (state n).elapsed
  forward n l = (lawful n l).stored.elapsed.0

  -- no state is later than the end
  no_later : (n : ℕ) → n ≤ N → (state n).elapsed ≤ℤ last_second names start
  no_later n l =
      let seconds = (course n l).elapsed in
      let dt = can.run.are_names.dt in
      let more = times_more n N names.dt (omega (arith, ints, dt.0)) l in
      omega (arith, ints, seconds, more)

  pub dated : (n : ℕ) → n ≤ N → Fits names.start (unsigned_abs (state n).elapsed)
  dated n l = fits_before names.start (unsigned_abs (state n).elapsed) (unsigned_abs (last_second names start)) (abs_more _ _ (forward n l) (no_later n l)) can.date

  pub couples : (n : ℕ) → n < N → CanCoupleOn grid names (state n)
  couples n l = record {
    ground = can.ground;
    run = can_fewer 1 (N - n) grid names (state n) (omega arith) (course n (omega arith)).can;
    date = dated n (omega arith);
  }

  pub keeps : (n : ℕ) → n < N → KeepsCoupling grid names (state n)
  keeps n l = coupling_of (N - n) grid names (state n) can.ground (omega arith) (course n (omega arith)).can

  -- WHAT ENTERED AND LEFT

  same_sun : (n : ℕ) → n ≤ N → (state n).air_sun ≡ start.air_sun
  unfolding step_after
  same_sun zero l = refl
  same_sun (suc n) l = (keeps n l).surface.same.sun ∙ same_sun n (omega arith)

  abbrev most : ℤ
  most = pos names.fast *ℤ most_sun names start

  entered_one : (n : ℕ) → n < N → (pos 0 ≤ℤ step_entered grid names (state n)) × (step_entered grid names (state n) ≤ℤ most)
  entered_one n l =
      let kept = (keeps n l).surface in
      let step = step_sun_most names (state n) can.run.are_names (lawful n (omega arith)).stored.air_sun in
      let same = ap (λ (x : ℤ). pos names.fast *ℤ x) (ap (sun_of_strength (greatest names.rates.month)) (same_sun n (omega arith))) in
      (kept.sun_entered, omega (arith, ints, kept.within, step, same))

  entered_some : (n : ℕ) → n ≤ N → (pos 0 ≤ℤ over_steps step_entered n grid names start) × (over_steps step_entered n grid names start ≤ℤ (pos n *ℤ most))
  entered_some zero l = let none = zero-*ℤ most in (omega (arith, ints), omega (arith, ints, none))
  entered_some (suc n) l =
      let was = entered_some n (omega arith) in
      let one = entered_one n l in
      let next = times_next n most in
      (omega (arith, ints, was.0, one.0), omega (arith, ints, was.1, one.1, next))

  -- the sun of so many coupling steps
  sun_times : (n : ℕ) → pos n *ℤ most ≡ pos (n * names.fast) *ℤ most_sun names start
  sun_times n = times_times n names.fast (most_sun names start) (most_sun_least names start can.run.are_names can.run.is_whole.stored.air_sun)

  pub entered_amount : (n : ℕ) → n ≤ N → IsAmount (over_steps step_entered n grid names start)
  unfolding budget_of
  entered_amount n l =
      let some = entered_some n l in
      let all = sun_times n in
      let fewer = fewer_sun n N grid names start l can.run in
      let own = can.run.budget.heat in
      let least = heat_natural grid start can.run.is_whole in
      (some.0, omega (arith, ints, some.1, all, fewer, own, least))

  left_least : (n : ℕ) → n ≤ N → pos 0 ≤ℤ over_steps step_left n grid names start
  left_least zero l = omega (arith, ints)
  left_least (suc n) l =
      let was = left_least n (omega arith) in
      let one = (keeps n l).surface.heat_left in
      omega (arith, ints, was, one)

  pub left_amount : (n : ℕ) → n ≤ N → IsAmount (over_steps step_left n grid names start)
  unfolding budget_of
  left_amount n l =
      let total = (course n l).heat in
      let after = heat_natural grid (state n) (lawful n l) in
      let some = entered_some n l in
      let all = sun_times n in
      let fewer = fewer_sun n N grid names start l can.run in
      let own = can.run.budget.heat in
      (left_least n l, omega (arith, ints, total, after, some.1, all, fewer, own))

-- the same parts of a plan, lent out
pub lent_couples : (grid lent_grid : Grid) (names lent_names : Names) (whole lent_whole : Whole) → lent_grid ≡ grid → lent_names ≡ names → lent_whole ≡ whole → CanCoupleOn grid names whole → CanCoupleOn lent_grid lent_names lent_whole
lent_couples grid lent_grid names lent_names whole lent_whole e f g can =
    let a = subst (λ (x : Grid). CanCoupleOn x names whole) (sym e) can in
    let b = subst (λ (x : Names). CanCoupleOn lent_grid x whole) (sym f) a in
    subst (CanCoupleOn lent_grid lent_names) (sym g) b

pub lent_travels : (grid lent_grid : Grid) (names lent_names : Names) (start lent_start : Whole) → lent_grid ≡ grid → lent_names ≡ names → lent_start ≡ start → CanTravel grid names start → CanTravel lent_grid lent_names lent_start
lent_travels grid lent_grid names lent_names start lent_start e f g can =
    let a = subst (λ (x : Grid). CanTravel x names start) (sym e) can in
    let b = subst (λ (x : Names). CanTravel lent_grid x start) (sym f) a in
    subst (CanTravel lent_grid lent_names) (sym g) b
