-- No amount of a run is above what the run may hold in all.
use Rattle.std.proofs.Common.{◌≡◌, ◌∙◌, ap, ℕ, suc, ◌-◌, ◌*◌, ◌<◌, ◌≤◌, arith}
use Rattle.std.specs.Prelude.{ℤ, pos, ◌+ℤ◌, ◌≤ℤ◌}
use Rattle.std.proofs.lemmas.Int.{ints}
use Rattle.std.proofs.Math.IntN.{zero-*ℤ}
use Rattle.cpl_fixed.specs.declared.limits.TheConstants.{MOST_TOTAL}
use Rattle.cpl_fixed.specs.declared.words.Quantity.{Quantity}
use Rattle.cpl_fixed.specs.declared.words.Quantity.TheVariants.{Heat, Water, Salt}
use Rattle.cpl_namelist.specs.declared.names.Names.{Names}
use Rattle.cpl_xgrid.specs.declared.grid.Grid.{Grid}
use Rattle.cpl_state.specs.declared.whole.Whole.{Whole}
use Rattle.cpl_state.specs.Stocks.{held, held_within}
use Rattle.cpl_state.specs.Bounds.{IsSeaUpTo, IsWholeUpTo}
use Rattle.cpl_state.specs.Budget.{budget_of, most_sun}
use Rattle.cpl_state.specs.SurfaceLaws.{fast_state}
use Rattle.cpl_state.specs.CouplingStep.{sea_of, state_after, surface_after}
use Rattle.cpl_laws.proofs.FastRun.{times_more}
use Rattle.cpl_laws.proofs.Held.{flights_to_ocean}
use Rattle.cpl_laws.proofs.UpTo.{list_up_to, mid_up_to, whole_up_to}
use Rattle.cpl_course.specs.Course.{CanRun, IsGround, IsWayUpTo, KeepsCoupling, sea_at}
use Rattle.cpl_course.proofs.Budgets.{most_sun_least}
use Rattle.cpl_course.proofs.Seas.{amounts_stored}
use Rattle.cpl_course.proofs.Oceans.{total_in, sea_held, sea_total, flown_total}
use Rattle.cpl_course.proofs.Course.{can_more, coupling, on_course, room, step_less}

-- a state holds no more than it may come to hold
pub held_less : (left : ℕ) (grid : Grid) (names : Names) (whole : Whole) → CanRun left grid names whole → (q : Quantity) → held grid whole q ≤ℤ budget_of left grid names whole q
unfolding budget_of
held_less left grid names whole can Heat =
    let least = times_more 0 (left * names.fast) (most_sun names whole) (most_sun_least names whole can.are_names can.is_whole.stored.air_sun) (omega arith) in
    let none = zero-*ℤ (most_sun names whole) in
    omega (arith, ints, least, none)
held_less left grid names whole can Water = omega (arith, ints)
held_less left grid names whole can Salt = omega (arith, ints)

-- ON THE WAY TO THE NEXT STATE

module _ (left : ℕ) (grid : Grid) (names : Names) (whole : Whole) (ground : IsGround grid) (can : CanRun (suc left) grid names whole)
    (total : Quantity → ℤ) (most : (q : Quantity) → budget_of (suc left) grid names whole q ≤ℤ total q) where
  keeps : KeepsCoupling grid names whole
  keeps = coupling left grid names whole ground can

  whole_room : (q : Quantity) → held grid whole q ≤ℤ total q
  whole_room q = let a = held_less (suc left) grid names whole can q in let b = most q in omega (arith, ints, a, b)

  fast_room : (i : ℕ) → i ≤ names.fast → (q : Quantity) → held_within grid (fast_state grid names whole i) q ≤ℤ total q
  fast_room i l Heat =
      let here = keeps.surface.amid i l in
      let sun = step_less left grid names whole ground can in
      let all = most Heat in
      omega (arith, ints, here.heat, sun, all)
  fast_room i l Water = let here = keeps.surface.amid i l in let all = whole_room Water in omega (arith, ints, here.water, all)
  fast_room i l Salt = let here = keeps.surface.amid i l in let all = whole_room Salt in omega (arith, ints, here.salt, all)

  slow_room : (q : Quantity) → held grid (surface_after grid names whole) q ≤ℤ total q
  slow_room Heat =
      let own = keeps.surface in
      let flying = flights_to_ocean grid whole can.is_whole.stored Heat in
      let sun = step_less left grid names whole ground can in
      let all = most Heat in
      omega (arith, ints, own.heat, own.within, own.heat_left, flying, sun, all)
  slow_room Water =
      let own = keeps.surface in
      let flying = flights_to_ocean grid whole can.is_whole.stored Water in
      let all = whole_room Water in
      omega (arith, ints, own.water, flying, all)
  slow_room Salt =
      let own = keeps.surface in
      let flying = flights_to_ocean grid whole can.is_whole.stored Salt in
      let all = whole_room Salt in
      omega (arith, ints, own.salt, flying, all)

  in_range : (q : Quantity) → held grid whole q ≤ℤ pos MOST_TOTAL
  in_range q = room left grid names whole ground can q

  sea_room : (i : ℕ) (q : Quantity) → total_in q (sea_at grid names whole i) ≤ℤ total q
  sea_room i q =
      let same = sea_total grid names whole ground can.are_names can.is_whole in_range i q ∙ flown_total grid names whole ground can.are_names can.is_whole in_range q in
      let within = sea_held grid names whole ground can.are_names can.is_whole in_range q in
      let all = whole_room q in
      omega (arith, ints, same, within, all)

  sea_up_to : (i : ℕ) → i ≤ names.ocean_steps → IsSeaUpTo total (sea_at grid names whole i)
  sea_up_to i l =
      let is = keeps.sea i l in
      let sea = sea_at grid names whole i in
      record {
        water = list_up_to (total Water) sea.water (amounts_stored grid ground.ocean sea.water is.water) (sea_room i Water);
        heat = list_up_to (total Heat) sea.heat (amounts_stored grid ground.ocean sea.heat is.heat) (sea_room i Heat);
        salt = list_up_to (total Salt) sea.salt (amounts_stored grid ground.ocean sea.salt is.salt) (sea_room i Salt);
      }

  way_up_to : IsWayUpTo total grid names whole
  way_up_to = record {
    fast = λ i l. mid_up_to total grid (fast_state grid names whole i) (keeps.surface.amid i l).lawful (fast_room i l);
    slow = whole_up_to total grid (surface_after grid names whole) keeps.surface.after slow_room;
    ocean = sea_up_to;
  }

-- ALL OF A RUN

module _ (steps : ℕ) (grid : Grid) (names : Names) (start : Whole) (ground : IsGround grid) (can : CanRun steps grid names start) where
  abbrev state : ℕ → Whole
  state n = state_after n grid names start

  pub states_up_to : (n : ℕ) → n ≤ steps → IsWholeUpTo (budget_of steps grid names start) grid (state_after n grid names start)
  states_up_to n l =
      let on = on_course steps grid names start ground can n l in
      whole_up_to (budget_of steps grid names start) grid (state n) on.can.is_whole
      (λ q. let a = held_less (steps - n) grid names (state n) on.can q in let b = on.within q in omega (arith, ints, a, b))

  pub ways_up_to : (n : ℕ) → n < steps → IsWayUpTo (budget_of steps grid names start) grid names (state_after n grid names start)
  ways_up_to n l =
      let on = on_course steps grid names start ground can n (omega arith) in
      way_up_to (steps - suc n) grid names (state n) ground (can_more steps grid names start ground can n l on) (budget_of steps grid names start)
      (λ q.
      let same = ap (λ (k : ℕ). budget_of k grid names (state n) q) (let e : suc (steps - suc n) ≡ steps - n = omega arith in e) in
      let own = on.within q in
      omega (arith, ints, same, own))
