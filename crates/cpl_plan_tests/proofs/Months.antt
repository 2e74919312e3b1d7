-- The month in which a plan starts.
use Rattle.std.proofs.Common.{◌≡◌, ◌∙◌, sym, ap, subst, ℕ, arith, to_z, of_z, w64}
use Rattle.std.specs.Prelude.{◌≤ℤ◌, unsigned_abs}
use Rattle.std.proofs.lemmas.Int.{ints}
use Rattle.std.proofs.Math.IntN.{zero-*ℤ}
use Rattle.cpl_namelist.specs.declared.names.Names.{Names}
use Rattle.cpl_namelist.specs.Civil.{Fits, civil_after}
use Rattle.cpl_state.specs.declared.whole.Whole.{Whole}
use Rattle.cpl_state.specs.CouplingStep.{month_of}
use Rattle.cpl_laws.proofs.FastRun.{times_more}
use Rattle.cpl_plan.specs.Faults.{last_second}
use Rattle.cpl_plan.specs.Plans.{PlanParts, IsPlan}
use Rattle.cpl_whole.proofs.Dates.{abs_more, fits_before}

module _ (plan : PlanParts) (is : IsPlan plan) where
  -- the run ends no earlier than it starts
  ends_later : plan.start.elapsed ≤ℤ last_second plan.names plan.start
  ends_later =
      let dt = is.names_are.dt in
      let more = times_more 0 plan.names.steps plan.names.dt (omega (arith, ints, dt.0)) (omega arith) in
      let none = zero-*ℤ plan.names.dt in
      omega (arith, ints, more, none)

  start_fits : Fits plan.names.start (unsigned_abs plan.start.elapsed)
  start_fits =
      let least = is.start_is.stored.elapsed.0 in
      fits_before plan.names.start (unsigned_abs plan.start.elapsed) (unsigned_abs (last_second plan.names plan.start)) (abs_more plan.start.elapsed (last_second plan.names plan.start) least ends_later) is.date

  -- the seconds of the start are the same as a word has them
  same_word : to_z w64 (of_z w64 plan.start.elapsed) ≡ plan.start.elapsed
  same_word = let stored = is.start_is.stored.elapsed in omega (arith, ints, stored.0, stored.1)

  module _ (names : Names) (start : Whole) (of_names : names ≡ plan.names) (of_start : start ≡ plan.start) where
    word_is : unsigned_abs (to_z w64 (of_z w64 start.elapsed)) ≡ unsigned_abs plan.start.elapsed
    word_is = ap (λ (w : Whole). unsigned_abs (to_z w64 (of_z w64 w.elapsed))) of_start ∙ ap unsigned_abs same_word

    -- the moment of the start has a date
    pub word_fits : Fits names.start (unsigned_abs (to_z w64 (of_z w64 start.elapsed)))
    word_fits =
        let own = subst (λ (n : ℕ). Fits plan.names.start n) (sym word_is) start_fits in
        subst (λ (n : Names). Fits n.start (unsigned_abs (to_z w64 (of_z w64 start.elapsed)))) (sym of_names) own

    -- its month is that of the state
    pub month_same : (month : ℕ) → month ≡ (civil_after names.start (unsigned_abs (to_z w64 (of_z w64 start.elapsed)))).1 → month ≡ month_of plan.names plan.start
    unfolding month_of
    month_same month e = e ∙ (λ i. (civil_after (of_names i).start (word_is i)).1)
